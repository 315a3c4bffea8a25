-- Batches together, and how full they are.
use Rattle.std.proofs.Common.{◌≡◌, ◌≢◌, ℕ, ◌≤◌, Bool, true, false, List, [], ◌∷◌, ◌++◌, length, map, refl, sym, ap, ◌∙◌, arith, length-append, append_assoc, eq-eqb, true≢false}
use Rattle.std.specs.Prelude.{◌==◌, if◌then◌else◌}
use Rattle.std.specs.List.{flat_map}
use Rattle.std.proofs.lemmas.Bool.{eqb-true}
use Rattle.std.proofs.lemmas.List.Concat.{flat_map-cons}
use Rattle.cloud_memory.specs.MessageFields.Fingerprints.{batch_limit}
use Rattle.cloud_disk.specs.CloudAreas.Checkpoints.{AreFull}
use Rattle.checkpoints.specs.Picking.{batched}

full_cons : (n : ℕ) (ns : List ℕ) → n ≡ 256 → AreFull ns → AreFull (n ∷ ns)
full_cons n [] is full = (omega (arith, is), omega (arith, is))
full_cons n (m ∷ ns) is full = (is, full)

module _ {X : Type 0} where
  abbrev itself : List X → List X
  itself xs = xs

  abbrev step : List X → X → List X → Bool → List (List X)
  step some x xs b = if b then some ∷ batched (x ∷ []) xs else batched (some ++ x ∷ []) xs

  pub flat_batched : (some xs : List X) → flat_map itself (batched some xs) ≡ some ++ xs
  flat_batched [] [] = refl
  flat_batched (y ∷ some) [] = flat_map-cons itself (y ∷ some) []
  flat_batched some (x ∷ xs) = by_test (flat_batched (x ∷ []) xs) (flat_batched (some ++ x ∷ []) xs) (length some == batch_limit)
    where
      by_test : flat_map itself (batched (x ∷ []) xs) ≡ x ∷ xs → flat_map itself (batched (some ++ x ∷ []) xs) ≡ (some ++ x ∷ []) ++ xs → (b : Bool) → flat_map itself (step some x xs b) ≡ some ++ x ∷ xs
      by_test one more true = flat_map-cons itself some (batched (x ∷ []) xs) ∙ ap (λ ys. some ++ ys) one
      by_test one more false = more ∙ append_assoc some (x ∷ []) xs

  abbrev len_of : List X → ℕ
  len_of xs = length xs

  pub full_batched : (some xs : List X) → length some ≤ 256 → AreFull (map len_of (batched some xs))
  full_batched [] [] l = tt
  full_batched (y ∷ some) [] l = (omega arith, omega (arith, l))
  full_batched some (x ∷ xs) l = by_test (full_batched (x ∷ []) xs (omega arith)) (full_batched (some ++ x ∷ []) xs) (length some == batch_limit) refl
    where
      by_test : AreFull (map len_of (batched (x ∷ []) xs)) → (length (some ++ x ∷ []) ≤ 256 → AreFull (map len_of (batched (some ++ x ∷ []) xs)))
          → (b : Bool) → (length some == batch_limit) ≡ b → AreFull (map len_of (step some x xs b))
      by_test one more true is = full_cons (length some) (map len_of (batched (x ∷ []) xs)) (eqb-true (length some) 256 is) one
      by_test one more false is = more (omega (arith, length-append some (x ∷ []), l, not_full))
        where
          not_full : length some ≢ 256
          not_full e = true≢false (sym (eq-eqb (length some) 256 e) ∙ is)
