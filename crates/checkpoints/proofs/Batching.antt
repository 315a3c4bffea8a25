-- Batches, item by item.
use Rattle.std.proofs.Common.{◌≡◌, ◌<◌, ◌≤◌, Bool, true, false, List, [], ◌∷◌, ◌++◌, length, refl, sym, ap, ◌∙◌, arith, eq-eqb, length-append}
use Rattle.std.specs.Prelude.{if◌then◌else◌, ◌==◌}
use Rattle.std.proofs.lemmas.Bool.{ne_eqb}
use Rattle.cloud_memory.specs.MessageFields.Fingerprints.{batch_limit}
use Rattle.checkpoints.specs.Picking.{batched, batches, with_batch}

module _ {X : Type 0} where
  pub one_more : (some : List X) (x : X) (rest : List X) → length some < 256 → batched some (x ∷ rest) ≡ batched (some ++ x ∷ []) rest
  one_more some x rest few = ap (λ b. if b then some ∷ batched (x ∷ []) rest else batched (some ++ x ∷ []) rest) (ne_eqb (length some) 256 (λ e. let l : length some ≡ 256 = e in omega (arith, few, l)))

  pub full_one : (some : List X) (x : X) (rest : List X) → length some ≡ 256 → batched some (x ∷ rest) ≡ some ∷ batched (x ∷ []) rest
  full_one some x rest full = ap (λ b. if b then some ∷ batched (x ∷ []) rest else batched (some ++ x ∷ []) rest) (eq-eqb (length some) 256 full)

  front : (some : List X) (more : List (List X)) → 1 ≤ length some → with_batch some more ≡ some ∷ more
  front [] more l = absurd (omega arith)
  front (x ∷ xs) more l = refl

  pub at_end : (some : List X) → batched some [] ≡ with_batch some (batches [])
  at_end [] = refl
  at_end (x ∷ xs) = refl

  pub at_full : (some rest : List X) → length some ≡ 256 → batched some rest ≡ with_batch some (batches rest)
  at_full some [] full = at_end some
  at_full some (x ∷ rest) full = full_one some x rest full ∙ sym (front some (batched (x ∷ []) rest) (omega (arith, full)))

  -- a batch that has something is there
  some_batched : (some xs : List X) → 1 ≤ length some → batched some xs ≡ [] → ⊥
  some_batched [] [] l e = omega (arith, l)
  some_batched (y ∷ some) [] l e = absurd (let no : (y ∷ some) ∷ [] ≡ [] = e in cc)
  some_batched some (x ∷ xs) l e = by_test (some_batched (some ++ x ∷ []) xs (omega (arith, length-append some (x ∷ [])))) (length some == batch_limit) refl
    where
      by_test : (batched (some ++ x ∷ []) xs ≡ [] → ⊥) → (b : Bool) → (length some == batch_limit) ≡ b → ⊥
      by_test later true is = absurd (let no : some ∷ batched (x ∷ []) xs ≡ [] = sym (ap (λ t. if t then some ∷ batched (x ∷ []) xs else batched (some ++ x ∷ []) xs) is) ∙ e in cc)
      by_test later false is = later (sym (ap (λ t. if t then some ∷ batched (x ∷ []) xs else batched (some ++ x ∷ []) xs) is) ∙ e)

  pub no_batches : (xs : List X) → batches xs ≡ [] → xs ≡ []
  no_batches [] e = refl
  no_batches (x ∷ xs) e = absurd (some_batched (x ∷ []) xs (omega arith) e)
