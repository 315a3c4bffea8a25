-- What is moved slot by slot, one behind another.
use Rattle.std.proofs.Common.{◌≡◌, ℕ, zero, suc, ◌+◌, ◌<◌, ◌≤◌, List, [], ◌∷◌, ◌++◌, length, map, set, take, drop, Option, Some, None, get_or, refl, sym, ap, ◌∙◌, arith, append-nil, append_assoc, length-set}
use Rattle.std.proofs.lemmas.List.{take_more, take_more_set, take_all, drop_more, drop_all, drop-drop}
use Rattle.checkpoints.specs.ContainerLog.Places.{place_of, end_after, end_of_laid}
use Rattle.checkpoints.proofs.ContainerLog.Least.{place_behind}
use Rattle.checkpoints.specs.Picking.{onto, picked}
use Rattle.checkpoints.proofs.Picks.{picked-append}
use Rattle.compact_memories.specs.Relaid.{relaid, RelaidSoFar}

pub laid_grows : (end : ℕ) (lens : List ℕ) → end ≤ end_of_laid end lens
laid_grows end [] = omega arith
laid_grows end (len ∷ lens) = let here = place_behind end len in let rest = laid_grows (end_after end len) lens in omega (arith, here, rest)

drop-set : {X : Type 0} → (xs : List X) (i : ℕ) (y : X) → drop (suc i) (set xs i y) ≡ drop (suc i) xs
drop-set [] i y = refl
drop-set (x ∷ xs) zero y = refl
drop-set (x ∷ xs) (suc i) y = drop-set xs i y

more : (i : ℕ) → i + 1 ≡ suc i
more i = omega arith

module _ {E X : Type 0} (f : Option E → Option X) (len : X → ℕ) (put : ℕ → X → X) where
  abbrev SoFar : ℕ → List (Option E) → List (Option E) → ℕ → ℕ → Type 0
  SoFar start first new slot end = RelaidSoFar f len put start first new slot end

  pub none_relaid : (start : ℕ) (xs : List (Option E)) → RelaidSoFar f len put start xs xs 0 start
  none_relaid start xs = record { done = refl; whole = refl; left = refl; long = refl }

  -- what is left begins with what the slot has
  rest_of : (slots : List (Option E)) (slot : ℕ) → slot < length slots → (r : Option X) → f (get_or slots slot None) ≡ r
      → picked f (drop slot slots) ≡ onto r (picked f (drop (slot + 1) slots))
  rest_of slots slot below r is = ap (picked f) (drop_more slots slot None below) ∙ ap (λ (r : Option X). onto r (picked f (drop (slot + 1) slots))) is

  pub ends_within : (slots : List (Option E)) (slot end limit : ℕ) (x : X) → slot < length slots → f (get_or slots slot None) ≡ Some x
      → end_of_laid end (map len (picked f (drop slot slots))) < limit → place_of end (len x) + len x < limit
  ends_within slots slot end limit x below is within =
      let same = ap (λ (xs : List X). end_of_laid end (map len xs)) (rest_of slots slot below (Some x) is) in
      let grows = laid_grows (end_after end (len x)) (map len (picked f (drop (slot + 1) slots))) in
      omega (arith, within, same, grows)

  module _ (start : ℕ) (first old : List (Option E)) (slot end : ℕ) (s : RelaidSoFar f len put start first old slot end) (below : slot < length old) where
    abbrev here : Option E
    here = get_or old slot None

    abbrev behind : List X
    behind = picked f (drop (slot + 1) first)

    later : drop (slot + 1) old ≡ drop (slot + 1) first
    later = sym (drop-drop 1 slot old) ∙ ap (drop 1) s.left ∙ drop-drop 1 slot first

    rest_is : (r : Option X) → f here ≡ r → picked f (drop slot first) ≡ onto r behind
    rest_is r is = ap (picked f) (sym s.left) ∙ rest_of old slot below r is ∙ ap (λ (xs : List (Option E)). onto r (picked f xs)) later

    pub one_kept : f here ≡ None → RelaidSoFar f len put start first old (slot + 1) end
    one_kept is = record {
      done =
          ap (λ (xs : List X). xs ++ relaid len put end behind)
          (ap (picked f) (take_more old slot None below) ∙ picked-append f (take slot old) (here ∷ []) ∙ ap (λ (r : Option X). picked f (take slot old) ++ onto r []) is ∙ append-nil (picked f (take slot old)))
          ∙ ap (λ (xs : List X). picked f (take slot old) ++ relaid len put end xs) (sym (rest_is None is))
          ∙ s.done;
      whole = ap (λ (xs : List X). end_of_laid end (map len xs)) (sym (rest_is None is)) ∙ s.whole;
      left = later;
      long = s.long;
    }

    pub one_moved : (x : X) → f here ≡ Some x → (o : Option E) → f o ≡ Some (put (place_of end (len x)) x) → (new : List (Option E)) → new ≡ set old slot o
        → RelaidSoFar f len put start first new (slot + 1) (end_after end (len x))
    one_moved x is o moved new new_is = record {
      done =
          ap (λ (xs : List X). xs ++ relaid len put (end_after end (len x)) behind)
          (ap (λ (xs : List (Option E)). picked f (take (slot + 1) xs)) new_is ∙ ap (picked f) (take_more_set old slot o below) ∙ picked-append f (take slot old) (o ∷ [])
          ∙ ap (λ (r : Option X). picked f (take slot old) ++ onto r []) moved)
          ∙ append_assoc (picked f (take slot old)) (put (place_of end (len x)) x ∷ []) (relaid len put (end_after end (len x)) behind)
          ∙ ap (λ (xs : List X). picked f (take slot old) ++ relaid len put end xs) (sym (rest_is (Some x) is))
          ∙ s.done;
      whole = ap (λ (xs : List X). end_of_laid end (map len xs)) (sym (rest_is (Some x) is)) ∙ s.whole;
      left =
          ap (drop (slot + 1)) new_is
          ∙ ap (λ (n : ℕ). drop n (set old slot o)) (more slot)
          ∙ drop-set old slot o
          ∙ ap (λ (n : ℕ). drop n old) (sym (more slot))
          ∙ later;
      long = ap length new_is ∙ length-set old slot o ∙ s.long;
    }

  module _ (start : ℕ) (first new : List (Option E)) (slot end : ℕ) (past : length first ≤ slot) (s : RelaidSoFar f len put start first new slot end) where
    none_left : drop slot first ≡ []
    none_left = drop_all slot first past

    pub all_relaid : picked f new ≡ relaid len put start (picked f first)
    all_relaid =
        let long = s.long in
        ap (picked f) (sym (take_all slot new (omega (arith, long, past))))
        ∙ sym (append-nil (picked f (take slot new)))
        ∙ ap (λ (xs : List (Option E)). picked f (take slot new) ++ relaid len put end (picked f xs)) (sym none_left)
        ∙ s.done

    pub end_is : end ≡ end_of_laid start (map len (picked f first))
    end_is = ap (λ (xs : List (Option E)). end_of_laid end (map len (picked f xs))) (sym none_left) ∙ s.whole
