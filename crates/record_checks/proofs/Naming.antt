-- Whether one of the first items passes a test, and whether all names pass one, item by item.
use Rattle.std.proofs.Common.{◌≡◌, ℕ, zero, suc, ◌+◌, ◌-◌, ◌<◌, ◌≤◌, Bool, true, false, List, [], ◌∷◌, length, take, drop, Some, refl, sym, ap, ◌∙◌, subst, arith}
use Rattle.std.specs.Prelude.{All, slice_get, ◌↔◌, ◌||◌}
use Rattle.std.specs.List.{list_any}
use Rattle.std.proofs.lemmas.List.{drop_all}
use Rattle.std.proofs.lemmas.List.Elements.{All-nil, All-cons, All-head, All-tail}
use Rattle.cloud_memory.proofs.Lists.{front_gone}

module _ {A : Type 0} (t : A → Bool) where
  any_next : (x : A) (rest : List A) (n : ℕ) → t x ≡ false → list_any t (take (suc n) (x ∷ rest)) ≡ list_any t (take n rest)
  any_next x rest n other = ap (λ (b : Bool). b || list_any t (take n rest)) other

  -- the item isn't it
  pub later : (all items rest : List A) (x : A) (count i : ℕ) → i < count → list_any t (take count all) ≡ list_any t (take (count - i) items) → items ≡ x ∷ rest
      → t x ≡ false → list_any t (take count all) ≡ list_any t (take (count - (i + 1)) rest)
  later all items rest x count i below so here other =
      let left : count - i ≡ suc (count - (i + 1)) = omega (arith, below) in
      so ∙ (λ j. list_any t (take (left j) (here j))) ∙ any_next x rest (count - (i + 1)) other

  -- the item is it
  pub found : (all items rest : List A) (x : A) (count i : ℕ) → i < count → list_any t (take count all) ≡ list_any t (take (count - i) items) → items ≡ x ∷ rest
      → t x ≡ true → list_any t (take count all) ≡ true
  found all items rest x count i below so here it =
      let left : count - i ≡ suc (count - (i + 1)) = omega (arith, below) in
      so ∙ (λ j. list_any t (take (left j) (here j))) ∙ ap (λ (b : Bool). b || list_any t (take (count - (i + 1)) rest)) it

  none_in : (n : ℕ) → list_any t (take n []) ≡ false
  none_in zero = refl
  none_in (suc n) = refl

  -- no item is left
  pub none_left : (all items : List A) (count i : ℕ) → list_any t (take count all) ≡ list_any t (take (count - i) items) → items ≡ [] → list_any t (take count all) ≡ false
  none_left all items count i so none = so ∙ ap (λ (l : List A). list_any t (take (count - i) l)) none ∙ none_in (count - i)

  -- none of the items was it
  pub none_found : (all items : List A) (count i : ℕ) → count ≤ i → list_any t (take count all) ≡ list_any t (take (count - i) items) → list_any t (take count all) ≡ false
  none_found all items count i past so = let none : count - i ≡ 0 = omega (arith, past) in so ∙ ap (λ (n : ℕ). list_any t (take n items)) none

module _ {A : Type 0} (P : A → Type 0) where
  -- all pass where the rest does
  pub passes : (xs : List A) (i : ℕ) (x : A) → slice_get xs i ≡ Some x → P x → All P xs ↔ All P (drop i xs) → All P xs ↔ All P (drop (i + 1) xs)
  passes xs i x at has so = (
    λ all. All-tail P x (drop (i + 1) xs) (subst (All P) (front_gone xs i x at) (so.0 all)),
    λ rest. so.1 (subst (All P) (sym (front_gone xs i x at)) (All-cons P x (drop (i + 1) xs) has rest)),
  )

  pub fails : (xs : List A) (i : ℕ) (x : A) → slice_get xs i ≡ Some x → ¬ (P x) → All P xs ↔ All P (drop i xs) → ¬ (All P xs)
  fails xs i x at lacks so all = lacks (All-head P x (drop (i + 1) xs) (subst (All P) (front_gone xs i x at) (so.0 all)))

  pub all_pass : (xs : List A) (i : ℕ) → length xs ≤ i → All P xs ↔ All P (drop i xs) → All P xs
  all_pass xs i past so = so.1 (subst (All P) (sym (drop_all i xs past)) (All-nil P))
