-- A finite map with each value seen through a function, as without its account.
use Rattle.std.specs.Prelude.{◌≡◌, ℕ, Bool, true, false, ◌&&◌, List, [], ◌∷◌, length, map, Option, Some, option_map, sum_by}
use Rattle.std.proofs.Common.{T, suc, refl, sym, ap, ◌∙◌, subst, arith, cond, inl, inr}
use Rattle.std.proofs.lemmas.List.Sums.{sum_by-cons}
use Rattle.std.proofs.lemmas.Bool.{cases_Bool, cond-true, cond-false}
use Rattle.std.specs.declared.cmp.Ordering.{Ordering}
use Rattle.std.specs.Ordering.{eq_by_cmp, is_lt}
use Rattle.std.specs.Cmp.{IsTotalOrder}
use Rattle.std.specs.FinMap.{find, FinMap, get, insert, remove, empty, entries, len, from_sorted, entries_sorted, entries-from_sorted, get-entries, get-empty, get-insert, get-remove, len-entries, is_sorted, same_map, IsAntisymmetric}
use Rattle.std.specs.FinMap.Entries.{below_all}

cond-through : {X Y : Type 0} (f : X → Y) (b : Bool) (x : X) (o : Option X) → cond b (Some (f x)) (option_map f o) ≡ option_map f (cond b (Some x) o)
cond-through f true x o = refl
cond-through f false x o = refl

module _ {K X Y : Type 0} (f : X → Y) where
  abbrev pub through : K × X → K × Y
  through e = (e.0, f e.1)

  below-through : (R : K → K → Ordering) (x : K) (es : List (K × X)) → below_all R x (map through es) ≡ below_all R x es
  below-through R x [] = refl
  below-through R x (e ∷ es) = ap (λ b. is_lt (R x e.0) && b) (below-through R x es)

  sorted-through : (R : K → K → Ordering) (es : List (K × X)) → is_sorted R (map through es) ≡ is_sorted R es
  sorted-through R [] = refl
  sorted-through R (e ∷ es) = ap (λ b. b && is_sorted R (map through es)) (below-through R e.0 es) ∙ ap (λ b. below_all R e.0 es && b) (sorted-through R es)

  find-through : (R : K → K → Ordering) (q : K) (es : List (K × X)) → find R q (map through es) ≡ option_map f (find R q es)
  find-through R q [] = refl
  find-through R q (e ∷ es) = ap (cond (eq_by_cmp R q e.0) (Some (f e.1))) (find-through R q es) ∙ cond-through f (eq_by_cmp R q e.0) e.1 (find R q es)

  length-through : (es : List (K × X)) → length (map through es) ≡ length es
  length-through [] = refl
  length-through (e ∷ es) = ap suc (length-through es)

  sum_by-through : (g : K × Y → ℕ) (es : List (K × X)) → sum_by g (map through es) ≡ sum_by (λ e. g (through e)) es
  sum_by-through g [] = refl
  sum_by-through g (e ∷ es) = omega (arith, sum_by-cons g (through e) (map through es), sum_by-cons (λ (x : K × X). g (through x)) e es, sum_by-through g es)

module _ {K X Y : Type 0} {R : K → K → Ordering} (f : X → Y) where
  -- the same keys, each with what the function makes of its value
  abbrev pub shown : FinMap R X → FinMap R Y
  shown m = from_sorted (map (through f) (entries m))

  pub entries-shown : (m : FinMap R X) → entries (shown m) ≡ map (through f) (entries m)
  entries-shown m = entries-from_sorted R (map (through f) (entries m)) (subst T (sym (sorted-through f R (entries m))) (entries_sorted m))

  pub get-shown : (m : FinMap R X) (q : K) → get (shown m) q ≡ option_map f (get m q)
  get-shown m q = get-entries (shown m) q ∙ ap (find R q) (entries-shown m) ∙ find-through f R q (entries m) ∙ ap (option_map f) (sym (get-entries m q))

  pub len-shown : (m : FinMap R X) → len (shown m) ≡ len m
  len-shown m = len-entries (shown m) ∙ ap length (entries-shown m) ∙ length-through f (entries m) ∙ sym (len-entries m)

  pub sum_by-shown : (g : K × Y → ℕ) (m : FinMap R X) → sum_by g (entries (shown m)) ≡ sum_by (λ e. g (through f e)) (entries m)
  sum_by-shown g m = ap (sum_by g) (entries-shown m) ∙ sum_by-through f g (entries m)

  module _ (total : IsTotalOrder R) (exact : IsAntisymmetric R) where
    pub shown-empty : shown empty ≡ empty
    shown-empty = same_map total exact _ _ (λ q. get-shown empty q ∙ ap (option_map f) (get-empty R q) ∙ sym (get-empty R q))

    pub shown-insert : (m : FinMap R X) (k : K) (v : X) → shown (insert m k v) ≡ insert (shown m) k (f v)
    shown-insert m k v = same_map total exact _ _ (λ q.
        let left = get-shown (insert m k v) q ∙ ap (option_map f) (get-insert total m k v q) in
        let right = get-insert total (shown m) k (f v) q in
        elim (cases_Bool (eq_by_cmp R q k)) [
          | inl t ↦ left ∙ ap (option_map f) (cond-true _ _ _ t) ∙ sym (right ∙ cond-true _ _ _ t)
          | inr n ↦ left ∙ ap (option_map f) (cond-false _ _ _ n) ∙ sym (right ∙ cond-false _ _ _ n ∙ get-shown m q)
        ])

    pub shown-remove : (m : FinMap R X) (k : K) → shown (remove m k) ≡ remove (shown m) k
    shown-remove m k = same_map total exact _ _ (λ q.
        let left = get-shown (remove m k) q ∙ ap (option_map f) (get-remove total m k q) in
        let right = get-remove total (shown m) k q in
        elim (cases_Bool (eq_by_cmp R q k)) [
          | inl t ↦ left ∙ ap (option_map f) (cond-true _ _ _ t) ∙ sym (right ∙ cond-true _ _ _ t)
          | inr n ↦ left ∙ ap (option_map f) (cond-false _ _ _ n) ∙ sym (right ∙ cond-false _ _ _ n ∙ get-shown m q)
        ])
