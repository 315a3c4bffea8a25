-- Sums over the entries of a finite map, as keys come, change and go.
use Rattle.std.specs.Prelude.{◌≡◌, ℕ, ◌+◌, Bool, true, false, List, [], ◌∷◌, Option, Some, None, sum_by, ◌&&◌}
use Rattle.std.proofs.Common.{T, refl, sym, ap, ◌∙◌, arith, cond, true≢false, inl, inr}
use Rattle.std.proofs.lemmas.List.Sums.{sum_by-cons}
use Rattle.std.proofs.lemmas.Bool.{cases_Bool, cond-true, cond-false}
use Rattle.std.specs.declared.cmp.Ordering.{Ordering}
use Rattle.std.specs.declared.cmp.Ordering.TheVariants.{Less, Equal, Greater}
use Rattle.std.specs.Ordering.{eq_by_cmp, is_eq, is_lt}
use Rattle.std.specs.Cmp.{IsTotalOrder, tied_itself}
use Rattle.std.specs.FinMap.{find, put, FinMap, get, insert, remove, entries, entries-insert, entries_sorted, is_sorted, get-entries, get-insert, get-remove, same_map, IsAntisymmetric}
use Rattle.std.specs.FinMap.Entries.{by_order, below_all}

is_eq-at : (r : Ordering) → is_eq r ≡ true → r ≡ Equal
is_eq-at Less e = absurd (true≢false (sym e))
is_eq-at Equal e = refl
is_eq-at Greater e = absurd (true≢false (sym e))

pub both-parts : (a b : Bool) → T (a && b) → T a × T b
both-parts true b p = (tt, p)
both-parts false b p = absurd p

pub below-parts : (r : Ordering) → T (is_lt r) → r ≡ Less
below-parts Less p = refl
below-parts Equal p = absurd p
below-parts Greater p = absurd p

none-apart : {X : Type 0} (t : Bool) (x : X) (o : Option X) → cond t (Some x) o ≡ None → (t ≡ false) × (o ≡ None)
none-apart true x o e = absurd (let no : Some x ≡ None = e in cc)
none-apart false x o e = (refl, e)

module _ {K X : Type 0} {R : K → K → Ordering} (total : IsTotalOrder R) (f : K × X → ℕ) where
  sum_by-put : (k : K) (v : X) (es : List (K × X)) → find R k es ≡ None → sum_by f (put R k v es) ≡ f (k, v) + sum_by f es
  sum_by-put k v [] none = sum_by-cons f (k, v) []
  sum_by-put k v (e ∷ es) none =
      let parts = none-apart (eq_by_cmp R k e.0) e.1 (find R k es) none in
      elim (R k e.0) as (λ r. R k e.0 ≡ r → sum_by f (by_order r ((k, v) ∷ e ∷ es) ((e.0, v) ∷ es) (e ∷ put R k v es)) ≡ f (k, v) + sum_by f (e ∷ es)) [
        | Less ↦ λ p. sum_by-cons f (k, v) (e ∷ es)
        | Equal ↦ λ p. absurd (true≢false (sym (ap is_eq p) ∙ parts.0))
        | Greater ↦ λ p. omega (arith, sum_by-cons f e (put R k v es), sum_by-cons f e es, sum_by-put k v es parts.1)
      ] refl

  -- a new key
  pub sum_by-insert_new : (m : FinMap R X) (k : K) (v : X) → get m k ≡ None → sum_by f (entries (insert m k v)) ≡ f (k, v) + sum_by f (entries m)
  sum_by-insert_new m k v none = ap (sum_by f) (entries-insert total m k v) ∙ sum_by-put k v (entries m) (sym (get-entries m k) ∙ none)

module _ {K X : Type 0} {R : K → K → Ordering} (total : IsTotalOrder R) (exact : IsAntisymmetric R) where
  gone : (m : FinMap R X) (k : K) → get (remove m k) k ≡ None
  gone m k = get-remove total m k k ∙ cond-true _ _ _ (ap is_eq (tied_itself total k))

  -- to write over a key is to take it out and put it in again
  pub insert-remove : (m : FinMap R X) (k : K) (v : X) → insert m k v ≡ insert (remove m k) k v
  insert-remove m k v = same_map total exact _ _ (λ q.
      elim (cases_Bool (eq_by_cmp R q k)) [
        | inl t ↦ get-insert total m k v q ∙ cond-true _ _ _ t ∙ sym (get-insert total (remove m k) k v q ∙ cond-true _ _ _ t)
        | inr n ↦ get-insert total m k v q ∙ cond-false _ _ _ n ∙ sym (get-insert total (remove m k) k v q ∙ cond-false _ _ _ n ∙ get-remove total m k q ∙ cond-false _ _ _ n)
      ])

  -- to write the value that a key has changes nothing
  pub insert-same : (m : FinMap R X) (k : K) (v : X) → get m k ≡ Some v → insert m k v ≡ m
  insert-same m k v is = same_map total exact _ _ (λ q.
      elim (cases_Bool (eq_by_cmp R q k)) [
        | inl t ↦ get-insert total m k v q ∙ cond-true _ _ _ t ∙ sym (ap (get m) (exact q k (is_eq-at _ t)) ∙ is)
        | inr n ↦ get-insert total m k v q ∙ cond-false _ _ _ n
      ])

  -- a key that is taken out
  pub sum_by-remove : (f : K × X → ℕ) (m : FinMap R X) (k : K) (v : X) → get m k ≡ Some v → f (k, v) + sum_by f (entries (remove m k)) ≡ sum_by f (entries m)
  sum_by-remove f m k v is = sym (sum_by-insert_new total f (remove m k) k v (gone m k)) ∙ ap (λ n. sum_by f (entries n)) (sym (insert-remove m k v) ∙ insert-same m k v is)

  -- a key that is written over
  pub sum_by-insert_over : (f : K × X → ℕ) (m : FinMap R X) (k : K) (old v : X) → get m k ≡ Some old → f (k, old) + sum_by f (entries (insert m k v)) ≡ f (k, v) + sum_by f (entries m)
  sum_by-insert_over f m k old v is =
      let taken = sum_by-remove f m k old is in
      let put_in = sum_by-insert_new total f (remove m k) k v (gone m k) in
      let same = ap (λ n. sum_by f (entries n)) (insert-remove m k v) in
      omega arith

  -- what is below all keys isn't found
  below-absent : (q : K) (es : List (K × X)) → T (below_all R q es) → find R q es ≡ None
  below-absent q [] h = refl
  below-absent q (e ∷ es) h =
      let parts = both-parts (is_lt (R q e.0)) (below_all R q es) h in
      cond-false _ _ _ (ap is_eq (below-parts (R q e.0) parts.0)) ∙ below-absent q es parts.1

  alike : (f g : K × X → ℕ) (es : List (K × X)) → T (is_sorted R es) → ((k : K) (v : X) → find R k es ≡ Some v → f (k, v) ≡ g (k, v)) → sum_by f es ≡ sum_by g es
  alike f g [] sorted same = refl
  alike f g (e ∷ es) sorted same =
      let parts = both-parts (below_all R e.0 es) (is_sorted R es) sorted in
      let head : f e ≡ g e = same e.0 e.1 (cond-true _ _ _ (ap is_eq (tied_itself total e.0))) in
      let rest = alike f g es parts.1 (λ k v is.
      elim (cases_Bool (eq_by_cmp R k e.0)) [
        | inl t ↦ absurd (let no : None ≡ Some v = sym (ap (λ q. find R q es) (exact k e.0 (is_eq-at _ t)) ∙ below-absent e.0 es parts.0) ∙ is in cc)
        | inr n ↦ same k v (cond-false _ _ _ n ∙ is)
      ]) in
      omega (arith, sum_by-cons f e es, sum_by-cons g e es)

  -- two sums of what is the same at each key
  pub sum_by-alike : (f g : K × X → ℕ) (m : FinMap R X) → ((k : K) (v : X) → get m k ≡ Some v → f (k, v) ≡ g (k, v)) → sum_by f (entries m) ≡ sum_by g (entries m)
  sum_by-alike f g m same = alike f g (entries m) (entries_sorted m) (λ k v is. same k v (get-entries m k ∙ is))

-- a sum of what each entry gives to two sums
pub sum_by-parts : {A : Type 0} (f g h : A → ℕ) (es : List A) → ((e : A) → f e + g e ≡ h e) → sum_by f es + sum_by g es ≡ sum_by h es
sum_by-parts f g h [] both = refl
sum_by-parts f g h (e ∷ es) both = let here = both e in let rest = sum_by-parts f g h es both in omega (arith, sum_by-cons f e es, sum_by-cons g e es, sum_by-cons h e es)
