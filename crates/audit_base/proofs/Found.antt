-- What is found in a map is among its entries, and whoever owns a fingerprint is counted.
use Rattle.std.proofs.Common.{◌≡◌, ℕ, ◌<◌, Bool, true, cond, List, [], ◌∷◌, Some, refl, sym, ap, ◌∙◌, subst, arith, inl, inr}
use Rattle.std.specs.Ordering.{is_eq, eq_by_cmp}
use Rattle.std.specs.declared.cmp.Ordering.{Ordering}
use Rattle.std.specs.declared.cmp.Ordering.TheVariants.{Less, Equal, Greater}
use Rattle.std.specs.Cmp.{tied_itself}
use Rattle.std.specs.List.{Contains, count_by}
use Rattle.std.specs.FinMap.{FinMap, get, entries, get-entries, find}
use Rattle.std.proofs.lemmas.Bool.{cases_Bool}
use Rattle.std.proofs.lemmas.Option.{same_Some}
use Rattle.std.proofs.lemmas.List.Sums.{sum_by-cons}
use Rattle.cloud_memory.proofs.UserDedup.Owned.{contains_here, contains_later}
use Rattle.cloud_memory.proofs.ShareIndexLaws.Placing.{fp_total}
use Rattle.cloud_memory.specs.ShareIndex.key.Owner.{Owner}
use Rattle.cloud_memory.specs.CdBase.Order.{fp_cmp}
use Rattle.cloud_memory.specs.ShareIndex.Order.{owner_cmp, owner_exact}
use Rattle.cloud_memory.specs.ShareIndex.Shares.{owners_of}

pub is_equal : (o : Ordering) → is_eq o ≡ true → o ≡ Equal
is_equal Less e = absurd cc
is_equal Equal e = refl
is_equal Greater e = absurd cc

module _ {K X : Type 0} (R : K → K → Ordering) (exact : (x y : K) → R x y ≡ Equal → x ≡ y) where
  found_in : (q : K) (es : List (K × X)) (v : X) → find R q es ≡ Some v → Contains es (q, v)
  found_in q [] v e = absurd cc
  found_in q (x ∷ es) v e =
      elim (cases_Bool (eq_by_cmp R q x.0)) [
        | inl tied ↦
            let key : q ≡ x.0 = exact q x.0 (is_equal (R q x.0) tied) in
            let value : x.1 ≡ v = same_Some x.1 v (rw tied at e) in
            let pair : ◌≡◌ {A = K × X} x (q, v) = λ i. (sym key i, value i) in
            subst (Contains (x ∷ es)) pair (contains_here x es)
        | inr apart ↦ contains_later x es (q, v) (found_in q es v (rw apart at e))
      ]

  pub got_in : (m : FinMap R X) (q : K) (v : X) → get m q ≡ Some v → Contains (entries m) (q, v)
  got_in m q v e = found_in q (entries m) v (sym (get-entries m q) ∙ e)

abbrev pub owned_as : List ℕ → Owner × ℕ → Bool
owned_as fp e = eq_by_cmp fp_cmp e.0.fp fp

counted_in : (q : Owner) (es : List (Owner × ℕ)) (v : ℕ) → find owner_cmp q es ≡ Some v → 0 < count_by (owned_as q.fp) es
counted_in q [] v e = absurd cc
counted_in q (x ∷ es) v e =
    elim (cases_Bool (eq_by_cmp owner_cmp q x.0)) [
      | inl tied ↦
          let key : q ≡ x.0 = owner_exact q x.0 (is_equal (owner_cmp q x.0) tied) in
          let passes : owned_as q.fp x ≡ true = ap (λ (k : Owner). eq_by_cmp fp_cmp k.fp q.fp) (sym key) ∙ ap is_eq (tied_itself fp_total q.fp) in
          let one : ◌≡◌ {A = ℕ} (cond (owned_as q.fp x) 1 0) 1 = ap (λ (b : Bool). cond {A = ℕ} b 1 0) passes in
          let more = sum_by-cons (λ (y : Owner × ℕ). cond (owned_as q.fp y) 1 0) x es in
          omega (arith, one, more)
      | inr apart ↦
          let rest = counted_in q es v (rw apart at e) in
          let more = sum_by-cons (λ (y : Owner × ℕ). cond (owned_as q.fp y) 1 0) x es in
          omega (arith, rest, more)
    ]

pub owner_counted : (m : FinMap owner_cmp ℕ) (q : Owner) (v : ℕ) → get m q ≡ Some v → 0 < owners_of m q.fp
owner_counted m q v e = counted_in q (entries m) v (sym (get-entries m q) ∙ e)
