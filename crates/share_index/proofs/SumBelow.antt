-- A sum over all users' numbers is one over the users that own some.
use Rattle.std.proofs.Common.{rules, ◌≡◌, ◌≢◌, ℕ, ◌<◌, true, false, T, List, [], ◌∷◌, Some, None, refl, sym, ap, ◌∙◌, arith, inl, inr, sum_by}
use Rattle.std.specs.Prelude.{unwrap_or}
use Rattle.std.proofs.lemmas.List.Sums.{sum_by-cons}
use Rattle.std.proofs.lemmas.Bool.{cases_Bool, cond-true, cond-false}
use Rattle.std.specs.Ordering.{eq_by_cmp, is_eq, is_lt}
use Rattle.std.specs.Cmp.{IsTotalOrder, tied_itself}
use Rattle.std.specs.Cmp.Rules.{comparing}
use Rattle.std.specs.FinMap.{FinMap, find, get, entries, entries_sorted, is_sorted, get-entries, nat_cmp-IsAntisymmetric, IsAntisymmetric}
use Rattle.std.specs.FinMap.Entries.{below_all}
use Rattle.pool_map.specs.Charges.{is_eq-at}
use Rattle.pool_map.specs.MapSums.{both-parts, below-parts}
use Rattle.share_index.specs.declared.key.UserNumber.{UserNumber}
use Rattle.share_index.specs.Counts.{number_cmp, number_of, count_at, begun, batches_in, sum_below}
use Rattle.share_index.specs.SumBelow.{sum_below-alike, sum_below-change, sum_below-zeros}

pub number_total : IsTotalOrder number_cmp
number_total = search (comparing, rules)

pub number_exact : IsAntisymmetric number_cmp
number_exact x y e = ap (λ n. number_of n) (nat_cmp-IsAntisymmetric x.value y.value e)

below-absent : (q : UserNumber) (es : List (UserNumber × ℕ)) → T (below_all number_cmp q es) → find number_cmp q es ≡ None
below-absent q [] h = refl
below-absent q (e ∷ es) h =
    let parts = both-parts (is_lt (number_cmp q e.0)) (below_all number_cmp q es) h in
    cond-false _ _ _ (ap is_eq (below-parts (number_cmp q e.0) parts.0)) ∙ below-absent q es parts.1

abbrev lookup : List (UserNumber × ℕ) → ℕ → ℕ
lookup es user = unwrap_or (find number_cmp (number_of user) es) 0

over : (n : ℕ) (es : List (UserNumber × ℕ)) → T (is_sorted number_cmp es) → ((k : UserNumber) (v : ℕ) → find number_cmp k es ≡ Some v → k.value < n) → sum_below n (λ user. begun (lookup es user)) ≡ sum_by (λ (e : UserNumber × ℕ). begun e.1) es
over n [] sorted keys = sum_below-zeros n (λ user. begun (lookup [] user)) (λ k. refl)
over n (e ∷ es) sorted keys =
    let parts = both-parts (below_all number_cmp e.0 es) (is_sorted number_cmp es) sorted in
    let absent = below-absent e.0 es parts.0 in
    let itself : eq_by_cmp number_cmp e.0 e.0 ≡ true = ap is_eq (tied_itself number_total e.0) in
    let u = e.0.value in
    let rest = over n es parts.1 (λ k v got.
    elim (cases_Bool (eq_by_cmp number_cmp k e.0)) [
      | inl t ↦ absurd (let gone : None ≡ Some v = sym (ap (λ q. find number_cmp q es) (number_exact k e.0 (is_eq-at _ t)) ∙ absent) ∙ got in cc)
      | inr f ↦ keys k v (cond-false _ _ _ f ∙ got)
    ]) in
    let change = sum_below-change n u (λ user. begun (lookup (e ∷ es) user)) (λ user. begun (lookup es user)) (keys e.0 e.1 (cond-true _ _ _ itself)) (λ k other.
    ap (λ o. begun (unwrap_or o 0)) (cond-false _ _ _ (apart k u other))) in
    let here : begun (lookup (e ∷ es) u) ≡ begun e.1 = ap (λ o. begun (unwrap_or o 0)) (cond-true _ _ _ itself) in
    let none : begun (lookup es u) ≡ 0 = ap (λ o. begun (unwrap_or o 0)) absent in
    omega (arith, sum_by-cons (λ (x : UserNumber × ℕ). begun x.1) e es)
  where
    apart : (k u : ℕ) → k ≢ u → eq_by_cmp number_cmp (number_of k) (number_of u) ≡ false
    apart k u other = elim (cases_Bool (eq_by_cmp number_cmp (number_of k) (number_of u))) [ inl t ↦ absurd (other (nat_cmp-IsAntisymmetric k u (is_eq-at _ t))) | inr f ↦ f ]

pub sum_below-counts : (n : ℕ) (m : FinMap number_cmp ℕ) → ((k : UserNumber) (v : ℕ) → get m k ≡ Some v → k.value < n) → sum_below n (λ user. begun (count_at m user)) ≡ batches_in m
sum_below-counts n m keys =
    sum_below-alike n (λ user. begun (count_at m user)) (λ user. begun (lookup (entries m) user)) (λ k. ap (λ o. begun (unwrap_or o 0)) (get-entries m (number_of k)))
    ∙ over n (entries m) (entries_sorted m) (λ k v got. keys k v (get-entries m k ∙ got))
