-- A table's map whose pairs are charged as the accounts say.
use Rattle.std.specs.Prelude.{◌≡◌, ℕ, ◌<◌, ◌==◌, ◌⊎◌, true, List, [], ◌∷◌, length, Some, None, sum_by, slice_index_or}
use Rattle.std.proofs.Common.{refl, sym, ap, ◌∙◌, subst, arith, cond, inl, inr, true≢false, eq-eqb}
use Rattle.std.proofs.lemmas.List.{get_or-replicate}
use Rattle.std.proofs.lemmas.List.Sums.{sum_by-cons}
use Rattle.std.proofs.lemmas.Bool.{cases_Bool, cond-true, cond-false, ne_eqb, lt-ltb}
use Rattle.std.specs.declared.cmp.Ordering.{Ordering}
use Rattle.std.specs.declared.cmp.Ordering.TheVariants.{Less, Equal, Greater}
use Rattle.std.specs.Ordering.{eq_by_cmp, is_eq}
use Rattle.std.specs.Cmp.{IsTotalOrder}
use Rattle.std.specs.FinMap.{FinMap, get, insert, remove, empty, entries, len-entries, get-insert, get-remove, get-empty, IsAntisymmetric}
use Rattle.pool_map.specs.Table.{charged, with_value_at, rewritten}
use Rattle.pool_map.specs.MapSums.{sum_by-alike}
use Rattle.pool_map.specs.Shown.{shown, len-shown, sum_by-shown}
use Rattle.pool_map.specs.declared.accounts.Accounts.{Accounts}
use Rattle.pool_map.specs.declared.accounts.Accounts.TheVariants.{Shared, PerUser}
use Rattle.pool_map.specs.Accounts.{account_for, IsKnown, limits_of, limit_for, use_for}

pub is_eq-at : (r : Ordering) → is_eq r ≡ true → r ≡ Equal
is_eq-at Less e = absurd (true≢false (sym e))
is_eq-at Equal e = refl
is_eq-at Greater e = absurd (true≢false (sym e))

pub length-ones : {A : Type 0} (es : List A) → sum_by (λ (e : A). 1) es ≡ length es
length-ones [] = refl
length-ones (e ∷ es) = omega (arith, sum_by-cons (λ x. 1) e es, length-ones es)

sum_by-zeros : {A : Type 0} (es : List A) → sum_by (λ (e : A). 0) es ≡ 0
sum_by-zeros [] = refl
sum_by-zeros (e ∷ es) = omega (arith, sum_by-cons (λ x. 0) e es, sum_by-zeros es)

-- the limit of an account
pub limit-account : (accounts : Accounts) (user : ℕ) → IsKnown accounts user → slice_index_or (limits_of accounts) (account_for accounts user) 0 ≡ limit_for accounts user
limit-account (Shared limit) user known = refl
limit-account (PerUser users limit) user known = get_or-replicate users user limit 0 known ∙ sym (cond-true _ _ _ (lt-ltb user users known))

module _ {K X : Type 0} {R : K → K → Ordering} (total : IsTotalOrder R) (exact : IsAntisymmetric R) where
  -- what a map has after a write
  pub got-insert : (m : FinMap R X) (k q : K) (x y : X) → get (insert m k x) q ≡ Some y → ((q ≡ k) × (y ≡ x)) ⊎ (get m q ≡ Some y)
  got-insert m k q x y is =
      elim (cases_Bool (eq_by_cmp R q k)) [
        | inl t ↦ let two : Some x ≡ Some y = sym (get-insert total m k x q ∙ cond-true _ _ _ t) ∙ is in inl (exact q k (is_eq-at _ t), cc)
        | inr n ↦ inr (sym (get-insert total m k x q ∙ cond-false _ _ _ n) ∙ is)
      ]

  pub got-remove : (m : FinMap R X) (k q : K) (y : X) → get (remove m k) q ≡ Some y → get m q ≡ Some y
  got-remove m k q y is =
      elim (cases_Bool (eq_by_cmp R q k)) [
        | inl t ↦ absurd (let no : None ≡ Some y = sym (get-remove total m k q ∙ cond-true _ _ _ t) ∙ is in cc)
        | inr n ↦ sym (get-remove total m k q ∙ cond-false _ _ _ n) ∙ is
      ]

-- each pair is charged to the account of its user, who has one
pub record IsCharged {K W : Type 0} {R : K → K → Ordering} (accounts : Accounts) (user_of : K → ℕ) (m : FinMap R (ℕ × W)) : Type 0 where
  pub account : (k : K) (x : ℕ × W) → get m k ≡ Some x → x.0 ≡ account_for accounts (user_of k)
  pub known : (k : K) (x : ℕ × W) → get m k ≡ Some x → IsKnown accounts (user_of k)

module _ {K W : Type 0} {R : K → K → Ordering} (total : IsTotalOrder R) (exact : IsAntisymmetric R) (user_of : K → ℕ) where
  -- what is charged to a user's account counts against its limit
  pub charged-use : {V : Type 0} (f : ℕ × W → V) (accounts : Accounts) (m : FinMap R (ℕ × W)) → IsCharged accounts user_of m → (user : ℕ) → charged m (account_for accounts user) ≡ use_for user_of accounts (shown f m) user
  charged-use f (Shared limit) m is user =
      sum_by-alike total exact (λ (e : K × (ℕ × W)). cond (e.1.0 == 0) 1 0) (λ e. 1) m (λ k x got. ap (λ b. cond b 1 0) (eq-eqb x.0 0 (is.account k x got)))
      ∙ length-ones (entries m) ∙ sym (len-entries m) ∙ sym (len-shown f m)
  charged-use f (PerUser users limit) m is user =
      sum_by-alike total exact (λ (e : K × (ℕ × W)). cond (e.1.0 == user) 1 0) (λ e. cond (user_of e.0 == user) 1 0) m (λ k x got. ap (λ a. cond (a == user) 1 0) (is.account k x got))
      ∙ sym (sum_by-shown f (λ e. cond (user_of e.0 == user) 1 0) m)

  -- a user without an account has nothing
  pub unknown-use : {V : Type 0} (f : ℕ × W → V) (accounts : Accounts) (m : FinMap R (ℕ × W)) → IsCharged accounts user_of m → (user : ℕ) → (IsKnown accounts user → ⊥) → use_for user_of accounts (shown f m) user ≡ 0
  unknown-use f (Shared limit) m is user unknown = absurd (unknown tt)
  unknown-use f (PerUser users limit) m is user unknown =
      sum_by-shown f (λ e. cond (user_of e.0 == user) 1 0) m
      ∙ sum_by-alike total exact (λ (e : K × (ℕ × W)). cond (user_of e.0 == user) 1 0) (λ e. 0) m (λ k x got. ap (λ b. cond b 1 0) (ne_eqb (user_of k) user (λ same. unknown (subst (λ u. u < users) same (is.known k x got)))))
      ∙ sum_by-zeros (entries m)

  pub charged-empty : (accounts : Accounts) → IsCharged {W = W} accounts user_of (empty {R = R})
  charged-empty accounts = record {
    account = λ k x got. absurd (let no : None ≡ Some x = sym (get-empty R k) ∙ got in cc);
    known = λ k x got. absurd (let no : None ≡ Some x = sym (get-empty R k) ∙ got in cc);
  }

  pub charged-insert : (accounts : Accounts) (m : FinMap R (ℕ × W)) → IsCharged accounts user_of m → (k : K) (a : ℕ) (v : W) → a ≡ account_for accounts (user_of k) → IsKnown accounts (user_of k) → IsCharged accounts user_of (insert m k (a, v))
  charged-insert accounts m is k a v at known = record {
    account = λ q x got. elim (got-insert total exact m k q (a, v) x got) [
      | inl p ↦ ap (λ (y : ℕ × W). y.0) p.1 ∙ at ∙ ap (λ y. account_for accounts (user_of y)) (sym p.0)
      | inr old ↦ is.account q x old
    ];
    known = λ q x got. elim (got-insert total exact m k q (a, v) x got) [
      | inl p ↦ subst (λ y. IsKnown accounts (user_of y)) (sym p.0) known
      | inr old ↦ is.known q x old
    ];
  }

  pub charged-remove : (accounts : Accounts) (m : FinMap R (ℕ × W)) → IsCharged accounts user_of m → (k : K) → IsCharged accounts user_of (remove m k)
  charged-remove accounts m is k = record {
    account = λ q x got. is.account q x (got-remove total exact m k q x got);
    known = λ q x got. is.known q x (got-remove total exact m k q x got);
  }

  pub charged-rewritten : (accounts : Accounts) (m : FinMap R (ℕ × W)) → IsCharged accounts user_of m → (k : K) (v : W) (old : ℕ × W) → get m k ≡ Some old → IsCharged accounts user_of (with_value_at m k v)
  charged-rewritten accounts m is k v old had =
      subst (λ o. IsCharged accounts user_of (rewritten m k v o)) (sym had) (charged-insert accounts m is k old.0 v (is.account k old had) (is.known k old had))
