-- What the owners' table and the users' counts do together.
use Rattle.std.proofs.Common.{rules, ◌≡◌, ◌≢◌, ℕ, ◌+◌, ◌-◌, ◌<◌, ◌≤◌, ◌^◌, true, false, cond, List, [], ◌∷◌, length, Option, Some, None, refl, sym, ap, ◌∙◌, subst, arith, inl, inr, sum_by, eq-eqb, true≢false}
use Rattle.std.specs.Prelude.{is_some, option_map, unwrap_or, slice_index_or, ◌↔◌, ◌==◌}
use Rattle.std.proofs.lemmas.Bool.{cases_eq, cases_Bool, cond-true, cond-false, ne_eqb}
use Rattle.std.specs.Ordering.{eq_by_cmp, is_eq}
use Rattle.std.specs.Cmp.{IsTotalOrder, tied_itself}
use Rattle.std.specs.Cmp.Rules.{comparing}
use Rattle.std.specs.FinMap.{FinMap, get, insert, remove, empty, entries, len, len-entries, len-empty, len-insert, get-insert, get-remove, get-empty, same_map, nat_cmp-IsAntisymmetric}
use Rattle.pool_map.specs.SlotPool.Pool.{PoolContents, limit_of}
use Rattle.pool_map.specs.declared.KeyedValue.{KeyedValue as Pair}
use Rattle.share_index.specs.declared.key.UserNumber.{UserNumber}
use Rattle.pool_map.specs.Table.{contents, at_key, value_at, charged, with_value_at, rewritten}
use Rattle.pool_map.specs.MapSums.{sum_by-insert_new, sum_by-insert_over, sum_by-remove, insert-remove, insert-same}
use Rattle.pool_map.specs.Shown.{shown, get-shown, len-shown, shown-insert, shown-remove, shown-empty}
use Rattle.pool_map.specs.declared.accounts.Accounts.{Accounts}
use Rattle.pool_map.specs.declared.accounts.IndexErr.TheVariants.{Full}
use Rattle.pool_map.specs.Accounts.{limits_of, limit_for, account_for, IsKnown, keys_of}
use Rattle.pool_map.specs.Charges.{IsCharged, charged-use, unknown-use, limit-account, charged-empty, charged-insert, charged-remove, charged-rewritten, is_eq-at}
use Rattle.share_index.specs.declared.key.Owner.{Owner}
use Rattle.share_index.specs.Order.{owner_cmp, owner_exact}
use Rattle.share_index.specs.Counts.{UserCounts, number_cmp, number_of, count_at, total, lowered, begun, sum_below}
use Rattle.share_index.specs.Shares.{batches_of}
use Rattle.share_index.specs.Owning.{used_of, owners_in, IsOwning}
use Rattle.share_index.proofs.SumBelow.{number_total, number_exact}
use Rattle.share_index.specs.SumBelow.{sum_below-alike}
use Rattle.share_index.proofs.Counting.{plain, total-put, lowered-one, lowered-more}

pub owner_total : IsTotalOrder owner_cmp
owner_total = search (comparing, rules)

abbrev pub user_of : Owner → ℕ
user_of k = k.user

pub value-of : {X : Type 0} (o : Option X) → is_some o ≡ true → (x : X) × (o ≡ Some x)
value-of None s = absurd (true≢false (sym s))
value-of (Some x) s = (x, refl)

number-itself : (user : ℕ) → eq_by_cmp number_cmp (number_of user) (number_of user) ≡ true
number-itself user = ap is_eq (tied_itself number_total (number_of user))

number-apart : (q user : ℕ) → q ≢ user → eq_by_cmp number_cmp (number_of q) (number_of user) ≡ false
number-apart q user other = elim (cases_Bool (eq_by_cmp number_cmp (number_of q) (number_of user))) [ inl t ↦ absurd (other (nat_cmp-IsAntisymmetric q user (is_eq-at _ t))) | inr f ↦ f ]

-- one user's count after a write
count-put-here : (m : FinMap number_cmp ℕ) (user v : ℕ) → count_at (insert m (number_of user) v) user ≡ v
count-put-here m user v = ap (λ o. unwrap_or o 0) (get-insert number_total m (number_of user) v (number_of user) ∙ cond-true _ _ _ (number-itself user))

count-put-other : (m : FinMap number_cmp ℕ) (user v q : ℕ) → q ≢ user → count_at (insert m (number_of user) v) q ≡ count_at m q
count-put-other m user v q other = ap (λ o. unwrap_or o 0) (get-insert number_total m (number_of user) v (number_of q) ∙ cond-false _ _ _ (number-apart q user other))

count-take-here : (m : FinMap number_cmp ℕ) (user : ℕ) → count_at (remove m (number_of user)) user ≡ 0
count-take-here m user = ap (λ o. unwrap_or o 0) (get-remove number_total m (number_of user) (number_of user) ∙ cond-true _ _ _ (number-itself user))

count-take-other : (m : FinMap number_cmp ℕ) (user q : ℕ) → q ≢ user → count_at (remove m (number_of user)) q ≡ count_at m q
count-take-other m user q other = ap (λ o. unwrap_or o 0) (get-remove number_total m (number_of user) (number_of q) ∙ cond-false _ _ _ (number-apart q user other))

lowered-here : (m : FinMap number_cmp ℕ) (user : ℕ) → 0 < count_at m user → count_at (lowered m user) user + 1 ≡ count_at m user
lowered-here m user some =
    elim (cases_eq (count_at m user) 1) [
      | inl one ↦ let e = ap (λ n. count_at n user) (sym (lowered-one m user one)) ∙ count-take-here m user in omega arith
      | inr more ↦ let e = ap (λ n. count_at n user) (sym (lowered-more m user more)) ∙ count-put-here m user (count_at m user - 1) in omega arith
    ]

lowered-other : (m : FinMap number_cmp ℕ) (user q : ℕ) → q ≢ user → count_at (lowered m user) q ≡ count_at m q
lowered-other m user q other =
    elim (cases_eq (count_at m user) 1) [
      | inl one ↦ ap (λ n. count_at n q) (sym (lowered-one m user one)) ∙ count-take-other m user q other
      | inr more ↦ ap (λ n. count_at n q) (sym (lowered-more m user more)) ∙ count-put-other m user (count_at m user - 1) q other
    ]

removed-none : (m : FinMap number_cmp ℕ) (user : ℕ) → get m (number_of user) ≡ None → remove m (number_of user) ≡ m
removed-none m user at = same_map number_total number_exact _ _ (λ q.
    elim (cases_Bool (eq_by_cmp number_cmp q (number_of user))) [
      | inl t ↦ get-remove number_total m (number_of user) q ∙ cond-true _ _ _ t ∙ sym (ap (get m) (number_exact q (number_of user) (is_eq-at _ t)) ∙ at)
      | inr f ↦ get-remove number_total m (number_of user) q ∙ cond-false _ _ _ f
    ])

total-take : (m : FinMap number_cmp ℕ) (user : ℕ) → count_at m user + total (remove m (number_of user)) ≡ total m
total-take m user = go (get m (number_of user)) refl
  where
    go : (o : Option ℕ) → get m (number_of user) ≡ o → unwrap_or (get m (number_of user)) 0 + total (remove m (number_of user)) ≡ total m
    go None at = ap (λ o. unwrap_or o 0 + total (remove m (number_of user))) at ∙ (let same = ap (λ (n : FinMap number_cmp ℕ). total n) (removed-none m user at) in omega arith)
    go (Some v) at = ap (λ o. unwrap_or o 0 + total (remove m (number_of user))) at ∙ sum_by-remove number_total number_exact (λ e. e.1) m (number_of user) v at

lowered-total : (m : FinMap number_cmp ℕ) (user : ℕ) → 0 < count_at m user → total (lowered m user) + 1 ≡ total m
lowered-total m user some =
    elim (cases_eq (count_at m user) 1) [
      | inl one ↦ let e = ap (λ (n : FinMap number_cmp ℕ). total n) (sym (lowered-one m user one)) in omega (arith, total-take m user)
      | inr more ↦ let e = ap (λ (n : FinMap number_cmp ℕ). total n) (sym (lowered-more m user more)) in omega (arith, total-put m user (count_at m user - 1))
    ]

-- 1 where a key is a user's
abbrev one : ℕ → Owner → ℕ
one user k = cond (k.user == user) 1 0

one-same : (user : ℕ) (k : Owner) → user ≡ k.user → one user k ≡ 1
one-same user k e = ap (λ b. cond b 1 0) (eq-eqb k.user user (sym e))

one-other : (user : ℕ) (k : Owner) → user ≢ k.user → one user k ≡ 0
one-other user k n = ap (λ b. cond b 1 0) (ne_eqb k.user user (λ e. n (sym e)))

module _ (m : FinMap owner_cmp ℕ) (k : Owner) where
  keys-added : (v user : ℕ) → get m k ≡ None → keys_of user_of (insert m k v) user ≡ one user k + keys_of user_of m user
  keys-added v user none = sum_by-insert_new owner_total (λ (e : Owner × ℕ). one user e.0) m k v none

  keys-taken : (v user : ℕ) → get m k ≡ Some v → one user k + keys_of user_of (remove m k) user ≡ keys_of user_of m user
  keys-taken v user at = sum_by-remove owner_total owner_exact (λ (e : Owner × ℕ). one user e.0) m k v at

  keys-kept : (old v user : ℕ) → get m k ≡ Some old → keys_of user_of (insert m k v) user ≡ keys_of user_of m user
  keys-kept old v user at = let e = sum_by-insert_over owner_total owner_exact (λ (x : Owner × ℕ). one user x.0) m k old v at in omega arith

  len-added : (v : ℕ) → get m k ≡ None → len (insert m k v) ≡ len m + 1
  len-added v none = len-insert owner_total m k v ∙ ap (λ o. cond (is_some o) (len m) (len m + 1)) none

  len-kept : (old v : ℕ) → get m k ≡ Some old → len (insert m k v) ≡ len m
  len-kept old v at = len-insert owner_total m k v ∙ ap (λ o. cond (is_some o) (len m) (len m + 1)) at

  len-taken : (v : ℕ) → get m k ≡ Some v → len (remove m k) + 1 ≡ len m
  len-taken v at =
      let back = len-insert owner_total (remove m k) k v in
      let gone : get (remove m k) k ≡ None = get-remove owner_total m k k ∙ cond-true _ _ _ (ap is_eq (tied_itself owner_total k)) in
      let same = ap len (sym (insert-remove owner_total owner_exact m k v) ∙ insert-same owner_total owner_exact m k v at) in
      let more : len (insert (remove m k) k v) ≡ len (remove m k) + 1 = back ∙ ap (λ o. cond (is_some o) (len (remove m k)) (len (remove m k) + 1)) gone in
      omega arith

module _ (p : PoolContents (Pair Owner ℕ)) (counts : UserCounts) (accounts : Accounts) (is : IsOwning p counts accounts) where
  abbrev pub table : FinMap owner_cmp (ℕ × ℕ)
  table = contents owner_cmp p

  abbrev pub owners : FinMap owner_cmp ℕ
  owners = shown plain table

  pub absent : (k : Owner) → get owners k ≡ None → get table k ≡ None
  absent k e = none-mapped (get table k) (sym (get-shown plain table k) ∙ e)
    where
      none-mapped : (o : Option (ℕ × ℕ)) → option_map plain o ≡ None → o ≡ None
      none-mapped None e = refl
      none-mapped (Some x) e = absurd (let gone : Some x.1 ≡ None = e in cc)

  pub present : (k : Owner) → is_some (get owners k) ≡ true → (x : ℕ × ℕ) × (get table k ≡ Some x) × (get owners k ≡ Some x.1)
  present k some = go (get table k) refl (ap is_some (sym (get-shown plain table k)) ∙ some)
    where
      go : (o : Option (ℕ × ℕ)) → get table k ≡ o → is_some (option_map plain (get table k)) ≡ true → (x : ℕ × ℕ) × (get table k ≡ Some x) × (get owners k ≡ Some x.1)
      go None at gone = absurd (true≢false (sym gone ∙ ap (λ o. is_some (option_map plain o)) at))
      go (Some x) at h = (x, at, get-shown plain table k ∙ ap (option_map plain) at)

  -- what a look-up in the table says of an owner
  pub uses-read : (k : Owner) (uses : ℕ) → value_at owner_cmp p k ≡ Some uses → get owners k ≡ Some uses
  uses-read k uses read = get-shown plain table k ∙ read

  pub lacks-read : (k : Owner) → at_key owner_cmp p k ≡ None → get owners k ≡ None
  lacks-read k none = get-shown plain table k ∙ ap (option_map plain) none

  pub add-is : (q : PoolContents (Pair Owner ℕ)) (k : Owner) (a : ℕ) → contents owner_cmp q ≡ insert table k (a, 0) → shown plain (contents owner_cmp q) ≡ insert owners k 0
  add-is q k a to = ap (shown plain) to ∙ shown-insert plain owner_total owner_exact table k (a, 0)

  pub remove-is : (q : PoolContents (Pair Owner ℕ)) (k : Owner) → contents owner_cmp q ≡ remove table k → shown plain (contents owner_cmp q) ≡ remove owners k
  remove-is q k to = ap (shown plain) to ∙ shown-remove plain owner_total owner_exact table k

  pub set-is : (q : PoolContents (Pair Owner ℕ)) (k : Owner) (v : ℕ) (x : ℕ × ℕ) → get table k ≡ Some x → contents owner_cmp q ≡ with_value_at table k v → shown plain (contents owner_cmp q) ≡ insert owners k v
  set-is q k v x at to = ap (shown plain) (to ∙ ap (rewritten table k v) at) ∙ shown-insert plain owner_total owner_exact table k (x.0, v)

  pub owning-add : (q : PoolContents (Pair Owner ℕ)) (counts' : UserCounts) (k : Owner) (a : ℕ) → q.limits ≡ p.limits → length q.slots ≡ length p.slots → contents owner_cmp q ≡ insert table k (a, 0) → get owners k ≡ None → a ≡ account_for accounts k.user → IsKnown accounts k.user → counts'.counts ≡ insert counts.counts (number_of k.user) (count_at counts.counts k.user + 1) → counts'.room ≡ counts.room → IsOwning q counts' accounts
  owning-add q counts' k a limits slots to none at known raised room =
      let after = add-is q k a to in
      record {
        limits = limits ∙ is.limits;
        charged = subst (IsCharged accounts user_of) (sym to) (charged-insert owner_total owner_exact user_of accounts table is.charged k a 0 at known);
        counted = λ user.
            let was = is.counted user in
            let keys = ap (λ (m : FinMap owner_cmp ℕ). keys_of user_of m user) after ∙ keys-added owners k 0 user none in
            let written = ap (λ (m : FinMap number_cmp ℕ). count_at m user) raised in
            elim (cases_eq user k.user) [
              | inl same ↦
                  let here = ap (λ u. count_at (insert counts.counts (number_of k.user) (count_at counts.counts k.user + 1)) u) same ∙ count-put-here counts.counts k.user (count_at counts.counts k.user + 1) in
                  let mine : count_at counts.counts user ≡ count_at counts.counts k.user = ap (count_at counts.counts) same in
                  let e = one-same user k same in
                  omega arith
              | inr other ↦
                  let here = count-put-other counts.counts k.user (count_at counts.counts k.user + 1) user other in
                  let e = one-other user k other in
                  omega arith
            ];
        totalled =
            let was = is.totalled in
            let many = ap len after ∙ len-added owners k 0 none in
            let written = ap (λ (m : FinMap number_cmp ℕ). total m) raised in
            omega (arith, total-put counts.counts k.user (count_at counts.counts k.user + 1));
        room = room ∙ is.room ∙ sym slots;
      }

  -- the user of an owner has a count to lower
  pub owned-count : (k : Owner) (v : ℕ) → get owners k ≡ Some v → 0 < count_at counts.counts k.user
  owned-count k v at =
      let was = is.counted k.user in
      let e = one-same k.user k refl in
      omega (arith, keys-taken owners k v k.user at)

  pub owning-remove : (q : PoolContents (Pair Owner ℕ)) (counts' : UserCounts) (k : Owner) (v : ℕ) → q.limits ≡ p.limits → length q.slots ≡ length p.slots → contents owner_cmp q ≡ remove table k → get owners k ≡ Some v → counts'.counts ≡ lowered counts.counts k.user → counts'.room ≡ counts.room → IsOwning q counts' accounts
  owning-remove q counts' k v limits slots to had raised room =
      let after = remove-is q k to in
      let some = owned-count k v had in
      record {
        limits = limits ∙ is.limits;
        charged = subst (IsCharged accounts user_of) (sym to) (charged-remove owner_total owner_exact user_of accounts table is.charged k);
        counted = λ user.
            let was = is.counted user in
            let keys = ap (λ (m : FinMap owner_cmp ℕ). keys_of user_of m user) after in
            let taken = keys-taken owners k v user had in
            let written = ap (λ (m : FinMap number_cmp ℕ). count_at m user) raised in
            elim (cases_eq user k.user) [
              | inl same ↦
                  let here = lowered-here counts.counts k.user some in
                  let now : count_at (lowered counts.counts k.user) user ≡ count_at (lowered counts.counts k.user) k.user = ap (count_at (lowered counts.counts k.user)) same in
                  let mine : count_at counts.counts user ≡ count_at counts.counts k.user = ap (count_at counts.counts) same in
                  let e = one-same user k same in
                  omega arith
              | inr other ↦
                  let here = lowered-other counts.counts k.user user other in
                  let e = one-other user k other in
                  omega arith
            ];
        totalled =
            let was = is.totalled in
            let many = ap len after in
            let fewer = len-taken owners k v had in
            let written = ap (λ (m : FinMap number_cmp ℕ). total m) raised in
            omega (arith, lowered-total counts.counts k.user some);
        room = room ∙ is.room ∙ sym slots;
      }

  pub owning-set : (q : PoolContents (Pair Owner ℕ)) (k : Owner) (v : ℕ) (x : ℕ × ℕ) → q.limits ≡ p.limits → length q.slots ≡ length p.slots → contents owner_cmp q ≡ with_value_at table k v → get table k ≡ Some x → get owners k ≡ Some x.1 → IsOwning q counts accounts
  owning-set q k v x limits slots to at had =
      let after = set-is q k v x at to in
      record {
        limits = limits ∙ is.limits;
        charged = subst (IsCharged accounts user_of) (sym to) (charged-rewritten owner_total owner_exact user_of accounts table is.charged k v x at);
        counted = λ user. is.counted user ∙ sym (ap (λ (m : FinMap owner_cmp ℕ). keys_of user_of m user) after ∙ keys-kept owners k x.1 v user had);
        totalled = is.totalled ∙ sym (ap len after ∙ len-kept owners k x.1 v had);
        room = is.room ∙ sym slots;
      }

  -- there is room for one more count, since each owner has a slot
  pub has-room : (q : PoolContents (Pair Owner ℕ)) (k : Owner) (a n : ℕ) → contents owner_cmp q ≡ insert table k (a, 0) → length q.slots ≡ length p.slots → get owners k ≡ None → n ≡ len (contents owner_cmp q) → n ≤ length q.slots → total counts.counts < counts.room
  has-room q k a n to slots none many fits =
      let was = is.totalled in
      let room = is.room in
      let more = sym (len-shown plain (contents owner_cmp q)) ∙ ap len (add-is q k a to) ∙ len-added owners k 0 none in
      omega arith

  pub batches-is : sum_below (2 ^ 32) (λ user. begun (count_at counts.counts user)) ≡ batches_of owners
  batches-is = sum_below-alike (2 ^ 32) (λ user. begun (count_at counts.counts user)) (λ user. begun (keys_of user_of owners user)) (λ user. ap (λ n. begun n) (is.counted user))

  module _ (user : ℕ) where
    use-is : charged table (account_for accounts user) ≡ used_of (owners_in p accounts) user
    use-is = charged-use owner_total owner_exact user_of plain accounts table is.charged user

    limit-is : IsKnown accounts user → limit_of p (account_for accounts user) ≡ limit_for accounts user
    limit-is known = ap (λ l. slice_index_or l (account_for accounts user) 0) is.limits ∙ limit-account accounts user known

    pub refusal : (a : ℕ) (E : Type 0) → a ≡ account_for accounts user → IsKnown accounts user → E ↔ charged table a ≡ limit_of p a → E ↔ used_of (owners_in p accounts) user ≡ limit_for accounts user
    refusal a E at known both =
        let spent : charged table a ≡ used_of (owners_in p accounts) user = ap (charged table) at ∙ use-is in
        let limit : limit_of p a ≡ limit_for accounts user = ap (limit_of p) at ∙ limit-is known in
        ((λ e. sym spent ∙ both.0 e ∙ limit), (λ full. both.1 (spent ∙ full ∙ sym limit)))

    pub refusal-full : (a used limit : ℕ) → a ≡ account_for accounts user → IsKnown accounts user → used ≡ charged table a → limit ≡ limit_of p a → Full used limit ≡ Full (used_of (owners_in p accounts) user) (limit_for accounts user)
    refusal-full a used limit at known is_use is_limit =
        let u = is_use ∙ ap (charged table) at ∙ use-is in
        let l = is_limit ∙ ap (limit_of p) at ∙ limit-is known in
        λ i. Full (u i) (l i)

    pub stranger : (IsKnown accounts user → ⊥) → limit_for accounts user ≡ 0 → (used_of (owners_in p accounts) user ≡ limit_for accounts user) × (Full 0 0 ≡ Full (used_of (owners_in p accounts) user) (limit_for accounts user))
    stranger unknown none =
        let u = unknown-use owner_total owner_exact user_of plain accounts table is.charged user unknown in
        (u ∙ sym none, (λ i. Full (sym u i) (sym none i)))

pub owning-empty : (q : PoolContents (Pair Owner ℕ)) (counts : UserCounts) (accounts : Accounts) → q.limits ≡ limits_of accounts → contents owner_cmp q ≡ empty → counts.counts ≡ empty → counts.room ≡ length q.slots → IsOwning q counts accounts
owning-empty q counts accounts limits none counted room =
    let after : shown plain (contents owner_cmp q) ≡ empty = ap (shown plain) none ∙ shown-empty plain owner_total owner_exact in
    record {
      limits = limits;
      charged = subst (IsCharged accounts user_of) (sym none) (charged-empty owner_total owner_exact user_of accounts);
      counted = λ user. ap (λ (m : FinMap number_cmp ℕ). count_at m user) counted ∙ ap (λ o. unwrap_or o 0) (get-empty number_cmp (number_of user)) ∙ sym (ap (λ (m : FinMap owner_cmp ℕ). keys_of user_of m user) after ∙ no-sum (λ (e : Owner × ℕ). one user e.0) (entries empty) (sym (len-entries empty) ∙ len-empty owner_cmp ℕ));
      totalled = ap (λ (m : FinMap number_cmp ℕ). total m) counted ∙ no-sum (λ (e : UserNumber × ℕ). e.1) (entries empty) (sym (len-entries empty) ∙ len-empty number_cmp ℕ) ∙ sym (ap len after ∙ len-empty owner_cmp ℕ);
      room = room;
    }
  where
    no-sum : {A : Type 0} (f : A → ℕ) (es : List A) → length es ≡ 0 → sum_by f es ≡ 0
    no-sum f [] e = refl
    no-sum f (x ∷ es) e = absurd (omega arith)
