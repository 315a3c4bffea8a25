-- What a raise and a fall of one user's count do to the counts and their batches.
use Rattle.std.proofs.Common.{◌≡◌, ◌≢◌, ℕ, ◌+◌, ◌-◌, ◌<◌, ◌≤◌, ◌^◌, List, [], ◌∷◌, length, Option, Some, None, refl, sym, ap, ◌∙◌, subst, arith, inl, inr, sum_by, eq-eqb}
use Rattle.std.specs.Prelude.{option_map, option_copied, unwrap_or, IfNone}
use Rattle.std.specs.Borrow.{Bor}
use Rattle.std.proofs.lemmas.Bool.{cond-true, cond-false, ne_eqb}
use Rattle.std.specs.FinMap.{FinMap, get, insert, remove, empty, entries, len, len-entries, len-empty, get-empty}
use Rattle.pool_map.specs.SlotPool.Pool.{PoolContents, limit_of}
use Rattle.pool_map.specs.declared.KeyedValue.{KeyedValue as Pair}
use Rattle.share_index.specs.declared.key.UserNumber.{UserNumber}
use Rattle.pool_map.specs.Table.{contents, charged, with_value_at, rewritten}
use Rattle.pool_map.specs.MapSums.{sum_by-insert_new, sum_by-insert_over, sum_by-remove, sum_by-alike, sum_by-parts}
use Rattle.pool_map.specs.Shown.{shown, get-shown, shown-insert, shown-remove, shown-empty}
use Rattle.pool_map.specs.declared.accounts.Accounts.TheVariants.{Shared}
use Rattle.pool_map.specs.Charges.{IsCharged, charged-use, charged-empty, charged-insert, charged-remove, got-insert, got-remove, length-ones}
use Rattle.share_index.specs.Counts.{number_cmp, number_of, count_at, total, lowered, begun, batches_in, sum_below}
use Rattle.share_index.proofs.SumBelow.{sum_below-counts}
pub use Rattle.share_index.proofs.SumBelow.{number_total, number_exact}
use Rattle.share_index.specs.Counting.{room_of, IsCounting}

-- a sum after one count was written
put-sum : (f : UserNumber × ℕ → ℕ) (m : FinMap number_cmp ℕ) (user v : ℕ) → f (number_of user, 0) ≡ 0 → f (number_of user, count_at m user) + sum_by f (entries (insert m (number_of user) v)) ≡ f (number_of user, v) + sum_by f (entries m)
put-sum f m user v nothing = go (get m (number_of user)) refl
  where
    go : (o : Option ℕ) → get m (number_of user) ≡ o → f (number_of user, unwrap_or (get m (number_of user)) 0) + sum_by f (entries (insert m (number_of user) v)) ≡ f (number_of user, v) + sum_by f (entries m)
    go None is = let here : f (number_of user, unwrap_or (get m (number_of user)) 0) ≡ 0 = ap (λ o. f (number_of user, unwrap_or o 0)) is ∙ nothing in omega (arith, sum_by-insert_new number_total f m (number_of user) v is)
    go (Some old) is = let here : f (number_of user, unwrap_or (get m (number_of user)) 0) ≡ f (number_of user, old) = ap (λ o. f (number_of user, unwrap_or o 0)) is in omega (arith, sum_by-insert_over number_total number_exact f m (number_of user) old v is)

-- a part of a sum
part-le : (f : UserNumber × ℕ → ℕ) (m : FinMap number_cmp ℕ) (user : ℕ) → f (number_of user, 0) ≡ 0 → f (number_of user, count_at m user) ≤ sum_by f (entries m)
part-le f m user nothing = go (get m (number_of user)) refl
  where
    go : (o : Option ℕ) → get m (number_of user) ≡ o → f (number_of user, unwrap_or (get m (number_of user)) 0) ≤ sum_by f (entries m)
    go None is = let here : f (number_of user, unwrap_or (get m (number_of user)) 0) ≡ 0 = ap (λ o. f (number_of user, unwrap_or o 0)) is ∙ nothing in omega arith
    go (Some old) is = let here : f (number_of user, unwrap_or (get m (number_of user)) 0) ≡ f (number_of user, old) = ap (λ o. f (number_of user, unwrap_or o 0)) is in omega (arith, sum_by-remove number_total number_exact f m (number_of user) old is)

pub begun-le : (c : ℕ) → begun c ≤ c
begun-le c = omega arith

pub begun-more : (c : ℕ) → begun (c + 1) ≤ begun c + 1
begun-more c = omega arith

pub count-le-total : (m : FinMap number_cmp ℕ) (user : ℕ) → count_at m user ≤ total m
count-le-total m user = part-le (λ e. e.1) m user refl

pub begun-le-batches : (m : FinMap number_cmp ℕ) (user : ℕ) → begun (count_at m user) ≤ batches_in m
begun-le-batches m user = part-le (λ e. begun e.1) m user refl

pub batches-le-total : (m : FinMap number_cmp ℕ) → batches_in m ≤ total m
batches-le-total m = omega (arith, sum_by-parts (λ (e : UserNumber × ℕ). begun e.1) (λ e. e.1 - begun e.1) (λ e. e.1) (entries m) (λ e. let le = begun-le e.1 in omega arith))

pub total-put : (m : FinMap number_cmp ℕ) (user v : ℕ) → count_at m user + total (insert m (number_of user) v) ≡ v + total m
total-put m user v = put-sum (λ e. e.1) m user v refl

pub batches-put : (m : FinMap number_cmp ℕ) (user v : ℕ) → begun (count_at m user) + batches_in (insert m (number_of user) v) ≡ begun v + batches_in m
batches-put m user v = put-sum (λ e. begun e.1) m user v refl

abbrev pub plain : ℕ × ℕ → ℕ
plain x = x.1

-- each user that is counted has some
pub len-le-total : (m : FinMap number_cmp ℕ) → ((k : UserNumber) (v : ℕ) → get m k ≡ Some v → 0 < v) → len m ≤ total m
len-le-total m positive =
    let same = sum_by-alike number_total number_exact (λ (e : UserNumber × ℕ). e.1) (λ e. 1 + (e.1 - 1)) m (λ k v got. let p = positive k v got in omega arith) in
    let parts = sum_by-parts (λ (e : UserNumber × ℕ). 1) (λ e. e.1 - 1) (λ e. 1 + (e.1 - 1)) (entries m) (λ e. refl) in
    omega (arith, length-ones (entries m), len-entries m)

module _ (p : PoolContents (Pair UserNumber ℕ)) (batches : ℕ) (is : IsCounting p batches) where
  abbrev table : FinMap number_cmp (ℕ × ℕ)
  table = contents number_cmp p

  abbrev counts : FinMap number_cmp ℕ
  counts = shown plain table

  -- what the table has at a user's number
  pub had : (user count : ℕ) → Some count ≡ option_map plain (get table (number_of user)) → (x : ℕ × ℕ) × (get table (number_of user) ≡ Some x) × (x.0 ≡ 0) × (x.1 ≡ count) × (count_at counts user ≡ count)
  had user count e = go (get table (number_of user)) refl e
    where
      go : (o : Option (ℕ × ℕ)) → get table (number_of user) ≡ o → Some count ≡ option_map plain o → (x : ℕ × ℕ) × (get table (number_of user) ≡ Some x) × (x.0 ≡ 0) × (x.1 ≡ count) × (count_at counts user ≡ count)
      go None at gone = absurd (let e : Some count ≡ None = gone in cc)
      go (Some x) at e = (
        x,
        at,
        is.charged.account (number_of user) x at,
        (let two : Some count ≡ Some x.1 = e in cc),
        ap (λ o. unwrap_or o 0) (get-shown plain table (number_of user) ∙ ap (option_map plain) at ∙ sym e),
      )

  pub had-none : (user : ℕ) → get table (number_of user) ≡ None → count_at counts user ≡ 0
  had-none user at = ap (λ o. unwrap_or o 0) (get-shown plain table (number_of user) ∙ ap (option_map plain) at)

  -- a present key's write, as an insert
  pub rewritten-is : (user v : ℕ) (x : ℕ × ℕ) → get table (number_of user) ≡ Some x → x.0 ≡ 0 → with_value_at table (number_of user) v ≡ insert table (number_of user) (0, v)
  rewritten-is user v x at zero_account = ap (rewritten table (number_of user) v) at ∙ ap (λ (a : ℕ). insert table (number_of user) (a, v)) zero_account

  pub counting-put : (q : PoolContents (Pair UserNumber ℕ)) (user v batches' : ℕ) → q.limits ≡ p.limits → contents number_cmp q ≡ insert table (number_of user) (0, v) → 0 < v → user < 2 ^ 32 → batches' + begun (count_at counts user) ≡ batches + begun v → IsCounting q batches'
  counting-put q user v batches' limits to some fits sum =
      record {
        limits = limits ∙ is.limits ∙ ap (λ l. room_of l ∷ []) (sym limits);
        small = subst (λ l. room_of l < 2 ^ 32) (sym limits) is.small;
        charged = subst (λ l. IsCharged (Shared (room_of l)) (λ (k : UserNumber). 0) (contents number_cmp q)) (sym limits) (subst (IsCharged (Shared (room_of p.limits)) (λ (k : UserNumber). 0)) (sym to) (charged-insert number_total number_exact (λ (k : UserNumber). 0) (Shared (room_of p.limits)) table is.charged (number_of user) 0 v refl tt));
        positive = λ k x got. elim (got-insert number_total number_exact table (number_of user) k (0, v) x (ap (λ (m : FinMap number_cmp (ℕ × ℕ)). get m k) (sym to) ∙ got)) [
          | inl e ↦ subst (λ (y : ℕ × ℕ). 0 < y.1) (sym e.1) some
          | inr old ↦ is.positive k x old
        ];
        keys = λ k x got. elim (got-insert number_total number_exact table (number_of user) k (0, v) x (ap (λ (m : FinMap number_cmp (ℕ × ℕ)). get m k) (sym to) ∙ got)) [
          | inl e ↦ subst (λ (y : UserNumber). y.value < 2 ^ 32) (sym e.0) fits
          | inr old ↦ is.keys k x old
        ];
        counted =
            let after : shown plain (contents number_cmp q) ≡ insert counts (number_of user) v = ap (shown plain) to ∙ shown-insert plain number_total number_exact table (number_of user) (0, v) in
            let here = ap (λ (m : FinMap number_cmp ℕ). batches_in m) after in
            let was = is.counted in
            omega (arith, batches-put counts user v);
      }

  pub counting-take : (q : PoolContents (Pair UserNumber ℕ)) (user batches' : ℕ) (x : ℕ × ℕ) → q.limits ≡ p.limits → contents number_cmp q ≡ remove table (number_of user) → get table (number_of user) ≡ Some x → batches' + begun x.1 ≡ batches → IsCounting q batches'
  counting-take q user batches' x limits to at sum =
      record {
        limits = limits ∙ is.limits ∙ ap (λ l. room_of l ∷ []) (sym limits);
        small = subst (λ l. room_of l < 2 ^ 32) (sym limits) is.small;
        charged = subst (λ l. IsCharged (Shared (room_of l)) (λ (k : UserNumber). 0) (contents number_cmp q)) (sym limits) (subst (IsCharged (Shared (room_of p.limits)) (λ (k : UserNumber). 0)) (sym to) (charged-remove number_total number_exact (λ (k : UserNumber). 0) (Shared (room_of p.limits)) table is.charged (number_of user)));
        positive = λ k y got. is.positive k y (got-remove number_total number_exact table (number_of user) k y (ap (λ (m : FinMap number_cmp (ℕ × ℕ)). get m k) (sym to) ∙ got));
        keys = λ k y got. is.keys k y (got-remove number_total number_exact table (number_of user) k y (ap (λ (m : FinMap number_cmp (ℕ × ℕ)). get m k) (sym to) ∙ got));
        counted =
            let after : shown plain (contents number_cmp q) ≡ remove counts (number_of user) = ap (shown plain) to ∙ shown-remove plain number_total number_exact table (number_of user) in
            let here = ap (λ (m : FinMap number_cmp ℕ). batches_in m) after in
            let was = is.counted in
            let got : get counts (number_of user) ≡ Some x.1 = get-shown plain table (number_of user) ∙ ap (option_map plain) at in
            omega (arith, sum_by-remove number_total number_exact (λ (e : UserNumber × ℕ). begun e.1) counts (number_of user) x.1 got);
      }

  -- the table takes another user while the counts are below its room
  pub has-room : total counts < room_of p.limits → charged table 0 ≢ limit_of p 0
  has-room below full =
      let many = charged-use number_total number_exact (λ (k : UserNumber). 0) plain (Shared (room_of p.limits)) table is.charged 0 in
      let few = len-le-total counts (λ k v got. positive-shown k v got) in
      omega arith
    where
      positive-shown : (k : UserNumber) (v : ℕ) → get counts k ≡ Some v → 0 < v
      positive-shown k v got = go (get table k) refl (sym (get-shown plain table k) ∙ got)
        where
          go : (o : Option (ℕ × ℕ)) → get table k ≡ o → option_map plain o ≡ Some v → 0 < v
          go None at gone = absurd (let e : None ≡ Some v = gone in cc)
          go (Some x) at e = subst (λ n. 0 < n) (let two : Some x.1 ≡ Some v = e in let same : x.1 ≡ v = cc in same) (is.positive k x at)

  -- a user that owns some is in the table
  pub owning : (user : ℕ) → 0 < count_at counts user → (x : ℕ × ℕ) × (get table (number_of user) ≡ Some x) × (x.0 ≡ 0) × (x.1 ≡ count_at counts user)
  owning user some = go (get table (number_of user)) refl
    where
      go : (o : Option (ℕ × ℕ)) → get table (number_of user) ≡ o → (x : ℕ × ℕ) × (get table (number_of user) ≡ Some x) × (x.0 ≡ 0) × (x.1 ≡ count_at counts user)
      go None at = let none = had-none user at in absurd (omega arith)
      go (Some x) at = let h = had user x.1 (sym (ap (option_map plain) at)) in (x, at, is.charged.account (number_of user) x at, sym h.4)

  pub sub-fits : (user count b : ℕ) → count ≡ count_at counts user → b ≡ begun count → b ≤ batches
  sub-fits user count b same e = let le = begun-le-batches counts user in let was = is.counted in let here : b ≡ begun (count_at counts user) = e ∙ ap (λ n. begun n) same in omega arith

  pub count-fits : (user count : ℕ) → count ≡ count_at counts user → total counts < room_of p.limits → count + 1 < 2 ^ 32
  count-fits user count same below = let le = count-le-total counts user in let small = is.small in omega arith

  pub batches-fit : (user count b c : ℕ) → count ≡ count_at counts user → b ≡ begun count → c ≡ begun (count + 1) → total counts < room_of p.limits → (batches - b) + c < 2 ^ 32
  batches-fit user count b c same e f below =
      let le = sub-fits user count b same e in
      let more = begun-more count in
      let most = batches-le-total counts in
      let was = is.counted in
      let small = is.small in
      omega arith

  pub one-more-fits : total counts < room_of p.limits → batches + 1 < 2 ^ 32
  one-more-fits below = let most = batches-le-total counts in let was = is.counted in let small = is.small in omega arith

  pub put-sum-is : (user count v b c : ℕ) → count ≡ count_at counts user → b ≡ begun count → c ≡ begun v → ((batches - b) + c) + begun (count_at counts user) ≡ batches + begun v
  put-sum-is user count v b c same e f = let le = sub-fits user count b same e in let here : b ≡ begun (count_at counts user) = e ∙ ap (λ n. begun n) same in omega arith

  pub take-sum-is : (user count b c x : ℕ) → count ≡ count_at counts user → count ≡ 1 → b ≡ begun count → c ≡ begun (count - 1) → x ≡ count → ((batches - b) + c) + begun x ≡ batches
  take-sum-is user count b c x same one e f is_x =
      let le = sub-fits user count b same e in
      let b1 : b ≡ 1 = e ∙ ap (λ n. begun n) one in
      let c0 : c ≡ 0 = f ∙ ap (λ n. begun (n - 1)) one in
      let x1 : begun x ≡ 1 = ap (λ n. begun n) (is_x ∙ one) in
      omega arith

-- the begun batches, summed over all users' numbers
pub batches-sum : (p : PoolContents (Pair UserNumber ℕ)) (batches : ℕ) → IsCounting p batches → batches ≡ sum_below (2 ^ 32) (λ user. begun (count_at (shown plain (contents number_cmp p)) user))
batches-sum p batches is =
    is.counted ∙ sym (sum_below-counts (2 ^ 32) (shown plain (contents number_cmp p)) (λ k v got.
    let x = shown-had p k v got in
    is.keys k x.0 x.1))
  where
    shown-had : (p : PoolContents (Pair UserNumber ℕ)) (k : UserNumber) (v : ℕ) → get (shown plain (contents number_cmp p)) k ≡ Some v → (x : ℕ × ℕ) × (get (contents number_cmp p) k ≡ Some x)
    shown-had p k v got = go (get (contents number_cmp p) k) refl (sym (get-shown plain (contents number_cmp p) k) ∙ got)
      where
        go : (o : Option (ℕ × ℕ)) → get (contents number_cmp p) k ≡ o → option_map plain o ≡ Some v → (x : ℕ × ℕ) × (get (contents number_cmp p) k ≡ Some x)
        go None at gone = absurd (let e : None ≡ Some v = gone in cc)
        go (Some x) at e = (x, at)

pub lowered-one : (m : FinMap number_cmp ℕ) (user : ℕ) → count_at m user ≡ 1 → remove m (number_of user) ≡ lowered m user
lowered-one m user one = sym (cond-true _ _ _ (eq-eqb (count_at m user) 1 one))

pub lowered-more : (m : FinMap number_cmp ℕ) (user : ℕ) → count_at m user ≢ 1 → insert m (number_of user) (count_at m user - 1) ≡ lowered m user
lowered-more m user more = sym (cond-false _ _ _ (ne_eqb (count_at m user) 1 more))

-- what is known where nothing was lent
pub none-copied : (r : Option (Bor ℕ)) (A : Type 0) → option_copied r ≡ None → IfNone r A → A
none-copied None A e h = h
none-copied (Some a) A e h = absurd (let gone : Some a.now ≡ None = e in cc)

pub counting-empty : (q : PoolContents (Pair UserNumber ℕ)) → q.limits ≡ room_of q.limits ∷ [] → room_of q.limits < 2 ^ 32 → contents number_cmp q ≡ empty → IsCounting q 0
counting-empty q limits small none = record {
  limits = limits;
  small = small;
  charged = subst (IsCharged (Shared (room_of q.limits)) (λ (k : UserNumber). 0)) (sym none) (charged-empty number_total number_exact (λ (k : UserNumber). 0) (Shared (room_of q.limits)));
  positive = λ k x got. absurd (let no : None ≡ Some x = sym (ap (λ (m : FinMap number_cmp (ℕ × ℕ)). get m k) none ∙ get-empty number_cmp k) ∙ got in cc);
  keys = λ k x got. absurd (let no : None ≡ Some x = sym (ap (λ (m : FinMap number_cmp (ℕ × ℕ)). get m k) none ∙ get-empty number_cmp k) ∙ got in cc);
  counted =
      let after : shown plain (contents number_cmp q) ≡ empty = ap (shown plain) none ∙ shown-empty plain number_total number_exact in
      sym (ap (λ (m : FinMap number_cmp ℕ). batches_in m) after ∙ nothing);
}
  where
    nothing : batches_in empty ≡ 0
    nothing = sum-empty (entries empty) (sym (len-entries empty) ∙ len-empty number_cmp ℕ)
      where
        sum-empty : (es : List (UserNumber × ℕ)) → length es ≡ 0 → sum_by (λ e. begun e.1) es ≡ 0
        sum-empty [] e = refl
        sum-empty (x ∷ es) e = absurd (omega arith)
