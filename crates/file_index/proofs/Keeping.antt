-- What the table's steps do to the files that it keeps.
use Rattle.std.proofs.Common.{◌≡◌, ◌≢◌, ℕ, true, false, length, Option, Some, None, refl, sym, ap, ◌∙◌, subst, inl, inr, true≢false}
use Rattle.std.specs.Prelude.{is_some, option_map, option_copied, MatchOption, IfNone, ◌↔◌, slice_index_or, replicate}
use Rattle.std.specs.Borrow.{Bor}
use Rattle.std.specs.declared.cmp.Ordering.{Ordering}
use Rattle.std.specs.Cmp.{tied_itself}
use Rattle.std.specs.declared.cmp.Ordering.TheVariants.{Less, Equal, Greater}
use Rattle.std.specs.FinMap.{FinMap, get, insert, remove, empty, get-empty}
use Rattle.pool_map.specs.SlotPool.Pool.{PoolContents, limit_of}
use Rattle.pool_map.specs.declared.KeyedValue.{KeyedValue as Pair}
use Rattle.pool_map.specs.Table.{contents, charged, value_at, with_value_at, rewritten, IsLeastAbove, HasNoneAbove}
use Rattle.pool_map.specs.Shown.{shown, get-shown, shown-insert}
use Rattle.pool_map.specs.declared.accounts.Accounts.{Accounts}
use Rattle.pool_map.specs.declared.accounts.IndexErr.TheVariants.{Full}
use Rattle.pool_map.specs.Accounts.{limits_of, limit_for, account_for, IsKnown}
use Rattle.pool_map.specs.Charges.{IsCharged, charged-use, unknown-use, limit-account, charged-empty, charged-insert, charged-remove, charged-rewritten, got-insert, got-remove}
use Rattle.cd_base.specs.declared.ids.Tag.{Tag}
use Rattle.cd_base.specs.declared.ids.Version.{Version}
use Rattle.file_index.specs.declared.key.FileKey.{FileKey}
use Rattle.file_index.specs.declared.key.Entry.{Entry}
use Rattle.file_index.specs.Order.{key_cmp, key_exact}
use Rattle.file_index.specs.Files.{Files, key_of, used_by, HasNoNext}
use Rattle.file_index.specs.Kept.{files_of, IsKept, HasTags, IsLeastFrom, HasNoneFrom, IsKeyFound}
use Rattle.file_index.proofs.Order.{key_total, user-le, least-key}

module _ {X Y : Type 0} (f : X → Y) where
  some-mapped : (o : Option X) → is_some (option_map f o) ≡ is_some o
  some-mapped None = refl
  some-mapped (Some x) = refl

  none-mapped : (o : Option X) → option_map f o ≡ None → o ≡ None
  none-mapped None e = refl
  none-mapped (Some x) e = absurd (let no : Some (f x) ≡ None = e in cc)

value-of : {X : Type 0} (o : Option X) → is_some o ≡ true → (x : X) × (o ≡ Some x)
value-of None s = absurd (true≢false (sym s))
value-of (Some x) s = (x, refl)

some-is : {X : Type 0} (o : Option X) (x : X) → o ≡ Some x → is_some o ≡ true
some-is o x e = ap is_some e

abbrev pub value : ℕ × Entry → Entry
value x = x.1

-- a key of the files is one of the table, and the other way round
pub present-shown : (m : FinMap key_cmp (ℕ × Entry)) (k : FileKey) → is_some (get (shown value m) k) ≡ is_some (get m k)
present-shown m k = ap is_some (get-shown value m k) ∙ some-mapped value (get m k)

pub absent-shown : (m : FinMap key_cmp (ℕ × Entry)) (k : FileKey) → get (shown value m) k ≡ None → get m k ≡ None
absent-shown m k e = none-mapped value (get m k) (sym (get-shown value m k) ∙ e)

pub kept-fresh : (p : PoolContents (Pair FileKey Entry)) (accounts : Accounts) → p.limits ≡ limits_of accounts → contents key_cmp p ≡ empty → IsKept p accounts
kept-fresh p accounts limits none = record {
  limits = limits;
  charged = subst (IsCharged accounts (λ (k : FileKey). k.user)) (sym none) (charged-empty key_total key_exact (λ (k : FileKey). k.user) accounts);
  tags = λ k some. absurd (true≢false (sym some ∙ ap (λ (m : FinMap key_cmp (ℕ × Entry)). is_some (get m k)) none ∙ ap is_some (get-empty key_cmp k)));
}

pub kept-insert : (p q : PoolContents (Pair FileKey Entry)) (accounts : Accounts) (k : FileKey) (a : ℕ) (e : Entry) → IsKept p accounts → q.limits ≡ p.limits → contents key_cmp q ≡ insert (contents key_cmp p) k (a, e) → a ≡ account_for accounts k.user → IsKnown accounts k.user → length k.tag ≡ 32 → IsKept q accounts
kept-insert p q accounts k a e kept limits is at known long = record {
  limits = limits ∙ kept.limits;
  charged = subst (IsCharged accounts (λ (k : FileKey). k.user)) (sym is) (charged-insert key_total key_exact (λ (k : FileKey). k.user) accounts (contents key_cmp p) kept.charged k a e at known);
  tags = λ t some.
      let x = value-of _ some in
      elim (got-insert key_total key_exact (contents key_cmp p) k t (a, e) x.0 (ap (λ (m : FinMap key_cmp (ℕ × Entry)). get m t) (sym is) ∙ x.1)) [
        | inl same ↦ ap (λ (y : FileKey). length y.tag) same.0 ∙ long
        | inr old ↦ kept.tags t (some-is _ x.0 old)
      ];
}

-- another entry at a key that the table has
pub kept-rewritten : (p q : PoolContents (Pair FileKey Entry)) (accounts : Accounts) (k : FileKey) (e : Entry) (x : ℕ × Entry) → IsKept p accounts → q.limits ≡ p.limits → contents key_cmp q ≡ with_value_at (contents key_cmp p) k e → get (contents key_cmp p) k ≡ Some x → IsKept q accounts
kept-rewritten p q accounts k e x kept limits is at = record {
  limits = limits ∙ kept.limits;
  charged = subst (IsCharged accounts (λ (k : FileKey). k.user)) (sym is) (charged-rewritten key_total key_exact (λ (k : FileKey). k.user) accounts (contents key_cmp p) kept.charged k e x at);
  tags = λ t some.
      let y = value-of _ some in
      let to : contents key_cmp q ≡ insert (contents key_cmp p) k (x.0, e) = is ∙ ap (rewritten (contents key_cmp p) k e) at in
      elim (got-insert key_total key_exact (contents key_cmp p) k t (x.0, e) y.0 (ap (λ (m : FinMap key_cmp (ℕ × Entry)). get m t) (sym to) ∙ y.1)) [
        | inl same ↦ kept.tags t (some-is _ x (ap (get (contents key_cmp p)) same.0 ∙ at))
        | inr old ↦ kept.tags t (some-is _ y.0 old)
      ];
}

pub rewritten-files : (p q : PoolContents (Pair FileKey Entry)) (k : FileKey) (e : Entry) (x : ℕ × Entry) → get (contents key_cmp p) k ≡ Some x → contents key_cmp q ≡ with_value_at (contents key_cmp p) k e → shown value (contents key_cmp q) ≡ insert (shown value (contents key_cmp p)) k e
rewritten-files p q k e x at to = ap (shown value) (to ∙ ap (rewritten (contents key_cmp p) k e) at) ∙ shown-insert value key_total key_exact (contents key_cmp p) k (x.0, e)

-- a key of the files has its account and its entry in the table
pub entry-of : (m : FinMap key_cmp (ℕ × Entry)) (k : FileKey) → is_some (get (shown value m) k) ≡ true → (x : ℕ × Entry) × (get m k ≡ Some x)
entry-of m k some = value-of _ (sym (present-shown m k) ∙ some)

pub kept-remove : (p q : PoolContents (Pair FileKey Entry)) (accounts : Accounts) (k : FileKey) → IsKept p accounts → q.limits ≡ p.limits → contents key_cmp q ≡ remove (contents key_cmp p) k → IsKept q accounts
kept-remove p q accounts k kept limits is = record {
  limits = limits ∙ kept.limits;
  charged = subst (IsCharged accounts (λ (k : FileKey). k.user)) (sym is) (charged-remove key_total key_exact (λ (k : FileKey). k.user) accounts (contents key_cmp p) kept.charged k);
  tags = λ t some.
      let x = value-of _ some in
      kept.tags t (some-is _ x.0 (got-remove key_total key_exact (contents key_cmp p) k t x.0 (ap (λ (m : FinMap key_cmp (ℕ × Entry)). get m t) (sym is) ∙ x.1)));
}

module _ (p : PoolContents (Pair FileKey Entry)) (accounts : Accounts) (kept : IsKept p accounts) (user : ℕ) where
  abbrev index : Files
  index = files_of p accounts

  use-is : charged (contents key_cmp p) (account_for accounts user) ≡ used_by index user
  use-is = charged-use key_total key_exact (λ (k : FileKey). k.user) value accounts (contents key_cmp p) kept.charged user

  limit-is : IsKnown accounts user → limit_of p (account_for accounts user) ≡ limit_for accounts user
  limit-is known = ap (λ l. slice_index_or l (account_for accounts user) 0) kept.limits ∙ limit-account accounts user known

  -- what the table says of an account, said of the user
  pub refusal : (a : ℕ) (E : Type 0) → a ≡ account_for accounts user → IsKnown accounts user → E ↔ charged (contents key_cmp p) a ≡ limit_of p a → E ↔ used_by index user ≡ limit_for accounts user
  refusal a E at known both =
      let spent : charged (contents key_cmp p) a ≡ used_by index user = ap (charged (contents key_cmp p)) at ∙ use-is in
      let limit : limit_of p a ≡ limit_for accounts user = ap (limit_of p) at ∙ limit-is known in
      ((λ e. sym spent ∙ both.0 e ∙ limit), (λ full. both.1 (spent ∙ full ∙ sym limit)))

  pub refusal-full : (a used limit : ℕ) → a ≡ account_for accounts user → IsKnown accounts user → used ≡ charged (contents key_cmp p) a → limit ≡ limit_of p a → Full used limit ≡ Full (used_by index user) (limit_for accounts user)
  refusal-full a used limit at known is_use is_limit =
      let u = is_use ∙ ap (charged (contents key_cmp p)) at ∙ use-is in
      let l = is_limit ∙ ap (limit_of p) at ∙ limit-is known in
      λ i. Full (u i) (l i)

  pub charges : (a : ℕ) → a ≡ account_for accounts user → charged (contents key_cmp p) a ≡ used_by index user
  charges a at = ap (charged (contents key_cmp p)) at ∙ use-is

  pub limits_are : (a : ℕ) → a ≡ account_for accounts user → IsKnown accounts user → limit_of p a ≡ limit_for accounts user
  limits_are a at known = ap (limit_of p) at ∙ limit-is known

  pub unused : (IsKnown accounts user → ⊥) → used_by index user ≡ 0
  unused unknown = unknown-use key_total key_exact (λ (k : FileKey). k.user) value accounts (contents key_cmp p) kept.charged user unknown

  -- a user without an account
  pub stranger : (IsKnown accounts user → ⊥) → limit_for accounts user ≡ 0 → (used_by index user ≡ limit_for accounts user) × (Full 0 0 ≡ Full (used_by index user) (limit_for accounts user))
  stranger unknown none =
      let u = unused unknown in
      (u ∙ sym none, (λ i. Full (sym u i) (sym none i)))

-- what is said of a lent key, said of its copy
copied : (N : Type 0) (P : FileKey → Type 0) (r : Option (Bor FileKey)) (c : Option FileKey) → c ≡ option_copied r → MatchOption r N (λ a. P a.now) → MatchOption c N P
copied N P None c is h = subst (λ o. MatchOption o N P) (sym is) h
copied N P (Some a) c is h = subst (λ o. MatchOption o N P) (sym is) h

matched : {N M : Type 0} (P Q : FileKey → Type 0) (o : Option FileKey) → (N → M) → ((a : FileKey) → P a → Q a) → MatchOption o N P → MatchOption o M Q
matched P Q None f g h = f h
matched P Q (Some a) f g h = g a h

some-copied : (r : Option (Bor Entry)) → is_some (option_copied r) ≡ is_some r
some-copied None = refl
some-copied (Some a) = refl

pub none-from : {X : Type 0} (r : Option X) (A : Type 0) → is_some r ≡ false → IfNone r A → A
none-from None A e h = h
none-from (Some x) A e h = absurd (true≢false e)

module _ (p : PoolContents (Pair FileKey Entry)) where
  abbrev table : FinMap key_cmp (ℕ × Entry)
  table = contents key_cmp p

  pub tags-shown : (accounts : Accounts) → IsKept p accounts → HasTags (shown value table)
  tags-shown accounts kept k some = kept.tags k (sym (present-shown table k) ∙ some)

  -- a key that is present is the least from it on
  pub from-itself : (key : FileKey) (r : Option (Bor Entry)) → option_copied r ≡ value_at key_cmp p key → is_some r ≡ true → IsLeastFrom (shown value table) key key
  from-itself key r is some = record {
    present = ap is_some (get-shown value table key ∙ sym is) ∙ some-copied r ∙ some;
    from = λ e. let no : Equal ≡ Greater = sym (tied_itself key_total key) ∙ e in cc;
    least = λ k there n. n;
  }

  by-cases : (key k : FileKey) (G : Type 0) → (key_cmp key k ≡ Less → G) → (key ≡ k → G) → (key_cmp key k ≡ Greater → G) → G
  by-cases key k G l e g = go (key_cmp key k) refl
    where
      go : (r : Ordering) → key_cmp key k ≡ r → G
      go Less is = l is
      go Equal is = e (key_exact key k is)
      go Greater is = g is

  missing : (key k : FileKey) → get table key ≡ None → is_some (get table k) ≡ true → key ≡ k → ⊥
  missing key k none some same = true≢false (sym some ∙ ap (λ y. is_some (get table y)) (sym same) ∙ ap is_some none)

  pub from-above : (key : FileKey) (r : Option (Bor FileKey)) (c : Option FileKey) → get table key ≡ None → c ≡ option_copied r → MatchOption r (HasNoneAbove table key) (λ a. IsLeastAbove table key a.now) → MatchOption c (HasNoneFrom (shown value table) key) (IsLeastFrom (shown value table) key)
  from-above key r c none is h =
      matched (IsLeastAbove table key) (IsLeastFrom (shown value table) key) c
      (λ no k some.
      let there = sym (present-shown table k) ∙ some in
      by-cases key k (key_cmp key k ≡ Greater) (λ less. absurd (no k there less)) (λ same. absurd (missing key k none there same)) (λ g. g))
      (λ a up. record {
        present = present-shown table a ∙ up.present;
        from = λ e. let no : Less ≡ Greater = sym up.above ∙ e in cc;
        least = λ k some n.
            let there = sym (present-shown table k) ∙ some in
            by-cases key k (key_cmp a k ≢ Greater) (λ less. up.least k there less) (λ same. absurd (missing key k none there same)) (λ g. absurd (n g));
      })
      (copied _ (IsLeastAbove table key) r c is h)

  pub next-above : (user : ℕ) (last : Tag × Version) (given : FileKey) (r : Option (Bor FileKey)) (c : Option FileKey) → given ≡ key_of user last.0.0 last.1.0 → c ≡ option_copied r → MatchOption r (HasNoneAbove table given) (λ a. IsLeastAbove table given a.now) → MatchOption c (HasNoNext (shown value table) user (Some last)) (IsKeyFound (shown value table) user (Some last))
  next-above user last given r c same is h =
      let key = key_of user last.0.0 last.1.0 in
      matched (IsLeastAbove table key) (IsKeyFound (shown value table) user (Some last)) c
      (λ no k some after. no k (sym (present-shown table k) ∙ some) after.1)
      (λ a up. record {
        present = present-shown table a ∙ up.present;
        after = λ same. (same, up.above);
        beyond = user-le key a (λ e. let no : Less ≡ Greater = sym up.above ∙ e in cc);
        least = λ k some after. up.least k (sym (present-shown table k) ∙ some) after.1;
      })
      (copied _ (IsLeastAbove table key) r c is (subst (λ k. MatchOption r (HasNoneAbove table k) (λ a. IsLeastAbove table k a.now)) same h))

-- from the user's least key on
pub next-from : (m : FinMap key_cmp Entry) (user : ℕ) (given : FileKey) (c : Option FileKey) → given ≡ key_of user (replicate 32 0) 0 → HasTags m → MatchOption c (HasNoneFrom m given) (IsLeastFrom m given) → MatchOption c (HasNoNext m user None) (IsKeyFound m user None)
next-from m user given c is tags h =
    let least = key_of user (replicate 32 0) 0 in
    matched (IsLeastFrom m least) (IsKeyFound m user None) c
    (λ no k some same. least-key k user same (tags k some) (no k some))
    (λ a from. record {
      present = from.present;
      after = λ same. same;
      beyond = user-le least a from.from;
      least = λ k some same. from.least k some (least-key k user same (tags k some));
    })
    (subst (λ k. MatchOption c (HasNoneFrom m k) (IsLeastFrom m k)) is h)
