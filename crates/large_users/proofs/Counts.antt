-- What passes over the slots of a memory's tables come to.
use Rattle.std.proofs.Common.{◌≡◌, ◌≢◌, ◌⊎◌, ℕ, ◌+◌, ◌<◌, ◌≤◌, Bool, true, cond, List, [], ◌∷◌, length, map, take, get_or, Option, Some, None, refl, sym, ap, ◌∙◌, subst, arith, inl, inr, eq-eqb, length-append}
use Rattle.std.specs.Prelude.{◌==◌, is_some, IsSome, IfSome, option_map, sum_by}
use Rattle.std.specs.List.{Contains}
use Rattle.std.specs.FinMap.{FinMap, get, IsAntisymmetric}
use Rattle.std.specs.Cmp.{IsTotalOrder}
use Rattle.std.specs.declared.cmp.Ordering.{Ordering}
use Rattle.std.proofs.lemmas.Bool.{eqb-true, ne_eqb, cases_lt}
use Rattle.std.proofs.lemmas.List.{length-map, take_all}
use Rattle.std.proofs.lemmas.List.Sums.{sum_by-append}
use Rattle.compact_memories.specs.FileIndex.key.Entry.{Entry}
use Rattle.compact_memories.specs.FileIndex.key.FileKey.{FileKey}
use Rattle.compact_memories.specs.FileIndex.Order.{key_cmp, key_exact}
use Rattle.compact_memories.proofs.FileIndexLaws.Order.{key_total}
use Rattle.compact_memories.specs.PoolMap.Accounts.{keys_of}
use Rattle.compact_memories.specs.PoolMap.Slots.{slot_of, IsListed}
use Rattle.compact_memories.proofs.ShareIndexLaws.Owning.{value-of}
use Rattle.compact_memories.proofs.UserDedup.Owned.{contains_nothing, contains_cases}
use Rattle.compact_memories.proofs.CloudMemoryLaws.KeyCounts.{few_keys, many_keys}
use Rattle.compact_memories.proofs.Checkpoints.Sought.{from_picked, in_picked, apart_picked, map_picked}
use Rattle.compact_memories.proofs.CompactLists.Sums.{sum_alike, sum_mapped}
use Rattle.compact_memories.specs.Passes.{entry_at, entries_of, recipes_len}
use Rattle.compact_memories.proofs.Weights.{sum_keys}
use Rattle.compact_memories.proofs.CloudAreas.Apart.{Apart}
use Rattle.compact_memories.proofs.CloudAreas.Lists.{in_map, from_map}
use Rattle.compact_memories.proofs.KeptRows.{once_of, entry_gives, key_gives, len_at}
use Rattle.compact_memories.proofs.Passing.{more_none, more_one}
use Rattle.large_users.specs.declared.large.Entries.{Entries}
use Rattle.large_users.specs.Counting.{IsCountOf, recipes_in, IsSeen, IsUserFound, AreSeen, IfBelow}
use Rattle.large_users.specs.Large.{OfEach}

-- ---- one slot more

module _ (user : ℕ) (slots : List (Option (FileKey × Entry))) (slot : ℕ) (below : slot < length slots) (so_far : Entries) (is : IsCountOf user slots slot so_far) where
  stays : entry_at user (get_or slots slot None) ≡ None → IsCountOf user slots (slot + 1) so_far
  stays none =
      let same = more_none (entry_at user) slots slot below none in
      record {
        count = is.count ∙ ap (λ (es : List (FileKey × Entry)). length es) (sym same);
        bytes = is.bytes ∙ ap (sum_by (λ (e : FileKey × Entry). e.1.len)) (sym same);
        few = let f = is.few in omega (arith, f);
        small = let f = is.small in omega (arith, f);
      }

  pub count_one : (key : FileKey) (entry : Entry) → slot_of slots slot ≡ Some (key, entry) → key.user ≡ user → entry.len < 4294967296
      → IsCountOf user slots (slot + 1) (record { count = so_far.count + 1; bytes = so_far.bytes + entry.len })
  count_one key entry at same short =
      let one = more_one (entry_at user) slots slot (key, entry) below
      (ap (entry_at user) at ∙ ap (λ (b : Bool). cond b (Some (key, entry)) None) (eq-eqb key.user user same)) in
      let many = ap (λ (es : List (FileKey × Entry)). length es) one ∙ length-append (entries_of user (take slot slots)) ((key, entry) ∷ []) in
      let sum = ap (sum_by (λ (e : FileKey × Entry). e.1.len)) one ∙ sum_by-append (λ (e : FileKey × Entry). e.1.len) (entries_of user (take slot slots)) ((key, entry) ∷ []) in
      let c = is.count in let b = is.bytes in let f = is.few in let s = is.small in
      record {
        count = omega (arith, c, many);
        bytes = omega (arith, b, sum);
        few = omega (arith, f);
        small = omega (arith, s, short);
      }

  pub count_other : (key : FileKey) (entry : Entry) → slot_of slots slot ≡ Some (key, entry) → key.user ≢ user → IsCountOf user slots (slot + 1) so_far
  count_other key entry at other = stays (ap (entry_at user) at ∙ ap (λ (b : Bool). cond b (Some (key, entry)) None) (ne_eqb key.user user other))

  pub count_none : slot_of slots slot ≡ None → IsCountOf user slots (slot + 1) so_far
  count_none at = stays (ap (entry_at user) at)

pub count_begins : (user : ℕ) (slots : List (Option (FileKey × Entry))) → IsCountOf user slots 0 (record { count = 0; bytes = 0 })
count_begins user slots = record { count = refl; bytes = refl; few = omega arith; small = omega arith }

-- ---- over all slots

module _ (files : FinMap key_cmp Entry) (slots : List (Option (FileKey × Entry))) (user : ℕ) (l : IsListed files slots) where
  abbrev ours : List (FileKey × Entry)
  ours = entries_of user slots

  abbrev key_in : FileKey × Entry → FileKey
  key_in x = x.0

  abbrev is_file : FileKey → Bool
  is_file k = k.user == user

  keys_apart : Apart (map key_in ours)
  keys_apart =
      subst (Apart {X = FileKey}) (sym (map_picked (entry_at user) refl key_in slots))
      (apart_picked (λ o. option_map key_in (entry_at user o)) refl slots (λ i j a b k ia jb fa fb.
      let same : b.0 ≡ a.0 = key_gives user b k fb ∙ sym (key_gives user a k fa) in
      l.once i j a.0 a.1 b.1 ia (jb ∙ ap (λ (q : FileKey). Some (q, b.1)) same)))

  listed_so : (x : FileKey × Entry) → Contains ours x → (x.0.user ≡ user) × (get files x.0 ≡ Some x.1)
  listed_so x c =
      let s = from_picked (entry_at user) refl slots x c in
      let g = entry_gives user s.entry x s.picks in
      subst (λ (y : FileKey × Entry). (y.0.user ≡ user) × (get files y.0 ≡ Some y.1)) g.1 (g.0, l.listed s.slot s.entry.0 s.entry.1 s.here)

  there : (k : FileKey) → Contains (map key_in ours) k → (is_file k ≡ true) × IsSome (get files k)
  there k c =
      let f = from_map key_in ours k c in let h = listed_so f.0 f.1 in
      subst (λ (q : FileKey). (is_file q ≡ true) × IsSome (get files q)) f.2 (eq-eqb f.0.0.user user h.0, ap is_some h.1)

  among : (k : FileKey) → is_file k ≡ true → IsSome (get files k) → Contains (map key_in ours) k
  among k t some =
      let v = value-of (get files k) some in
      let s = l.stands k v.0 v.1 in
      in_map key_in ours (k, v.0) (in_picked (entry_at user) refl slots s.0 (k, v.0) (k, v.0) s.2 (ap (λ (b : Bool). cond b (Some (k, v.0)) None) t))

  bytes_are : recipes_in files user ≡ recipes_len slots user
  unfolding len_at
  bytes_are =
      sum_keys key_total key_exact is_file (λ (e : FileKey × Entry). e.1.len) (λ (k : FileKey). len_at (get files k)) files (map key_in ours) (once_of (map key_in ours) keys_apart) there among
      (λ k e c at. sym (ap len_at at))
      ∙ sum_mapped (λ (k : FileKey). len_at (get files k)) key_in ours
      ∙ sum_alike (λ (x : FileKey × Entry). len_at (get files x.0)) (λ (x : FileKey × Entry). x.1.len) ours (λ x c. ap len_at (listed_so x c).1)

  pub count_is : keys_of (λ (k : FileKey). k.user) files user ≡ length ours
  count_is =
      let few = few_keys key_total key_exact is_file files (map key_in ours) among in
      let many = many_keys key_total key_exact is_file files (map key_in ours) (once_of (map key_in ours) keys_apart) there in
      let long = length-map ours key_in in
      omega (arith, few, many, long)

  pub counted : (slot : ℕ) (entries : Entries) → length slots ≤ slot → IsCountOf user slots slot entries → entries.count ≡ keys_of (λ (k : FileKey). k.user) files user
  counted slot entries le is = is.count ∙ ap (λ (some : List (Option (FileKey × Entry))). length (entries_of user some)) (take_all slot slots le) ∙ sym count_is

  pub summed : (slot : ℕ) (entries : Entries) → length slots ≤ slot → IsCountOf user slots slot entries → entries.bytes ≡ recipes_in files user
  summed slot entries le is = is.bytes ∙ ap (λ (some : List (Option (FileKey × Entry))). recipes_len some user) (take_all slot slots le) ∙ sym bytes_are

-- ---- users that were seen

module _ {K V : Type 0} (user_in : K → ℕ) (from : ℕ) (slots : List (Option (K × V))) where
  pub seen_more : (slot : ℕ) (least result : Option ℕ) → AreSeen user_in from slots slot least
      → ((other : ℕ) → IsSeen from least other → IsSeen from result other)
      → ((k : K) (v : V) → slot_of slots slot ≡ Some (k, v) → IsSeen from result (user_in k)) → AreSeen user_in from slots (slot + 1) result
  seen_more slot least result seen still here s k v lt at =
      elim (cases_lt s slot) [
        | inl below ↦ still (user_in k) (seen s k v below at)
        | inr le ↦ let same : s ≡ slot = omega (arith, lt, le) in here k v (subst (λ (n : ℕ). slot_of slots n ≡ Some (k, v)) same at)
      ]

  pub seen_key : (result : Option ℕ) (key : K) (value : V) (o : Option (K × V)) → o ≡ Some (key, value) → IsSeen from result (user_in key)
      → (k : K) (v : V) → o ≡ Some (k, v) → IsSeen from result (user_in k)
  seen_key result key value o is seen k v at =
      let same : ◌≡◌ {A = Option (K × V)} (Some (key, value)) (Some (k, v)) = sym is ∙ at in
      let pair : ◌≡◌ {A = K × V} (key, value) (k, v) = cc in
      subst (λ (q : K). IsSeen from result (user_in q)) (ap (λ (p : K × V). p.0) pair) seen

  pub seen_none : (result : Option ℕ) (o : Option (K × V)) → o ≡ None → (k : K) (v : V) → o ≡ Some (k, v) → IsSeen from result (user_in k)
  seen_none result o is k v at = absurd (let no : ◌≡◌ {A = Option (K × V)} None (Some (k, v)) = sym is ∙ at in cc)

  pub seen_past : (slot : ℕ) (least : Option ℕ) → length slots ≤ slot → AreSeen user_in from slots slot least → AreSeen user_in from slots (length slots) least
  seen_past slot least le seen s k v lt at = seen s k v (omega (arith, le, lt)) at

  pub seen_begins : (least : Option ℕ) → AreSeen user_in from slots 0 least
  seen_begins least s k v lt at = absurd (omega (arith, lt))

  pub found_more : (slot : ℕ) (least result : Option ℕ) (key : K) (value : V) (user : ℕ) → slot_of slots slot ≡ Some (key, value) → user_in key ≡ user
      → IsUserFound user_in from slots least → (result ≡ least) ⊎ ((result ≡ Some user) × (from ≤ user)) → IsUserFound user_in from slots result
  found_more slot least result key value user at same found which =
      elim which [
        | inl is ↦ subst (IsUserFound user_in from slots) (sym is) found
        | inr is ↦ subst (IsUserFound user_in from slots) (sym is.0) (is.1, slot, key, value, at, same)
      ]

-- ---- what is said of each slot

module _ {K V : Type 0} (P : K → V → Type 0) (slots : List (Option (K × V))) where
  pub each_more : (slot : ℕ) → OfEach P slots slot → ((k : K) (v : V) → slot_of slots slot ≡ Some (k, v) → P k v) → OfEach P slots (slot + 1)
  each_more slot so_far here s k v lt at =
      elim (cases_lt s slot) [
        | inl below ↦ so_far s k v below at
        | inr le ↦ let same : s ≡ slot = omega (arith, lt, le) in here k v (subst (λ (n : ℕ). slot_of slots n ≡ Some (k, v)) same at)
      ]

  pub each_key : (key : K) (value : V) (o : Option (K × V)) → o ≡ Some (key, value) → P key value → (k : K) (v : V) → o ≡ Some (k, v) → P k v
  each_key key value o is here k v at =
      let same : ◌≡◌ {A = Option (K × V)} (Some (key, value)) (Some (k, v)) = sym is ∙ at in
      let pair : ◌≡◌ {A = K × V} (key, value) (k, v) = cc in
      subst (λ (p : K × V). P p.0 p.1) pair here

  pub each_none : (o : Option (K × V)) → o ≡ None → (k : K) (v : V) → o ≡ Some (k, v) → P k v
  each_none o is k v at = absurd (let no : ◌≡◌ {A = Option (K × V)} None (Some (k, v)) = sym is ∙ at in cc)

  pub each_past : (slot : ℕ) → length slots ≤ slot → OfEach P slots slot → OfEach P slots (length slots)
  each_past slot le so_far s k v lt at = so_far s k v (omega (arith, le, lt)) at

  pub each_begins : OfEach P slots 0
  each_begins s k v lt at = absurd (omega (arith, lt))

-- ---- owners

unseen : (from : ℕ) (least : Option ℕ) (user : ℕ) → from ≤ user → IfBelow least user → IsSeen from least user → ⊥
unseen from None user le below seen = omega (arith, le, seen)
unseen from (Some least) user le below seen =
    elim seen [
      | inl lt ↦ omega (arith, le, lt)
      | inr ge ↦ omega (arith, ge, below)
    ]

module _ {K V : Type 0} {R : K → K → Ordering} (total : IsTotalOrder R) (exact : IsAntisymmetric R) (user_in : K → ℕ) (m : FinMap R V) (slots : List (Option (K × V))) (l : IsListed m slots) where
  -- nothing is a user's that is no less than the number, and below the least one that was seen
  pub none_of : (from : ℕ) (least : Option ℕ) (user : ℕ) → ((u : ℕ) → (s : ℕ) (k : K) (v : V) → slot_of slots s ≡ Some (k, v) → user_in k ≡ u → s < length slots → IsSeen from least u)
      → from ≤ user → IfBelow least user → keys_of user_in m user ≡ 0
  none_of from least user seen le below =
      let few = few_keys total exact (λ (k : K). user_in k == user) m [] (λ k t some.
      let v = value-of (get m k) some in
      let s = l.stands k v.0 v.1 in
      absurd (unseen from least user le below (seen user s.0 k v.0 s.2 (eqb-true (user_in k) user t) s.1))) in
      omega (arith, few)

  pub some_of : (from : ℕ) (least : Option ℕ) → IsUserFound user_in from slots least → IfSome least (λ (user : ℕ). (from ≤ user) × (1 ≤ keys_of user_in m user))
  some_of from None found = tt
  some_of from (Some user) found =
      let k = found.2 in
      let many = many_keys total exact (λ (q : K). user_in q == user) m (k ∷ []) (contains_nothing k, tt) (λ q c. elim (contains_cases k [] q c) [
        | inl same ↦ subst (λ (p : K). ((user_in p == user) ≡ true) × IsSome (get m p)) same (eq-eqb (user_in k) user found.5, ap is_some (l.listed found.1 k found.3 found.4))
        | inr later ↦ absurd (contains_nothing q later)
      ]) in
      (found.0, omega (arith, many))
