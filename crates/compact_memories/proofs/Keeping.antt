-- What a user keeps by a memory is what it has by the memory's list.
use Rattle.std.proofs.Common.{◌≡◌, ℕ, ◌<◌, ◌≤◌, Bool, true, false, cond, List, length, map, Option, Some, None, refl, sym, ap, ◌∙◌, subst, arith, inl, inr, eq-eqb}
use Rattle.std.specs.Prelude.{◌==◌, is_some, IsSome, option_map}
use Rattle.std.specs.List.{Contains}
use Rattle.std.specs.FinMap.{get}
use Rattle.std.proofs.lemmas.Bool.{eqb-true, cases_lt}
use Rattle.std.proofs.lemmas.List.{get_or_past}
use Rattle.compact_lists.specs.CdBase.ids.Fp.{Fp}
use Rattle.compact_lists.specs.CdBase.ids.UserId.{UserId}
use Rattle.compact_lists.specs.CdBase.shape.Shape.{Shape}
use Rattle.checkpoints.specs.PoolMap.Accounts.{keys_of}
use Rattle.checkpoints.specs.FileIndex.key.Entry.{Entry}
use Rattle.checkpoints.specs.FileIndex.key.FileKey.{FileKey}
use Rattle.checkpoints.specs.FileIndex.Order.{key_exact}
use Rattle.checkpoints.proofs.FileIndexLaws.Order.{key_total}
use Rattle.checkpoints.specs.ShareIndex.key.Owner.{Owner}
use Rattle.checkpoints.specs.ShareIndex.Order.{owner_of, owner_exact}
use Rattle.checkpoints.proofs.ShareIndexLaws.Owning.{owner_total, value-of}
use Rattle.checkpoints.specs.SpentTable.Spent.{Spent as Row}
use Rattle.checkpoints.specs.SpentTable.Spending.{spent_by}
use Rattle.compact_lists.specs.UserDedup.file_list.FileEntry.{FileEntry}
use Rattle.compact_lists.specs.UserDedup.Strings.{fingerprint}
use Rattle.compact_lists.specs.UserDedup.Owning.{is_among}
use Rattle.compact_lists.specs.UserDedup.Pages.{entry_at, key_of as file_key}
use Rattle.compact_lists.proofs.UserDedup.Owned.{among_contains, contains_among}
use Rattle.compact_lists.specs.UserDedup.command.Command.{Command}
use Rattle.compact_lists.specs.UserDedup.Dedup.{IsSound}
use Rattle.compact_lists.specs.UserDedup.Cloud.{user_view, strings_in}
use Rattle.compact_lists.specs.UserDedup.Spending.{SpentByUser, nothing, spent_of}
use Rattle.compact_lists.proofs.UserDedup.Once.{Once}
use Rattle.compact_lists.proofs.UserDedup.Sound.{keys_apart}
use Rattle.compact_lists.proofs.UserDedup.Views.{owned_is_held, held_is}
use Rattle.checkpoints.specs.CloudMemory.cloud.CloudMemory.{CloudMemory}
use Rattle.checkpoints.specs.CloudMemory.Memory.{Memory, Remembers, as_spent, uses_of, summary, summary_of}
use Rattle.checkpoints.specs.CloudMemory.Rooms.{memory_of}
use Rattle.checkpoints.specs.CloudMemory.Steps.{placed_len}
use Rattle.checkpoints.specs.Known.{AreListed}
use Rattle.checkpoints.proofs.CloudAreas.Lists.{in_map, from_map}
use Rattle.checkpoints.proofs.UserDedup.Pages.{Key}
use Rattle.checkpoints.proofs.CloudMemoryLaws.Next.{of, Holds, holds_of}
use Rattle.compact_lists.specs.Live.{live_of, bytes_held}
use Rattle.compact_lists.proofs.Sums.{sum_ones, sum_mapped, sorted_keys_sum, keys_are_once, entries_sum}
use Rattle.compact_lists.proofs.Parts.{own_once}
use Rattle.compact_lists.proofs.Keeping.{owners_less, shares_less, recipes_less}
use Rattle.compact_memories.specs.Kept.{kept_in, IsCompacted, RemembersCompact}
use Rattle.compact_memories.specs.Moved.{IsMoved}
use Rattle.compact_memories.proofs.Compacted.{IsLike, like_remembers}
use Rattle.compact_memories.proofs.Moving.{moved_like}
use Rattle.compact_memories.specs.Tables.{with_table}
use Rattle.compact_memories.proofs.Weights.{once_map, sum_keys}

module _ (shape : Shape) (cloud : ℕ) (list : List Command) (m : Memory) (user : UserId) (sound : IsSound shape cloud list) (r : Remembers shape list m) where
  -- ---- owners

  abbrev own : List Fp
  own = (user_view shape list user).own

  abbrev mine : Fp → Owner
  mine fp = owner_of user.0 fp.0

  abbrev fp_in : Owner → Fp
  fp_in k = record { 0 = k.fp }

  abbrev is_mine : Owner → Bool
  is_mine k = k.user == user.0

  among : (k : Owner) → is_mine k ≡ true → IsSome (get m.owners k) → Contains (map mine own) k
  among k t some =
      let same : mine (fp_in k) ≡ k = λ i. record { user = sym (eqb-true k.user user.0 t) i; fp = k.fp } in
      let here : is_some (cond (is_among own (fp_in k)) (Some (uses_of shape (user_view shape list user).files (fp_in k))) None) ≡ true =
      ap is_some (sym (r.owners user (fp_in k))) ∙ ap (λ (q : Owner). is_some (get m.owners q)) same ∙ some in
      subst (Contains (map mine own)) same
      (in_map mine own (fp_in k) (among_contains own (fp_in k) (by_test (is_among own (fp_in k)) here)))
    where
      by_test : (b : Bool) → is_some (cond b (Some (uses_of shape (user_view shape list user).files (fp_in k))) None) ≡ true → b ≡ true
      by_test true e = refl
      by_test false e = e

  there : (k : Owner) → Contains (map mine own) k → (is_mine k ≡ true) × IsSome (get m.owners k)
  there k c =
      let f = from_map mine own k c in
      subst (λ (q : Owner). (is_mine q ≡ true) × IsSome (get m.owners q)) f.2 (
        eq-eqb user.0 user.0 refl,
        ap is_some (r.owners user f.0) ∙ ap (λ (b : Bool). is_some (cond b (Some (uses_of shape (user_view shape list user).files f.0)) None)) (contains_among own f.0 f.1),
      )

  once : Once (map mine own)
  once = once_map mine (λ a b e. λ i. record { 0 = (e i).fp }) own (own_once shape cloud list sound user)

  owners_kept : (kept_in m user).owners ≡ (live_of shape list user).owners
  owners_kept =
      sum_keys owner_total owner_exact is_mine (λ (e : Owner × ℕ). 1) (λ (k : Owner). 1) m.owners (map mine own) once there among (λ k x c at. refl)
      ∙ sum_mapped (λ (k : Owner). 1) mine own
      ∙ sum_ones own

  pub owners_counted : keys_of (λ (k : Owner). k.user) m.owners user.0 ≡ length own
  owners_counted = owners_kept

  -- ---- the bytes under what is owned

  in_prints : (ss : List (List ℕ)) (s : List ℕ) → Contains ss s → Contains (map fingerprint ss) (fingerprint s)
  in_prints ss s c = in_map fingerprint ss s c

  long : (fp : Fp) → Contains own fp → placed_len (get m.places fp.0) ≡ bytes_held list fp
  long fp c =
      let h = owned_is_held shape list user fp c in
      let s = held_is list fp h.0 h.1 in
      let sent = subst (Contains (map fingerprint (strings_in list))) s.0 (in_prints (strings_in list) h.0 s.1) in
      let place = value-of (get m.places fp.0) ((r.placed fp).1 sent) in
      ap placed_len place.1 ∙ r.lens fp place.0 place.1

  shares_kept : (kept_in m user).shares ≡ (live_of shape list user).shares
  shares_kept =
      sum_keys owner_total owner_exact is_mine (λ (e : Owner × ℕ). placed_len (get m.places e.0.fp)) (λ (k : Owner). bytes_held list (fp_in k)) m.owners (map mine own) once there among
      (λ k x c at. let f = from_map mine own k c in subst (λ (q : Owner). placed_len (get m.places q.fp) ≡ bytes_held list (fp_in q)) f.2 (long f.0 f.1))
      ∙ sum_mapped (λ (k : Owner). bytes_held list (fp_in k)) mine own

  -- ---- recipes

  abbrev files : List FileEntry
  files = (user_view shape list user).files

  abbrev keys : List Key
  keys = map file_key files

  abbrev key_in : FileKey → Key
  key_in k = (record { 0 = k.tag }, record { 0 = k.version })

  abbrev len_or : Option FileEntry → ℕ
  len_or None = 0
  len_or (Some e) = length e.recipe

  abbrev first_or : Option (ℕ × Fp) → ℕ
  first_or None = 0
  first_or (Some p) = p.0

  first_is : (o : Option FileEntry) → first_or (option_map summary_of o) ≡ len_or o
  first_is None = refl
  first_is (Some e) = refl

  abbrev is_file : FileKey → Bool
  is_file k = k.user == user.0

  holds : Holds m.files user files
  holds = holds_of shape list m r user

  file_among : (k : FileKey) → is_file k ≡ true → IsSome (get m.files k) → Contains (map (of user) keys) k
  file_among k t some =
      let same : of user (key_in k) ≡ k = λ i. record { user = sym (eqb-true k.user user.0 t) i; tag = k.tag; version = k.version } in
      subst (Contains (map (of user) keys)) same
      (in_map (of user) keys (key_in k) ((holds (key_in k)).0 (subst (λ (q : FileKey). IsSome (get m.files q)) (sym same) some)))

  pub files_there : (k : FileKey) → Contains (map (of user) keys) k → (is_file k ≡ true) × IsSome (get m.files k)
  files_there k c =
      let f = from_map (of user) keys k c in
      subst (λ (q : FileKey). (is_file q ≡ true) × IsSome (get m.files q)) f.2 (eq-eqb user.0 user.0 refl, (holds f.0).1 f.1)

  pub files_once : Once (map (of user) keys)
  files_once =
      once_map (of user) (λ a b e. λ i. (record { 0 = (e i).tag }, record { 0 = (e i).version })) keys (keys_are_once files (keys_apart shape cloud list user sound))

  file_long : (key : Key) (e : Entry) → get m.files (of user key) ≡ Some e → e.len ≡ len_or (entry_at files key)
  file_long key e at =
      ap (λ o. first_or (option_map summary o)) (sym at)
      ∙ ap first_or (r.files user key.0 key.1)
      ∙ first_is (entry_at files key)

  recipes_kept : (kept_in m user).recipes ≡ (live_of shape list user).recipes
  recipes_kept =
      sum_keys key_total key_exact is_file (λ (e : FileKey × Entry). e.1.len) (λ (k : FileKey). len_or (entry_at files (key_in k))) m.files (map (of user) keys) files_once files_there file_among
      (λ k e c at. let f = from_map (of user) keys k c in by_key f.0 k e f.2 at)
      ∙ sum_mapped (λ (k : FileKey). len_or (entry_at files (key_in k))) (of user) keys
      ∙ sym (sorted_keys_sum (λ (key : Key). len_or (entry_at files key)) keys (keys_are_once files (keys_apart shape cloud list user sound)))
      ∙ entries_sum len_or files (keys_apart shape cloud list user sound)
    where
      by_key : (key : Key) (k : FileKey) (e : Entry) → of user key ≡ k → get m.files k ≡ Some e → e.len ≡ len_or (entry_at files (key_in k))
      by_key key k e same at =
          subst (λ (q : FileKey). e.len ≡ len_or (entry_at files (key_in q))) same (file_long key e (ap (get m.files) same ∙ at))

  pub kept_is : kept_in m user ≡ live_of shape list user
  kept_is = λ i. record { owners = owners_kept i; shares = shares_kept i; recipes = recipes_kept i }

pub kept : (shape : Shape) (cloud : ℕ) (list : List Command) (m : Memory) (user : UserId) → IsSound shape cloud list → Remembers shape list m → kept_in m user ≡ live_of shape list user
kept shape cloud list m user sound r = kept_is shape cloud list m user sound r

-- a user past the table has spent nothing, and so keeps nothing
pub past : (shape : Shape) (list : List Command) (m : Memory) (user : UserId) → Remembers shape list m → length m.spent ≤ user.0 → live_of shape list user ≡ nothing
past shape list m user r le =
    λ i. record {
      owners = none (live_of shape list user).owners (spent_of list user).owners (owners_less shape list user) (ap (λ (s : SpentByUser). s.owners) spent) i;
      shares = none (live_of shape list user).shares (spent_of list user).shares (shares_less shape list user) (ap (λ (s : SpentByUser). s.shares) spent) i;
      recipes = none (live_of shape list user).recipes (spent_of list user).recipes (recipes_less shape list user) (ap (λ (s : SpentByUser). s.recipes) spent) i;
    }
  where
    spent : spent_of list user ≡ nothing
    spent = sym (r.spent user) ∙ ap as_spent (get_or_past m.spent user.0 _ le)

    none : (a b : ℕ) → a ≤ b → b ≡ 0 → a ≡ 0
    none a b le zero = omega (arith, le, zero)

-- ---- the memory of a compact list

module _ (shape : Shape) (cloud : ℕ) (list : List Command) (sound : IsSound shape cloud list) (table : List Row) (old : CloudMemory)
    (r : Remembers shape list (with_table table (memory_of old))) (l : AreListed old)
    (none : (user : UserId) → length old.spent ≤ user.0 → live_of shape list user ≡ nothing) where
  spent_all : (new : Memory) → length new.spent ≡ length old.spent
      → ((user : UserId) → user.0 < length old.spent → as_spent (spent_by new.spent user) ≡ kept_in (memory_of old) user)
      → (user : UserId) → as_spent (spent_by new.spent user) ≡ live_of shape list user
  spent_all new users each user =
      elim (cases_lt user.0 (length old.spent)) [
        | inl lt ↦ each user lt ∙ kept shape cloud list (with_table table (memory_of old)) user sound r
        | inr ge ↦ ap as_spent (get_or_past new.spent user.0 _ (omega (arith, ge, users))) ∙ sym (none user (omega (arith, ge)))
      ]

  -- the memory with the other table
  abbrev other : CloudMemory
  other = record { shares = old.shares; files = old.files; spent = table; shares_end = old.shares_end; recipes_end = old.recipes_end }

  listed : AreListed other
  listed = record { places = l.places; owners = l.owners; entries = l.entries }

  like : (new : Memory) → IsLike old new → IsLike other new
  like new is = record { from = is.from; to = is.to; owners = is.owners; files = is.files }

  remembers : (new : Memory) → IsLike old new → ((user : UserId) → as_spent (spent_by new.spent user) ≡ live_of shape list user) → RemembersCompact shape list new
  remembers new is spent = like_remembers shape cloud list sound other new r listed (like new is) spent

  stays_so : (new : Memory) → IsCompacted old new → RemembersCompact shape list new
  stays_so new is =
      remembers new (record {
        from = λ fp place at. (place, (is.places fp place).0 at, refl);
        to = λ fp p live. (p, (is.places fp p).1 live);
        owners = is.owners;
        files = λ key. ap (λ m. option_map summary (get m key)) is.files;
      }) (spent_all new is.users is.spent)

  moved_so : (region : ℕ) (new : Memory) → IsMoved region old new → RemembersCompact shape list new
  moved_so region new is = remembers new (moved_like old l region new is) (spent_all new is.users is.spent)

pub stays : (shape : Shape) (cloud : ℕ) (list : List Command) (table : List Row) (old : CloudMemory) (new : Memory)
    → IsSound shape cloud list → Remembers shape list (with_table table (memory_of old)) → AreListed old → IsCompacted old new
    → ((user : UserId) → length old.spent ≤ user.0 → live_of shape list user ≡ nothing) → RemembersCompact shape list new
stays shape cloud list table old new sound r l is none = stays_so shape cloud list sound table old r l none new is

pub moved : (shape : Shape) (cloud region : ℕ) (list : List Command) (table : List Row) (old : CloudMemory) (new : Memory)
    → IsSound shape cloud list → Remembers shape list (with_table table (memory_of old)) → AreListed old → IsMoved region old new
    → ((user : UserId) → length old.spent ≤ user.0 → live_of shape list user ≡ nothing) → RemembersCompact shape list new
moved shape cloud region list table old new sound r l is none = moved_so shape cloud list sound table old r l none region new is
