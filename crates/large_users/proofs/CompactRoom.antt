-- The records of a memory without what is dead are short enough for a half, where no user keeps more than the rooms allow.
use Rattle.std.proofs.Common.{◌≡◌, ℕ, ◌+◌, ◌≤◌, List, [], ◌∷◌, ◌++◌, length, map, get_or, Some, None, refl, sym, ap, ◌∙◌, arith, inl, inr}
use Rattle.std.specs.List.{Contains}
use Rattle.std.proofs.lemmas.Bool.{cases_lt}
use Rattle.std.proofs.lemmas.List.{get_or_past}
use native.Mathlib.Nat.{mul-add, mul_left_comm, mul_comm}
use Rattle.record_body.specs.CdBase.ids.Fp.{Fp}
use Rattle.record_body.specs.CdBase.ids.UserId.{UserId}
use Rattle.record_body.specs.CdBase.place.Place.{Place}
use Rattle.compact_memories.specs.FileIndex.key.Entry.{Entry}
use Rattle.compact_memories.specs.FileIndex.key.FileKey.{FileKey}
use Rattle.migration_model.specs.JournalHalves.Halves.{half_limit}
use Rattle.compact_memories.specs.JournalStart.rooms.UserRooms.{UserRooms}
use Rattle.compact_memories.specs.PoolMap.Accounts.{keys_of}
use Rattle.record_body.specs.declared.body.KeptItem.{KeptItem}
use Rattle.record_body.specs.Spelling as bodies
use Rattle.record_body.specs.Spelling.{Body}
use Rattle.compact_memories.specs.ShareIndex.key.Owner.{Owner}
use Rattle.compact_memories.specs.ShareIndex.Shares.{owners_of}
use Rattle.compact_memories.specs.SpentTable.Spent.{Spent as Row}
use Rattle.compact_memories.specs.SpentTable.Spending.{spent_by}
use Rattle.compact_memories.specs.SpentTable.Spending as rows
use Rattle.compact_memories.proofs.UserDedup.Owned.{contains_here}
use Rattle.compact_memories.specs.UserDedup.Spending.{SpentByUser, limits_of}
use Rattle.compact_memories.specs.CloudAreas.Checkpoints.{put_body}
use Rattle.compact_memories.specs.CloudMemory.cloud.CloudMemory.{CloudMemory}
use Rattle.compact_memories.specs.CloudMemory.Rooms.{memory_of}
use Rattle.compact_memories.specs.Checkpoints.Laying.{records_len}
use Rattle.compact_memories.specs.Checkpoints.Picking.{batches}
use Rattle.compact_memories.specs.Checkpoints.Records.{owned_at, owned_in, kept_at, kept_from, puts_from, commits_from, spents_from, records_of}
use Rattle.compact_memories.proofs.Checkpoints.KeptLaw.{kept_gives}
use Rattle.compact_memories.proofs.Checkpoints.OwnLaw.{owned_gives}
use Rattle.compact_memories.proofs.Checkpoints.Sought.{from_picked}
use Rattle.compact_memories.specs.Kept.{live_at, kept_in, IsCompacted}
use Rattle.compact_memories.specs.Passes.{entries_of, owned_len, recipes_len}
use Rattle.compact_memories.proofs.KeptRows.{kept_row}
use Rattle.compact_memories.proofs.Live.{live_gives}
use Rattle.compact_memories.proofs.Checkpoints.RoomLaw.{spread, together, spents_len}
use Rattle.large_users.specs.Large.{files_in, IsNonePassed, AreSized}
use Rattle.large_users.proofs.Counts.{count_is}
use Rattle.large_users.proofs.Lengths.{total_within, own_of, puts_short, has_of, commits_short, spents_few}
use Rattle.large_users.proofs.Passed.{within_limits, no_limit, no_files, most_owners, most_files}

empty_list : {X : Type 0} (xs : List X) → ((x : X) → Contains xs x → ⊥) → xs ≡ []
empty_list [] none = refl
empty_list (x ∷ xs) none = absurd (none x (contains_here x xs))

module _ (rooms : UserRooms) (old memory : CloudMemory) (is : IsCompacted old (memory_of memory)) (none : IsNonePassed rooms (memory_of old)) (sized : AreSized memory) where
  abbrev user_at : ℕ → UserId
  user_at u = record { 0 = u }

  -- ---- what each user keeps

  -- a row over all slots is what the user keeps
  owned : (u : ℕ) → length (owned_in u memory.shares.owner_slots) ≡ (kept_in (memory_of old) (user_at u)).owners
  owned u =
      let row : Row = record {
        owners = length (owned_in u memory.shares.owner_slots);
        shares = owned_len memory.shares.places memory.shares.owner_slots u;
        recipes = recipes_len memory.files.slots u;
      } in
      ap (λ (s : SpentByUser). s.owners) (kept_row memory (user_at u) row sized.listed.owners sized.listed.entries (record { owned = refl; shares = refl; recipes = refl }))
      ∙ ap (λ o. keys_of (λ (k : Owner). k.user) o u) is.owners

  has : (u : ℕ) → length (entries_of u memory.files.slots) ≡ files_in (memory_of old) (user_at u)
  has u =
      sym (count_is memory.files.files memory.files.slots u sized.listed.entries)
      ∙ ap (λ f. keys_of (λ (k : FileKey). k.user) f u) is.files

  owned_few : (u : ℕ) → own_of memory.shares.owner_slots u ≤ rooms.owners
  owned_few u =
      let w = within_limits rooms (user_at u) (kept_in (memory_of old) (user_at u)) (files_in (memory_of old) (user_at u)) (none (user_at u)) in
      let le = w.0 in
      omega (arith, owned u, le, most_owners rooms (user_at u))

  owned_none : (u : ℕ) → rooms.users ≤ u → own_of memory.shares.owner_slots u ≡ 0
  owned_none u past =
      let w = within_limits rooms (user_at u) (kept_in (memory_of old) (user_at u)) (files_in (memory_of old) (user_at u)) (none (user_at u)) in
      let le = w.0 in
      let limit : (limits_of rooms (user_at u)).owners ≡ 0 = ap (λ (s : SpentByUser). s.owners) (no_limit rooms (user_at u) past) in
      omega (arith, owned u, le, limit)

  has_few : (u : ℕ) → has_of memory.files.slots u ≤ rooms.files
  has_few u =
      let w = within_limits rooms (user_at u) (kept_in (memory_of old) (user_at u)) (files_in (memory_of old) (user_at u)) (none (user_at u)) in
      let le = w.3 in
      omega (arith, has u, le, most_files rooms (user_at u))

  has_none : (u : ℕ) → rooms.users ≤ u → has_of memory.files.slots u ≡ 0
  has_none u past =
      let w = within_limits rooms (user_at u) (kept_in (memory_of old) (user_at u)) (files_in (memory_of old) (user_at u)) (none (user_at u)) in
      let le = w.3 in
      omega (arith, has u, le, no_files rooms (user_at u) past)

  -- the row of a user past the last one
  none_spent : (u : ℕ) → rooms.users ≤ u → get_or memory.spent u rows.nothing ≡ rows.nothing
  none_spent u past =
      elim (cases_lt u (length old.spent)) [
        | inl below ↦
            let w = within_limits rooms (user_at u) (kept_in (memory_of old) (user_at u)) (files_in (memory_of old) (user_at u)) (none (user_at u)) in
            let limit = no_limit rooms (user_at u) past in
            let row = is.spent (user_at u) below in
            let a = w.0 in let b = w.1 in let c = w.2 in
            let no_owners : (limits_of rooms (user_at u)).owners ≡ 0 = ap (λ (s : SpentByUser). s.owners) limit in
            let no_shares : (limits_of rooms (user_at u)).shares ≡ 0 = ap (λ (s : SpentByUser). s.shares) limit in
            let no_recipes : (limits_of rooms (user_at u)).recipes ≡ 0 = ap (λ (s : SpentByUser). s.recipes) limit in
            let one : (spent_by memory.spent (user_at u)).owners ≡ 0 = ap (λ (s : SpentByUser). s.owners) row ∙ (let z : (kept_in (memory_of old) (user_at u)).owners ≡ 0 = omega (arith, a, no_owners) in z) in
            let two : (spent_by memory.spent (user_at u)).shares ≡ 0 = ap (λ (s : SpentByUser). s.shares) row ∙ (let z : (kept_in (memory_of old) (user_at u)).shares ≡ 0 = omega (arith, b, no_shares) in z) in
            let three : (spent_by memory.spent (user_at u)).recipes ≡ 0 = ap (λ (s : SpentByUser). s.recipes) row ∙ (let z : (kept_in (memory_of old) (user_at u)).recipes ≡ 0 = omega (arith, c, no_recipes) in z) in
            λ i. record { owners = one i; shares = two i; recipes = three i }
        | inr le ↦ (let users = is.users in get_or_past memory.spent u rows.nothing (omega (arith, le, users)))
      ]

  -- ---- nothing is dead

  none_kept : kept_from memory.shares 0 ≡ []
  none_kept =
      empty_list (kept_from memory.shares 0) (λ item c.
      let s = from_picked (kept_at memory.shares.owners) refl memory.shares.place_slots item c in
      let g = kept_gives memory.shares.owners s.entry item s.picks in
      let fp : Fp = record { 0 = s.entry.0 } in
      let live = (is.places fp s.entry.1).0 (sized.listed.places.listed s.slot s.entry.0 s.entry.1 s.here) in
      let t = from_picked (live_at old.shares.owners) refl old.shares.place_slots (fp, s.entry.1) live in
      let h = live_gives old.shares.owners t.entry (fp, s.entry.1) t.picks in
      let same : t.entry.0 ≡ s.entry.0 = ap (λ (x : Fp × Place). x.0.0) h.1 in
      h.0 (ap (owners_of old.shares.owners) same ∙ ap (λ o. owners_of o s.entry.0) (sym is.owners) ∙ g.0))

  -- ---- fingerprints

  owned_sized : (u : ℕ) (fp : Fp) → Contains (owned_in u memory.shares.owner_slots) fp → length fp.0 ≡ 32
  owned_sized u fp c =
      let s = from_picked (owned_at u) refl memory.shares.owner_slots fp c in
      let g = owned_gives u s.entry fp s.picks in
      let t = sized.listed.owners.stands s.entry.0 s.entry.1 (sized.listed.owners.listed s.slot s.entry.0 s.entry.1 s.here) in
      ap (λ (bytes : List ℕ). length bytes) (sym g.1) ∙ sized.owners t.0 s.entry.0 s.entry.1 t.1 t.2

  entries_sized : (s : ℕ) (k : FileKey) (e : Entry) → get_or memory.files.slots s None ≡ Some (k, e) → (length k.tag ≡ 32) × (length e.fp.0 ≡ 32)
  entries_sized s k e at =
      let t = sized.listed.entries.stands k e (sized.listed.entries.listed s k e at) in
      sized.entries t.0 k e t.1 t.2

  -- ---- all of them

  pub compacted_room : 63 + records_len (records_of memory) ≤ half_limit rooms
  compacted_room =
      let puts = map put_body (puts_from memory.shares (length memory.spent) 0 0) in
      let kept = map bodies.Kept (batches (kept_from memory.shares 0)) in
      let commits = map bodies.Commit (commits_from memory.files 0) in
      let spents = map bodies.Spent (spents_from memory.spent 0) in
      let no_kept : records_len kept ≡ 0 = ap (λ (items : List KeptItem). records_len (map bodies.Kept (batches items))) none_kept in
      let own = total_within (own_of memory.shares.owner_slots) rooms.owners rooms.users owned_few owned_none (length memory.spent) 0 rooms.users (omega arith) in
      let files = total_within (has_of memory.files.slots) rooms.files rooms.users has_few has_none rooms.users 0 rooms.users (omega arith) in
      omega (
        arith,
        together puts (kept ++ (commits ++ spents)),
        together kept (commits ++ spents),
        together commits spents,
        no_kept,
        puts_short memory.shares owned_sized (length memory.spent) 0,
        own,
        commits_short memory.files.slots rooms.users entries_sized has_none,
        files,
        spents_len (spents_from memory.spent 0),
        spents_few memory.spent rooms.users 0 rooms.users (omega arith) (λ u past. none_spent u (omega (arith, past))),
        spread rooms,
        mul_comm rooms.owners rooms.users,
        mul_comm rooms.files rooms.users,
      )
