-- What passes over the slots of a memory have come to. No public clause cites this module.
use Rattle.std.specs.Prelude.{◌≡◌, ℕ, ◌*◌, ◌<◌, ◌≤◌, ◌==◌, nat_lt, List, [], length, take, Option, Some, None, slice_index_or, if◌then◌else◌}
use Rattle.std.specs.List.{sum_by}
use Rattle.std.specs.FinMap.{FinMap, get}
use Rattle.compact_lists.specs.CdBase.ids.Fp.{Fp}
use Rattle.compact_lists.specs.CdBase.place.Place.{Place}
use Rattle.compact_lists.specs.CdBase.Order.{fp_cmp}
use Rattle.checkpoints.specs.FileIndex.key.Entry.{Entry}
use Rattle.checkpoints.specs.FileIndex.key.FileKey.{FileKey}
use Rattle.checkpoints.specs.FileIndex.Files.{Files}
use Rattle.checkpoints.specs.PoolMap.Slots.{slot_of}
use Rattle.checkpoints.specs.ShareIndex.key.Owner.{Owner}
use Rattle.checkpoints.specs.ShareIndex.Order.{owner_cmp}
use Rattle.checkpoints.specs.ShareIndex.Shares.{Shares, owners_of}
use Rattle.checkpoints.specs.SpentTable.Spent.{Spent}
use Rattle.checkpoints.specs.SpentTable.Spending.{nothing}
use Rattle.checkpoints.specs.CloudMemory.cloud.CloudMemory.{CloudMemory}
use Rattle.checkpoints.specs.CloudMemory.Live.{owned_only}
use Rattle.checkpoints.specs.CloudMemory.Memory.{Memory}
use Rattle.checkpoints.specs.CloudMemory.Rooms.{memory_of}
use Rattle.checkpoints.specs.CloudMemory.Steps.{placed_len}
use Rattle.checkpoints.specs.Picking.{picked}
use Rattle.checkpoints.specs.Records.{owned_in}

-- ---- rows of what each user keeps

abbrev pub row_of : List Spent → ℕ → Spent
row_of rows user = slice_index_or rows user nothing

-- the bytes under a user's fingerprints in some slots
abbrev pub owned_len : FinMap fp_cmp Place → List (Option (Owner × ℕ)) → ℕ → ℕ
owned_len places slots user = sum_by (λ (fp : Fp). placed_len (get places fp.0)) (owned_in user slots)

-- the user's entry in a slot
abbrev pub entry_at : ℕ → Option (FileKey × Entry) → Option (FileKey × Entry)
entry_at user None = None
entry_at user (Some e) = if e.0.user == user then Some e else None

-- a user's entries, by slots
abbrev pub entries_of : ℕ → List (Option (FileKey × Entry)) → List (FileKey × Entry)
entries_of user slots = picked (entry_at user) slots

abbrev pub recipes_len : List (Option (FileKey × Entry)) → ℕ → ℕ
recipes_len slots user = sum_by (λ (e : FileKey × Entry). e.1.len) (entries_of user slots)

-- The row is what a user keeps by some slots of owners and some of entries.
pub record IsRow (places : FinMap fp_cmp Place) (owners : List (Option (Owner × ℕ))) (files : List (Option (FileKey × Entry))) (user : ℕ) (row : Spent) : Type 0 where
  pub owned : row.owners ≡ length (owned_in user owners)
  pub shares : row.shares ≡ owned_len places owners user
  pub recipes : row.recipes ≡ recipes_len files user

-- Each row is what its user keeps by so many slots of owners, and is no greater than so many can make it.
pub record OwnedSoFar (shares : Shares) (rows : List Spent) (slot : ℕ) : Type 0 where
  pub are_rows : (user : ℕ) → user < length rows → IsRow shares.places (take slot shares.owner_slots) [] user (row_of rows user)
  pub few : (user : ℕ) → (row_of rows user).owners ≤ slot
  pub small : (user : ℕ) → (row_of rows user).shares ≤ slot * 4294967295

-- No row has more bytes of recipes than so many slots can make them.
abbrev pub AreRowsSmall : List Spent → ℕ → Type 0
AreRowsSmall rows slot = (user : ℕ) → (row_of rows user).recipes ≤ slot * 4294967295

-- Each row is what its user keeps by all slots of owners, and so many of entries.
pub record KeptSoFar (shares : Shares) (files : Files) (rows : List Spent) (slot : ℕ) : Type 0 where
  pub are_rows : (user : ℕ) → user < length rows → IsRow shares.places shares.owner_slots (take slot files.slots) user (row_of rows user)

-- ---- places of what no user owns

-- the fingerprint of what a slot has, where no user owns it
abbrev pub dead_in : FinMap owner_cmp ℕ → Option (List ℕ × Place) → Option (List ℕ)
dead_in owners None = None
dead_in owners (Some e) = if nat_lt 0 (owners_of owners e.0) then None else Some e.0

-- In so many slots no share stands that no user owns, and nothing else has changed.
pub record DroppedSoFar (old new : CloudMemory) (slot : ℕ) : Type 0 where
  pub done : (s : ℕ) → s < slot → slot_of new.shares.place_slots s ≡ owned_only old.shares.owners (slot_of old.shares.place_slots s)
  pub left : (s : ℕ) → slot ≤ s → slot_of new.shares.place_slots s ≡ slot_of old.shares.place_slots s
  pub long : length new.shares.place_slots ≡ length old.shares.place_slots
  pub rest : memory_of new ≡ record (memory_of old) { places = new.shares.places }

-- ---- rows that are set

-- So many users have spent what the rows say, and nothing else has changed.
pub record SetSoFar (rows : List Spent) (old new : Memory) (count : ℕ) : Type 0 where
  pub users : length new.spent ≡ length old.spent
  pub are_set : (user : ℕ) → user < count → user < length old.spent → row_of new.spent user ≡ row_of rows user
  pub rest : new ≡ record old { spent = new.spent }
