-- What a switch to copies needs, and rows within the rooms.
use Rattle.std.specs.Prelude.{◌≡◌, ℕ, ◌≤◌, Result, Ok, Err}
use Rattle.cloud_store.specs.CommitJournal.journal.Stage.TheVariants.{AtEnd}
use Rattle.compact_lists.specs.JournalStart.Ranges.{IsHeader}
use Rattle.compact_lists.specs.JournalStart.rooms.UserRooms.{UserRooms}
use Rattle.record_laws.specs.SpentTable.Spent.{Spent}
use Rattle.fresh_checkpoints.specs.CloudMemory.Fitting.{FitsRecords}
use Rattle.fresh_checkpoints.specs.CloudMemory.Rooms.{memory_of, HasRooms}
use Rattle.fresh_checkpoints.specs.Checkpoints.CloudDisk.Disk.{regions_end}
use Rattle.cloud_store.specs.CloudOpening.Spared.{IsFor}
use Rattle.cloud_store.specs.declared.store.CloudStore.{CloudStore}
use Rattle.blob_copy.specs.declared.copying.CopyErr.{CopyErr}
use Rattle.blob_copy.specs.declared.copying.CopyErr.TheVariants as why

-- what was to be written is too long
abbrev pub OnLong : {T : Type 0} → Result T CopyErr → Type 0 → Type 0
OnLong (Ok v) P = Unit {0}
OnLong (Err why.Fault) P = Unit {0}
OnLong (Err (why.Rotten named found)) P = Unit {0}
OnLong (Err why.Long) P = P

-- a row is within a user's rooms
abbrev pub IsRowWithin : UserRooms → Spent → Type 0
IsRowWithin rooms row = (row.owners ≤ rooms.owners) × (row.shares ≤ rooms.shares) × (row.recipes ≤ rooms.recipes)

-- The memory of an open store was moved to this region, and nothing else of it has changed.
pub record IsMovedTo (other : ℕ) (s : CloudStore) : Type 0 where
  pub header : IsHeader s.header
  pub format : s.header.format ≡ 2
  pub at_end : s.disk.journal.stage ≡ AtEnd
  pub rooms : HasRooms s.header.rooms s.memory
  pub fit : FitsRecords (memory_of s.memory)
  pub disk : IsFor s.header s.disk
  pub shares_limit : s.disk.shares.limit ≡ regions_end
  pub recipes_limit : s.disk.recipes.limit ≡ regions_end
  pub region : s.region ≤ 1
  pub other_is : other ≤ 1
