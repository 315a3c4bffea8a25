-- What a migration leaves of a told cloud, whatever its areas stand for.
use Rattle.std.specs.Prelude.{◌≡◌, ◌≢◌, ◌⊎◌, ℕ, length, Result, Ok, Err, OnOk, IfOk}
use Rattle.fresh_checkpoints.specs.CdBase.ids.CloudNo.{CloudNo}
use Rattle.fresh_checkpoints.specs.CdBase.shape.Shape.{Shape}
use Rattle.fresh_checkpoints.specs.CdEdges.area.Area.{Area}
use Rattle.fresh_checkpoints.specs.CdEdges.area.Area.TheVariants.{Journal}
use Rattle.fresh_checkpoints.specs.CdEdges.Disk.{Image, Cloud, IsImage, LeavesOnly, IsAtArea, reads}
use Rattle.fresh_checkpoints.specs.CdEdges.Shelf.{stable}
use Rattle.fresh_checkpoints.specs.JournalHalves.Journals.{Where, HasChain, IsEither}
use Rattle.cloud_opening.specs.JournalStart.rooms.UserRooms.{UserRooms}
use Rattle.cloud_opening.specs.JournalStart.start.Header.{Header}
use Rattle.fresh_checkpoints.specs.CloudMemory.Rooms.{memory_of}
use Rattle.fresh_checkpoints.specs.CloudMemory.cloud.CloudMemory.{CloudMemory}
use Rattle.fresh_checkpoints.specs.Checkpoints.Laying.{checkpoint_behind}
use Rattle.fresh_checkpoints.specs.Checkpoints.Records.{records_of}
use Rattle.fresh_checkpoints.specs.CompactMemories.Kept.{IsCompacted}
use Rattle.large_users.specs.MigrationModel.Migrating.{header_two}
use Rattle.store_migration.specs.declared.errors.MigrateErr.{MigrateErr}
use Rattle.store_migration.specs.declared.errors.MigrateErr.TheVariants as why
use Rattle.store_migration.specs.Exact.{ReadsOld}

-- the chain of a checkpoint of a memory, with this header, behind another chain
abbrev pub checkpoint_for : Header → ℕ → CloudMemory → Where → Where
checkpoint_for header commands kept w = checkpoint_behind w header commands (length (records_of kept)) 0 (records_of kept)

-- a crash at any moment leaves what it might have left before
abbrev pub LeavesOld : Cloud → Cloud → Type 0
LeavesOld old new = LeavesOnly old new (IsImage old.now)

-- what a crash might have left before; or the journal has one of these chains, and the other areas are as they might have been left
abbrev pub IsOldOrEither : Cloud → Where → Where → Image → Type 0
IsOldOrEither old w next image = IsImage old.now image ⊎ IsAtArea old.now Journal (IsEither w next) image

-- A checkpoint was put in the place of the journal's chain, or was to be: that of the memory which the journal's records leave, without what
-- no user owns. Each image since is as before, or has the chain or the checkpoint's, whole; Shares and Recipes aren't written. Behind Ok the
-- journal reads as the checkpoint's chain, and the other areas read as before and are on the disk.
pub record HasTakenPlace (shape : Shape) (cloud : CloudNo) (rooms : UserRooms) (commands : ℕ) (old new : Cloud) (result : Result ℕ MigrateErr)
    : Type 0 where
  pub memory : CloudMemory
  pub kept : CloudMemory
  pub w : Where
  pub read : ReadsOld shape cloud (reads old.now) (memory_of memory) (Ok tt)
  pub compacted : IsCompacted memory (memory_of kept)
  pub chain_there : HasChain (reads old.now Journal) w
  pub any_moment : LeavesOnly old new (IsOldOrEither old w (checkpoint_for (header_two shape cloud rooms) commands kept w))
  pub settled : OnOk result (HasChain (reads new.now Journal) (checkpoint_for (header_two shape cloud rooms) commands kept w))
  pub others : OnOk result ((other : Area) → other ≢ Journal → new.now other ≡ stable (reads old.now other))

-- Ok says that a checkpoint of so many commands has taken the chain's place. Where a device failed it has, or was to, or nothing was written.
-- Behind each other answer nothing was.
abbrev pub IsLeftBy : Shape → CloudNo → UserRooms → Cloud → Cloud → Result ℕ MigrateErr → Type 0
IsLeftBy shape cloud rooms old new (Ok commands) = HasTakenPlace shape cloud rooms commands old new (Ok commands)
IsLeftBy shape cloud rooms old new (Err why.Fault) =
    LeavesOld old new ⊎ ((commands : ℕ) × HasTakenPlace shape cloud rooms commands old new (Err why.Fault))
IsLeftBy shape cloud rooms old new (Err (why.Open error)) = LeavesOld old new
IsLeftBy shape cloud rooms old new (Err why.Already) = LeavesOld old new
IsLeftBy shape cloud rooms old new (Err (why.TooLarge user room used limit)) = LeavesOld old new
IsLeftBy shape cloud rooms old new (Err why.NoMemory) = LeavesOld old new

-- ---- behind the reading

-- Each image since has one chain or the other, and behind Ok the other one is there.
pub record HasEitherPlace (w next : Where) (old new : Cloud) (result : Result ℕ MigrateErr) : Type 0 where
  pub any_moment : LeavesOnly old new (IsAtArea old.now Journal (IsEither w next))
  pub settled : OnOk result (HasChain (reads new.now Journal) next)
  pub others : OnOk result ((other : Area) → other ≢ Journal → new.now other ≡ old.now other)

-- a checkpoint of what this memory keeps was laid behind this chain, or was to be
pub record IsLaidFrom (header : Header) (memory : CloudMemory) (w : Where) (old new : Cloud) (result : Result ℕ MigrateErr) : Type 0 where
  pub commands : ℕ
  pub number : IfOk result (λ n. n ≡ commands)
  pub kept : CloudMemory
  pub compacted : IsCompacted memory (memory_of kept)
  pub either : HasEitherPlace w (checkpoint_for header commands kept w) old new result

-- a fact where a checkpoint was laid, or a device failed in that
abbrev pub IfLaid : Result ℕ MigrateErr → Type 0 → Type 0
IfLaid (Ok commands) P = P
IfLaid (Err why.Fault) P = P
IfLaid (Err (why.Open error)) P = Unit {0}
IfLaid (Err why.Already) P = Unit {0}
IfLaid (Err (why.TooLarge user room used limit)) P = Unit {0}
IfLaid (Err why.NoMemory) P = Unit {0}
