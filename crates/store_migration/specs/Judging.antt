-- What becomes of a memory that was read. No public clause cites this module.
use Rattle.std.specs.Prelude.{◌≡◌, ℕ, ◌++◌, List, Result, Ok, Err}
use Rattle.fresh_checkpoints.specs.CdBase.shape.Shape.{Shape}
use Rattle.fresh_checkpoints.specs.CdEdges.Disk.{Areas, Cloud}
use Rattle.cloud_opening.specs.JournalStart.rooms.UserRooms.{UserRooms}
use Rattle.cloud_opening.specs.UserDedup.command.Command.{Command}
use Rattle.fresh_checkpoints.specs.CloudMemory.Memory.{Memory}
use Rattle.fresh_checkpoints.specs.CompactMemories.Kept.{commands_in}
use Rattle.large_users.specs.Large.{IsFirstPassed, IsNonePassed}
use Rattle.large_users.specs.MigrationModel.Migrating.{AreSmallEnough, IsTooLarge}
use Rattle.store_migration.specs.declared.errors.MigrateErr.{MigrateErr}
use Rattle.store_migration.specs.declared.errors.MigrateErr.TheVariants as why

-- which user is the first that keeps too much by the memory; or none does, and what is kept has so many commands
abbrev pub MemoryJudgedAs : UserRooms → Memory → Result ℕ MigrateErr → Type 0
MemoryJudgedAs rooms m (Ok commands) = IsNonePassed rooms m × (commands ≡ commands_in m)
MemoryJudgedAs rooms m (Err (why.Open error)) = ⊥
MemoryJudgedAs rooms m (Err why.Already) = ⊥
MemoryJudgedAs rooms m (Err (why.TooLarge user room used limit)) = IsFirstPassed rooms m user (record { room = room; used = used; need = 0; limit = limit })
MemoryJudgedAs rooms m (Err why.Fault) = ⊥
MemoryJudgedAs rooms m (Err why.NoMemory) = ⊥

-- the same by the list
abbrev pub JudgedBy : Shape → UserRooms → List Command → Result ℕ MigrateErr → Type 0
JudgedBy shape rooms list (Ok commands) = AreSmallEnough shape rooms list
JudgedBy shape rooms list (Err (why.Open error)) = ⊥
JudgedBy shape rooms list (Err why.Already) = ⊥
JudgedBy shape rooms list (Err (why.TooLarge user room used limit)) = IsTooLarge shape rooms list user (record { room = room; used = used; need = 0; limit = limit })
JudgedBy shape rooms list (Err why.Fault) = ⊥
JudgedBy shape rooms list (Err why.NoMemory) = ⊥

-- So many commands have the chain's place, or a device call failed.
abbrev pub SettledAs : ℕ → Result ℕ MigrateErr → Type 0
SettledAs commands (Ok number) = number ≡ commands
SettledAs commands (Err (why.Open error)) = ⊥
SettledAs commands (Err why.Already) = ⊥
SettledAs commands (Err (why.TooLarge user room used limit)) = ⊥
SettledAs commands (Err why.Fault) = Unit {0}
SettledAs commands (Err why.NoMemory) = ⊥

-- judged, and settled where no user keeps too much
abbrev pub TakenOverAs : UserRooms → Memory → Result ℕ MigrateErr → Type 0
TakenOverAs rooms m (Ok commands) = IsNonePassed rooms m × (commands ≡ commands_in m)
TakenOverAs rooms m (Err (why.Open error)) = ⊥
TakenOverAs rooms m (Err why.Already) = ⊥
TakenOverAs rooms m (Err (why.TooLarge user room used limit)) = IsFirstPassed rooms m user (record { room = room; used = used; need = 0; limit = limit })
TakenOverAs rooms m (Err why.Fault) = Unit {0}
TakenOverAs rooms m (Err why.NoMemory) = ⊥

-- The cloud's moments go on behind those that were.
abbrev pub MomentsGoOn : Cloud → Cloud → Type 0
MomentsGoOn old new = (since : List Areas) × (new.past ≡ old.past ++ since)
