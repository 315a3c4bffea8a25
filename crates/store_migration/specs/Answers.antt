-- The answers of a migration, by cases.
use Rattle.std.specs.Prelude.{ℕ, List, Result, Ok, Err}
use Rattle.fresh_checkpoints.specs.CdBase.ids.CloudNo.{CloudNo}
use Rattle.fresh_checkpoints.specs.CdBase.shape.Shape.{Shape}
use Rattle.fresh_checkpoints.specs.CdEdges.Disk.{Cloud}
use Rattle.cloud_opening.specs.JournalStart.rooms.UserRooms.{UserRooms}
use Rattle.cloud_opening.specs.UserDedup.command.Command.{Command}
use Rattle.large_users.specs.MigrationModel.Migrating.{IsMigrated, AreSmallEnough, IsTooLarge}
use Rattle.store_migration.specs.declared.errors.MigrateErr.{MigrateErr}
use Rattle.store_migration.specs.declared.errors.MigrateErr.TheVariants as why

-- what is answered over a cloud that may be migrated with this list, and what it stands for then
abbrev pub MigratedAs : Shape → CloudNo → UserRooms → List Command → Cloud → Result ℕ MigrateErr → Type 0
MigratedAs shape cloud_no rooms list cloud (Ok commands) = IsMigrated shape cloud_no rooms list commands cloud × AreSmallEnough shape rooms list
MigratedAs shape cloud_no rooms list cloud (Err (why.Open error)) = ⊥
MigratedAs shape cloud_no rooms list cloud (Err why.Already) = ⊥
MigratedAs shape cloud_no rooms list cloud (Err (why.TooLarge user room used limit)) =
    IsTooLarge shape rooms list user (record { room = room; used = used; need = 0; limit = limit })
MigratedAs shape cloud_no rooms list cloud (Err why.Fault) = Unit {0}
MigratedAs shape cloud_no rooms list cloud (Err why.NoMemory) = Unit {0}

-- one fact where a device call failed, and another for every other answer
abbrev pub OnMigrateFault : {T : Type 0} → Result T MigrateErr → Type 0 → Type 0 → Type 0
OnMigrateFault (Ok value) failed other = other
OnMigrateFault (Err (why.Open error)) failed other = other
OnMigrateFault (Err why.Already) failed other = other
OnMigrateFault (Err (why.TooLarge user room used limit)) failed other = other
OnMigrateFault (Err why.Fault) failed other = failed
OnMigrateFault (Err why.NoMemory) failed other = other

-- a fact where the cloud was read and isn't migrated
abbrev pub IfRefused : {T : Type 0} → Result T MigrateErr → Type 0 → Type 0
IfRefused (Ok value) P = Unit {0}
IfRefused (Err (why.Open error)) P = P
IfRefused (Err why.Already) P = P
IfRefused (Err (why.TooLarge user room used limit)) P = P
IfRefused (Err why.Fault) P = Unit {0}
IfRefused (Err why.NoMemory) P = Unit {0}

-- a fact where memory ran out
abbrev pub IfNoMemory : {T : Type 0} → Result T MigrateErr → Type 0 → Type 0
IfNoMemory (Ok value) P = Unit {0}
IfNoMemory (Err (why.Open error)) P = Unit {0}
IfNoMemory (Err why.Already) P = Unit {0}
IfNoMemory (Err (why.TooLarge user room used limit)) P = Unit {0}
IfNoMemory (Err why.Fault) P = Unit {0}
IfNoMemory (Err why.NoMemory) P = P

-- a fact of every answer but want of memory and a failed call
abbrev pub IfAnswered : {T : Type 0} → Result T MigrateErr → Type 0 → Type 0
IfAnswered (Ok value) P = P
IfAnswered (Err (why.Open error)) P = P
IfAnswered (Err why.Already) P = P
IfAnswered (Err (why.TooLarge user room used limit)) P = P
IfAnswered (Err why.Fault) P = Unit {0}
IfAnswered (Err why.NoMemory) P = Unit {0}
