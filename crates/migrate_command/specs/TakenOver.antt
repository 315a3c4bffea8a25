-- What the migration of a cloud in a place promises.
use Rattle.std.specs.Prelude.{◌≡◌, ◌<◌, ℕ, IsTrue, List, Result}
use Rattle.command_cloud.specs.BackupCommand.Writing.{Output, HasWrittenOrCause}
use Rattle.store_migration.specs.CdEdges.Disk.{LeavesOnly, reads}
use Rattle.command_cloud.specs.Opened.{CloudCall, CloudFails, IsUnchanged, IsUnfailing}
use Rattle.store_migration.specs.JournalStart.rooms.UserRooms.{UserRooms}
use Rattle.store_migration.specs.MigrationModel.Migrating.{IsBetween, MayBeMigrated}
use Rattle.command_cloud.specs.ServeCommand.Complete.{IsStill}
use Rattle.store_migration.specs.Answers.{IfAnswered, IfNoMemory, IfRefused, MigratedAs, OnMigrateFault}
use Rattle.store_migration.specs.Exact.{Migrates}
use Rattle.store_migration.specs.Left.{IsLeftBy}
use Rattle.store_migration.specs.declared.errors.MigrateErr.{MigrateErr}
use Rattle.store_migration.specs.CloudOpening.Synced.{AreSynced, BeginsSynced}
use Rattle.store_migration.specs.UserDedup.command.Command.{Command}
use Rattle.migrate_command.specs.Said.{migrate_status, migrate_text}

-- What the migration of a cloud into these rooms answers, and what it leaves.
-- For each list that a told cloud stands for in format 1: whenever a crash comes, the areas stand for the list, or in format 2 for its
-- compact list; Ok says that they stand for the compact list, which has so many commands, and that each user keeps no more than it may; the
-- answer TooLarge has the least user that does, with its first room; and no other error comes but a failed call and want of memory.
-- Whatever a told cloud's bytes are: they give the answer, but where a device failed or memory ran out. The three areas are synced first;
-- and where the cloud isn't migrated, nothing else was done to it. Where it is, Shares and Recipes aren't written: each image since is as
-- before, or its journal has the chain that was read or, whole, the checkpoint of what its records leave without what no user owns; and Ok
-- says that it has the checkpoint.
-- Whatever is known of the cloud: it is as it was where memory ran out, and `shelf` comes only where its count of faults rose.
pub record IsMigrationOf (rooms : UserRooms) (call : CloudCall) (result : Result ℕ MigrateErr) : Type 0 where
  pub any_moment : (list : List Command) → MayBeMigrated call.shape call.cloud list call.old
      → LeavesOnly call.old call.new (IsBetween call.shape call.cloud rooms list)
  pub migrated : (list : List Command) → MayBeMigrated call.shape call.cloud list call.old
      → MigratedAs call.shape call.cloud rooms list call.new result
  pub exact : IsTrue call.old.told → IfAnswered result (Migrates call.shape call.cloud rooms (reads call.old.now) result)
  pub spared : IsTrue call.old.told → IfRefused result (AreSynced call.old call.new)
  pub synced_first : IsTrue call.old.told → IfAnswered result (BeginsSynced call.old call.new)
  pub left : IsTrue call.old.told → IsLeftBy call.shape call.cloud rooms call.old call.new result
  pub undone : IfNoMemory result (IsUnchanged call)
  pub counts : OnMigrateFault result (CloudFails call) (IsUnfailing call)

-- The whole promise: what is written is what came of the migration.
pub record IsTakenOver (rooms : UserRooms) (status : ℕ) (call : CloudCall) (out : Output) : Type 0 where
  pub result : Result ℕ MigrateErr
  pub of : IsMigrationOf rooms call result
  pub writes : HasWrittenOrCause (migrate_text call.cloud result) (migrate_status result) out status

-- Nothing fails in the call: the told cloud stands for the list in format 1, within the rooms that this had, and no count rises.
pub record IsMigrationUnhindered (list : List Command) (call : CloudCall) (out : Output) : Type 0 where
  pub stands : MayBeMigrated call.shape call.cloud list call.old
  pub cloud : IsStill call.old.faults call.new.faults
  pub sink : IsStill out.faults_before out.faults_after
