-- What the words `migrate DIR CLOUD N K USERS SHARES RECIPES OWNERS FILES` promise.
use Rattle.std.specs.Prelude.{◌≡◌, ◌⊎◌, ℕ, List}
use Rattle.command_words.specs.Asked.{AskedMigrate}
use Rattle.spool_command.specs.BackupCommand.Writing.{Output}
use Rattle.migrate_command.specs.MigrationModel.Migrating.{AreSmallEnough}
use Rattle.migrate_command.specs.TakenOver.{IsTakenOver, IsMigrationUnhindered}
use Rattle.delete_command.specs.UserDedup.command.Command.{Command}
use Rattle.cd_top.specs.Audit.{CloudsAround, IsAloneAt, IsUnrooted, call_for}

-- Where nothing fails, and no user keeps more than it may, the cloud is migrated, or memory ran out.
abbrev pub IsCompleteFor : ℕ → AskedMigrate → CloudsAround → Output → Type 0
IsCompleteFor status m s out = (list : List Command) → IsMigrationUnhindered list (call_for m.place s) out
    → AreSmallEnough m.place.shape m.rooms list → (status ≡ 0) ⊎ (status ≡ 6)

-- The whole promise: DIR failed; or the cloud was taken over into the present format, or it wasn't: what a crash leaves, what the areas stand
-- for, what their bytes give as the answer, and what was written.
pub data HasMigratedOrCause (status : ℕ) (m : AskedMigrate) (s : CloudsAround) (out : Output) : Type 0 where
  NotRooted : IsUnrooted status s out → HasMigratedOrCause status m s out
  AtPlace : IsTakenOver m.rooms status (call_for m.place s) out → IsAloneAt m.place s → IsCompleteFor status m s out
      → HasMigratedOrCause status m s out
