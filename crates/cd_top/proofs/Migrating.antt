-- A cloud that is taken over into the present format in a place.
use Rattle.std.proofs.Common.{◌≡◌, ℕ, subst₂}
use Rattle.delete_command.specs.CdEdges.Disk.{Cloud}
use Rattle.command_words.specs.Asked.{AskedMigrate}
use Rattle.spool_command.specs.BackupCommand.Writing.{Output}
use Rattle.migrate_command.specs.TakenOver.{IsTakenOver}
use Rattle.cd_top.specs.Audit.{IsAloneAt, call_for, clouds_of}
use Rattle.cd_top.specs.Migrate.{AtPlace, IsCompleteFor, HasMigratedOrCause}

-- the naming of the place changed no cloud and no count
pub migrated_in : (status : ℕ) (m : AskedMigrate) (old middle new : ℕ → Cloud) (total count total_after : ℕ) (out : Output)
    → ((cloud : ℕ) → middle cloud ≡ old cloud) → count ≡ total
    → IsTakenOver m.rooms status (call_for m.place (clouds_of middle new count total_after)) out
    → IsAloneAt m.place (clouds_of middle new count total_after)
    → IsCompleteFor status m (clouds_of middle new count total_after) out
    → HasMigratedOrCause status m (clouds_of old new total total_after) out
migrated_in status m old middle new total count total_after out same kept over alone complete =
    subst₂ (λ (o : ℕ → Cloud) (n : ℕ). HasMigratedOrCause status m (clouds_of o new n total_after) out)
    (λ i cloud. same cloud i) kept (AtPlace over alone complete)
