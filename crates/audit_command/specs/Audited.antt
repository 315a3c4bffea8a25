-- What the audit of a cloud in a place promises.
use Rattle.std.specs.Prelude.{◌≡◌, ℕ, IsTrue, List, Result}
use Rattle.audit.specs.Audits.{AuditIs, AuditPasses, OnAuditFault}
use Rattle.audit.specs.declared.errors.AuditErr.{AuditErr}
use Rattle.command_cloud.specs.BackupCommand.Writing.{IsSilent, Output, HasWrittenOrCause}
use Rattle.command_cloud.specs.CdEdges.Disk.{reads}
use Rattle.audit.specs.Certificate.Lines.{certificate_text}
use Rattle.command_cloud.specs.CloudMemory.Memory.{Memory}
use Rattle.command_cloud.specs.CommitJournal.errors.OpenErr.{OpenErr}
use Rattle.command_cloud.specs.JournalStart.rooms.UserRooms.{UserRooms}
use Rattle.command_cloud.specs.UserDedup.command.Command.{Command}
use Rattle.command_cloud.specs.Opened.{CloudCall, CloudFails, IsOpenedIn, IsUnfailing, IsNotOpened, IsUnchanged, StandsWithin}
use Rattle.audit_command.specs.Said.{audit_status, audit_text}
use Rattle.audit_command.specs.Tables.{certificate_in, tables_in}
use Rattle.command_cloud.specs.Said.{opening_status, opening_text}

-- What the audit of an opened cloud answers. On a told cloud Ok says that each listed blob lies in the areas as they read at the end,
-- and Rotten that one doesn't. Where the cloud stands for a list, Rotten never comes.
pub record IsAuditOf (memory : Memory) (call : CloudCall) (result : Result ℕ AuditErr) : Type 0 where
  pub areas : IsTrue call.old.told → AuditIs (reads call.new.now) (tables_in memory) result
  pub passes : (own : UserRooms) (list : List Command) → StandsWithin call own list → AuditPasses result
  pub counts : OnAuditFault result (CloudFails call) (IsUnfailing call)

-- The whole promise, by the way it ended. Memory ran out before the cloud was opened; or it wasn't opened; or it was audited, and what
-- is written is the certificate by its records, or why there is none.
pub data IsCloudAudited (status : ℕ) (call : CloudCall) (out : Output) : Type 0 where
  Unmade : status ≡ 6 → IsSilent out → IsUnchanged call → IsCloudAudited status call out
  Unopened : (error : OpenErr) → IsNotOpened call error
      → HasWrittenOrCause (opening_text call.cloud error) (opening_status error) out status
      → IsCloudAudited status call out
  Audited : (rooms : UserRooms) (memory : Memory) (result : Result ℕ AuditErr) → IsOpenedIn rooms memory call
      → IsAuditOf memory call result
      → HasWrittenOrCause (audit_text call.cloud (certificate_text (certificate_in call memory)) result) (audit_status result) out status
      → IsCloudAudited status call out
