-- What the check of a cloud in a place promises.
use Rattle.std.specs.Prelude.{◌≡◌, ℕ, IsTrue, List, Some, Result, OnOk}
use Rattle.audit.specs.Audits.{CheckPasses, IfCheckRotten, OnCheckFault}
use Rattle.audit.specs.AuditBase.Judged.{JudgedIs}
use Rattle.audit.specs.AuditBase.Whole.{IsRottenNow, WholeNow}
use Rattle.audit.specs.AuditBase.errors.CheckErr.{CheckErr}
use Rattle.command_cloud.specs.BackupCommand.Reading.{Input}
use Rattle.command_cloud.specs.BackupCommand.Writing.{IsSilent, Output, HasWrittenOrCause}
use Rattle.command_cloud.specs.CdEdges.Causes.{Rose}
use Rattle.command_cloud.specs.CdEdges.Disk.{reads}
use Rattle.audit.specs.Certificate.Lines.{certificate_text}
use Rattle.command_cloud.specs.CloudMemory.Memory.{Memory}
use Rattle.command_cloud.specs.CommitJournal.errors.OpenErr.{OpenErr}
use Rattle.command_cloud.specs.JournalStart.rooms.UserRooms.{UserRooms}
use Rattle.command_cloud.specs.Transcript.ending.Ending.TheVariants as endings
use Rattle.command_cloud.specs.Transcript.Endings.{ending_text}
use Rattle.command_cloud.specs.UserDedup.command.Command.{Command}
use Rattle.command_cloud.specs.Opened.{CloudCall, CloudFails, IsOpenedIn, IsUnfailing, IsNotOpened, IsUnchanged, StandsWithin}
use Rattle.audit_command.specs.Said.{check_status, check_text}
use Rattle.audit_command.specs.Source.{IsCertificateRead, IsCertificateTooLong}
use Rattle.audit_command.specs.Tables.{certificate_in, tables_in}
use Rattle.command_cloud.specs.Said.{opening_status, opening_text}

-- What the check of a text by an opened cloud answers: the order of refusals, each exactly (`judged`). On a told cloud Ok says that the
-- cloud is whole in the areas as they read at the end, and Rotten that it isn't. Where the cloud stands for a list and the text
-- is its certificate, it is Ok, a device failed, or memory ran out.
pub record IsCheckOf (memory : Memory) (call : CloudCall) (text : List ℕ) (result : Result ℕ CheckErr) : Type 0 where
  pub judged : JudgedIs (certificate_in call memory) text result
  pub whole : IsTrue call.old.told → OnOk result (WholeNow call.shape (reads call.new.now) (tables_in memory))
  pub rotten : IsTrue call.old.told
      → IfCheckRotten result (IsRottenNow call.shape (reads call.new.now) (tables_in memory))
  pub passes : (own : UserRooms) (list : List Command) → StandsWithin call own list
      → text ≡ certificate_text (certificate_in call memory) → CheckPasses result
  pub counts : OnCheckFault result (CloudFails call) (IsUnfailing call)

-- What comes of the source once the cloud is opened: it was only read.
pub data ChecksBy (memory : Memory) (status : ℕ) (call : CloudCall) (input : Input) (out : Output) : Type 0 where
  ReadLacked : status ≡ 6 → IsSilent out → IsUnfailing call → ChecksBy memory status call input out
  ReadFailed : status ≡ 3 → Rose input.faults_before input.faults_after → IsSilent out → IsUnfailing call
      → ChecksBy memory status call input out
  ReadTooMuch : (line at byte : ℕ) → IsCertificateTooLong input line at byte
      → HasWrittenOrCause (ending_text (endings.Script line at (Some byte))) 2 out status
      → IsUnfailing call → ChecksBy memory status call input out
  Judged : (text : List ℕ) (result : Result ℕ CheckErr) → IsCertificateRead input text
      → IsCheckOf memory call text result
      → HasWrittenOrCause (check_text call.cloud text result) (check_status result) out status
      → ChecksBy memory status call input out

-- The whole promise, by the way it ended. Memory ran out before the cloud was opened, or it wasn't opened: the source is unread. Or it was
-- opened, and what the source has was checked.
pub data IsCertificateChecked (status : ℕ) (call : CloudCall) (unread : Type 0) (input : Input)
    (out : Output) : Type 0 where
  Unmade : unread → status ≡ 6 → IsSilent out → IsUnchanged call → IsCertificateChecked status call unread input out
  Unopened : (error : OpenErr) → unread → IsNotOpened call error
      → HasWrittenOrCause (opening_text call.cloud error) (opening_status error) out status
      → IsCertificateChecked status call unread input out
  Checked : (rooms : UserRooms) (memory : Memory) → IsOpenedIn rooms memory call → ChecksBy memory status call input out
      → IsCertificateChecked status call unread input out
