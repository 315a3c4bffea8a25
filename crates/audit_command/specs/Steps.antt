-- What the steps of a command come to, by the server that was opened. No public clause cites this module.
use Rattle.std.specs.Prelude.{◌≡◌, ℕ, IsTrue, List, Some, Result, Err, OnOk}
use Rattle.audit.specs.Audits.{AuditIs, AuditPasses, CheckPasses, IfCheckRotten, OnAuditFault, OnCheckFault, own_of, remembered}
use Rattle.audit.specs.declared.errors.AuditErr.{AuditErr}
use Rattle.audit.specs.AuditBase.Judged.{JudgedIs}
use Rattle.audit.specs.AuditBase.Whole.{IsRottenNow, WholeNow}
use Rattle.audit.specs.AuditBase.errors.CheckErr.{CheckErr}
use Rattle.command_cloud.specs.BackupCommand.Reading.{Input}
use Rattle.command_cloud.specs.BackupCommand.Writing.{IsSilent, Output, HasWrittenOrCause}
use Rattle.command_cloud.specs.CdEdges.Disk.{reads}
use Rattle.command_cloud.specs.CdEdges.Shelf.{Stays}
use Rattle.audit.specs.Certificate.Lines.{certificate_text}
use Rattle.command_cloud.specs.CloudAreas.Standing.{Chain}
use Rattle.command_cloud.specs.CloudStore.Store.{Serves}
use Rattle.command_cloud.specs.ShareServer.server.Server.{Server}
use Rattle.command_cloud.specs.Transcript.ending.Ending.TheVariants as endings
use Rattle.command_cloud.specs.Transcript.Endings.{ending_text}
use Rattle.command_cloud.specs.UserDedup.command.Command.{Command}
use Rattle.audit_command.specs.declared.reading.CertificateReadErr.{CertificateReadErr}
use Rattle.audit_command.specs.declared.reading.CertificateReadErr.TheVariants as readings
use Rattle.command_cloud.specs.Opened.{CloudCall, CloudFails, IsUnfailing, IsUnchanged}
use Rattle.audit_command.specs.Said.{audit_status, audit_text, check_status, check_text}
use Rattle.audit_command.specs.Source.{IsCertificateRead, ReadsCertificate}

-- what is said of a source that isn't read to its end
abbrev pub SaysUnread : CertificateReadErr → Output → ℕ → Type 0
SaysUnread readings.Failed out status = (status ≡ 3) × IsSilent out
SaysUnread readings.NoMemory out status = (status ≡ 6) × IsSilent out
SaysUnread (readings.TooLong line at byte) out status = HasWrittenOrCause (ending_text (endings.Script line at (Some byte))) 2 out status

-- An open server audited its cloud, which stays.
pub record AuditedBy (server : Server) (call : CloudCall) (out : Output) (status : ℕ) : Type 0 where
  pub result : Result ℕ AuditErr
  pub areas : IsTrue call.old.told → AuditIs (reads call.new.now) (remembered server) result
  pub passes : (list : List Command) (c : Chain) → Serves list c server.store call.old → AuditPasses result
  pub counts : OnAuditFault result (CloudFails call) (IsUnfailing call)
  pub stays : Stays call.old call.new
  pub written : HasWrittenOrCause (audit_text call.cloud (certificate_text (own_of server)) result)
      (audit_status result) out
      status

-- What an open server answers for a text.
pub record AnswersFor (server : Server) (call : CloudCall) (text : List ℕ) (result : Result ℕ CheckErr) : Type 0 where
  pub judged : JudgedIs (own_of server) text result
  pub whole : IsTrue call.old.told
      → OnOk result (WholeNow server.store.header.shape (reads call.new.now) (remembered server))
  pub rotten : IsTrue call.old.told
      → IfCheckRotten result (IsRottenNow server.store.header.shape (reads call.new.now) (remembered server))
  pub passes : (list : List Command) (c : Chain) → Serves list c server.store call.old
      → text ≡ certificate_text (own_of server) → CheckPasses result
  pub counts : OnCheckFault result (CloudFails call) (IsUnfailing call)
  pub stays : Stays call.old call.new

-- A text was checked by an open server, and what came of it written.
pub record AnswersBy (server : Server) (call : CloudCall) (text : List ℕ) (out : Output) (status : ℕ) : Type 0 where
  pub result : Result ℕ CheckErr
  pub answers : AnswersFor server call text result
  pub written : HasWrittenOrCause (check_text call.cloud text result) (check_status result) out status

-- An open server checked what a source has.
pub data CheckedBy (server : Server) (call : CloudCall) (input : Input) (out : Output) (status : ℕ) : Type 0 where
  Unread : (why : CertificateReadErr) → ReadsCertificate input (Err why) → SaysUnread why out status → IsUnchanged call
      → CheckedBy server call input out status
  Answered : (text : List ℕ) → IsCertificateRead input text → AnswersBy server call text out status
      → CheckedBy server call input out status
