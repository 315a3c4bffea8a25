-- An audit and a check by an open server, behind the opening.
use Rattle.std.proofs.Common.{◌≡◌, ℕ, List, [], ◌++◌, Result, Ok, Err, sym, ap, ◌∙◌, subst}
use Rattle.std.specs.Prelude.{OnOk}
use Rattle.audit.specs.Audits.{AppendsCertificate, IfCheckRotten, OnAuditFault, OnCheckFault}
use Rattle.audit.specs.declared.errors.AuditErr.{AuditErr}
use Rattle.audit.specs.declared.errors.AuditErr.TheVariants as audits
use Rattle.audit.specs.AuditBase.Judged.{JudgedIs}
use Rattle.audit.specs.AuditBase.Own.{own}
use Rattle.audit.specs.AuditBase.Whole.{IsRottenNow, WholeNow, tables_of}
use Rattle.audit.specs.AuditBase.errors.CheckErr.{CheckErr}
use Rattle.audit.specs.AuditBase.errors.CheckErr.TheVariants as checks
use Rattle.command_cloud.specs.BackupCommand.Reading.{Input}
use Rattle.command_cloud.specs.BackupCommand.Writing.{Output, HasWrittenOrCause}
use Rattle.grammar.specs.CdBase.ids.CloudNo.{CloudNo}
use Rattle.grammar.specs.CdBase.shape.Shape.{Shape}
use Rattle.command_cloud.specs.CdEdges.Disk.{Cloud, reads}
use Rattle.command_cloud.specs.CdEdges.Shelf.{HasFailed, KeepsCounts, Stays}
use Rattle.audit.specs.Certificate.Lines.{Certificate, certificate_text}
use Rattle.command_cloud.specs.CloudMemory.Rooms.{memory_of}
use Rattle.command_cloud.specs.ShareServer.Names.{header_of}
use Rattle.command_cloud.specs.ShareServer.Serving.{number_of}
use Rattle.command_cloud.specs.ShareServer.server.Server.{Server}
use Rattle.command_cloud.specs.JournalStart.rooms.UserRooms.{UserRooms}
use Rattle.command_cloud.specs.JournalStart.start.Header.{Header}
use Rattle.audit_command.specs.Audited.{IsCloudAudited, Unmade, Unopened, Audited, IsAuditOf}
use Rattle.audit_command.specs.Checked as ends_of
use Rattle.audit_command.specs.Checked.{IsCertificateChecked, Checked, ChecksBy, IsCheckOf, Judged, ReadLacked, ReadFailed, ReadTooMuch}
use Rattle.command_cloud.specs.Opened.{CloudCall, IsUnchanged, IsUnfailing, cloud_call}
use Rattle.audit_command.specs.Said.{audit_status, audit_text, check_status, check_text}
use Rattle.audit_command.specs.Steps.{AuditedBy, AnswersFor, CheckedBy, Unread, Answered}
use Rattle.command_cloud.specs.declared.opening.Unopened.{Unopened as OpeningErr}
use Rattle.command_cloud.specs.declared.opening.Unopened.TheVariants as unopened
use Rattle.audit_command.specs.declared.reading.CertificateReadErr.TheVariants as readings
use Rattle.command_cloud.proofs.Standing.{failed_since, kept_since, opened_still, stands_still, untouched_stays}
use Rattle.command_cloud.specs.Opens.{OpenedBy, OpensCloud}
use Rattle.command_cloud.specs.Said.{SaysUnopened}

-- what an audit appended to no text is the certificate
pub audit_said : (cloud : CloudNo) (certificate : Certificate) (result : Result ℕ AuditErr) (before text : List ℕ) (out : Output) (status : ℕ)
    → before ≡ [] → AppendsCertificate certificate result before text → HasWrittenOrCause (audit_text cloud text result) (audit_status result) out status
    → HasWrittenOrCause (audit_text cloud (certificate_text certificate) result) (audit_status result) out status
audit_said cloud certificate (Ok count) before text out status empty appends writes =
    subst (λ (t : List ℕ). HasWrittenOrCause t 0 out status)
    (appends.1 ∙ ap (λ (b : List ℕ). b ++ certificate_text certificate) empty) writes
audit_said cloud certificate (Err audits.Fault) before text out status empty appends writes = writes
audit_said cloud certificate (Err (audits.Rotten named found)) before text out status empty appends writes = writes
audit_said cloud certificate (Err audits.NoMemory) before text out status empty appends writes = writes

audit_counts : (old mid new : Cloud) (before middle now : ℕ) (still : KeepsCounts old mid before middle) (result : Result ℕ AuditErr)
    → OnAuditFault result (HasFailed mid new middle now) (KeepsCounts mid new middle now)
    → OnAuditFault result (HasFailed old new before now) (KeepsCounts old new before now)
audit_counts old mid new before middle now still (Ok count) counts = kept_since old mid new before middle now still counts
audit_counts old mid new before middle now still (Err audits.Fault) counts = failed_since old mid new before middle now still counts
audit_counts old mid new before middle now still (Err (audits.Rotten named found)) counts = kept_since old mid new before middle now still counts
audit_counts old mid new before middle now still (Err audits.NoMemory) counts = kept_since old mid new before middle now still counts

check_counts : (old mid new : Cloud) (before middle now : ℕ) (still : KeepsCounts old mid before middle) (result : Result ℕ CheckErr)
    → OnCheckFault result (HasFailed mid new middle now) (KeepsCounts mid new middle now)
    → OnCheckFault result (HasFailed old new before now) (KeepsCounts old new before now)
check_counts old mid new before middle now still (Ok count) counts = kept_since old mid new before middle now still counts
check_counts old mid new before middle now still (Err (checks.Malformed line at)) counts = kept_since old mid new before middle now still counts
check_counts old mid new before middle now still (Err checks.OtherCloud) counts = kept_since old mid new before middle now still counts
check_counts old mid new before middle now still (Err (checks.Differs line)) counts = kept_since old mid new before middle now still counts
check_counts old mid new before middle now still (Err (checks.Rotten named found)) counts = kept_since old mid new before middle now still counts
check_counts old mid new before middle now still (Err checks.Fault) counts = failed_since old mid new before middle now still counts
check_counts old mid new before middle now still (Err checks.NoMemory) counts = kept_since old mid new before middle now still counts

module _ (shape : Shape) (cloud : CloudNo) (rooms : UserRooms) (server : Server) (old mid new : Cloud) (before middle now : ℕ) (out : Output)
    (status : ℕ) (told : mid.told ≡ old.told) (first : OpenedBy rooms server (cloud_call shape cloud old mid before middle)) where
  abbrev whole : CloudCall
  whole = cloud_call shape cloud old new before now

  abbrev then_call : CloudCall
  then_call = cloud_call server.store.header.shape server.store.header.cloud mid new middle now

  -- ---- an audit

  audit_of : (by : AuditedBy server then_call out status) → IsAuditOf (memory_of server.store.memory) whole by.result
  audit_of by = record {
    areas = λ is. by.areas (told ∙ is);
    passes = λ own list s.
        let some = (first.served own list (stands_still shape cloud old mid new before middle now own list s)).ready first.at_end in
        by.passes list some.c some.serves;
    counts = audit_counts old mid new before middle now first.still by.result by.counts;
  }

  pub audited : AuditedBy server then_call out status → IsCloudAudited status whole out
  audited by = Audited rooms (memory_of server.store.memory) by.result
      (opened_still shape cloud old mid new before middle now rooms (memory_of server.store.memory) by.stays first.opened)
      (audit_of by)
      (subst (λ (h : Header). HasWrittenOrCause (audit_text h.cloud (certificate_text (own h.shape h.cloud (tables_of server.store.memory))) by.result)
      (audit_status by.result) out status) first.header_is by.written)

  -- ---- a check

  check_of : (text : List ℕ) (result : Result ℕ CheckErr) → AnswersFor server then_call text result
      → IsCheckOf (memory_of server.store.memory) whole text result
  check_of text result by = record {
    judged = subst (λ (h : Header). JudgedIs (own h.shape h.cloud (tables_of server.store.memory)) text result) first.header_is by.judged;
    whole = λ is. subst (λ (h : Header). OnOk result (WholeNow h.shape (reads new.now) (tables_of server.store.memory))) first.header_is
        (by.whole (told ∙ is));
    rotten = λ is. subst (λ (h : Header). IfCheckRotten result (IsRottenNow h.shape (reads new.now) (tables_of server.store.memory)))
        first.header_is (by.rotten (told ∙ is));
    passes = λ own_rooms list s text_is.
        let some = (first.served own_rooms list (stands_still shape cloud old mid new before middle now own_rooms list s)).ready first.at_end in
        by.passes list some.c some.serves
        (subst (λ (h : Header). text ≡ certificate_text (own h.shape h.cloud (tables_of server.store.memory))) (sym first.header_is) text_is);
    counts = check_counts old mid new before middle now first.still result by.counts;
  }

  quiet_since : IsUnchanged then_call → IsUnfailing whole
  quiet_since u = kept_since old mid new before middle now first.still
      (record { cloud = ap (λ (k : Cloud). k.faults) u.cloud_is; total = u.total })

  opened_then : Stays mid new → (input : Input) (unread : Type 0) → ChecksBy (memory_of server.store.memory) status whole input out
      → IsCertificateChecked status whole unread input out
  opened_then stays input unread checks = Checked rooms (memory_of server.store.memory)
      (opened_still shape cloud old mid new before middle now rooms (memory_of server.store.memory) stays first.opened) checks

  pub checked : (input : Input) (unread : Type 0) → CheckedBy server then_call input out status → IsCertificateChecked status whole unread input out
  checked input unread (Unread readings.Failed reads says u) =
      opened_then (untouched_stays then_call u) input unread (ReadFailed says.0 reads says.1 (quiet_since u))
  checked input unread (Unread readings.NoMemory reads says u) =
      opened_then (untouched_stays then_call u) input unread (ReadLacked says.0 says.1 (quiet_since u))
  checked input unread (Unread (readings.TooLong line at byte) reads says u) =
      opened_then (untouched_stays then_call u) input unread (ReadTooMuch line at byte reads says (quiet_since u))
  checked input unread (Answered text read by) = opened_then by.answers.stays input unread
      (Judged text by.result read (check_of text by.result by.answers)
      (subst (λ (h : Header). HasWrittenOrCause (check_text h.cloud text by.result) (check_status by.result) out status) first.header_is by.written))

-- ---- a cloud that isn't opened

pub unopened_audit : (call : CloudCall) (why : OpeningErr) (out : Output) (status : ℕ) → OpensCloud call (Err why)
    → SaysUnopened call.cloud why out status → IsCloudAudited status call out
unopened_audit call unopened.NoMemory out status opens says = Unmade says.0 says.1 opens
unopened_audit call (unopened.Refused error) out status opens says = Unopened error opens says

pub unopened_check : (call : CloudCall) (why : OpeningErr) (unread : Type 0) (input : Input) (out : Output) (status : ℕ) → unread
    → OpensCloud call (Err why) → SaysUnopened call.cloud why out status → IsCertificateChecked status call unread input out
unopened_check call unopened.NoMemory unread input out status still opens says = ends_of.Unmade still says.0 says.1 opens
unopened_check call (unopened.Refused error) unread input out status still opens says = ends_of.Unopened error still opens says

-- ---- the same by the number of the cloud that the server has

pub audited_at : (rooms : UserRooms) (server : Server) (shape : Shape) (cloud : CloudNo) (old new : ℕ → Cloud) (before now : ℕ) (out : Output)
    (status : ℕ) → server.store.header ≡ header_of shape rooms cloud.0
    → AuditedBy server (cloud_call server.store.header.shape server.store.header.cloud (old (number_of server)) (new (number_of server)) before now) out status
    → AuditedBy server (cloud_call server.store.header.shape server.store.header.cloud (old cloud.0) (new cloud.0) before now) out status
audited_at rooms server shape cloud old new before now out status is by = subst (λ (h : Header). AuditedBy server
    (cloud_call server.store.header.shape server.store.header.cloud (old h.cloud.0) (new h.cloud.0) before now) out status) is by

pub checked_at : (rooms : UserRooms) (server : Server) (shape : Shape) (cloud : CloudNo) (old new : ℕ → Cloud) (before now : ℕ) (input : Input)
    (out : Output) (status : ℕ) → server.store.header ≡ header_of shape rooms cloud.0
    → CheckedBy server (cloud_call server.store.header.shape server.store.header.cloud (old (number_of server)) (new (number_of server)) before now) input out status
    → CheckedBy server (cloud_call server.store.header.shape server.store.header.cloud (old cloud.0) (new cloud.0) before now) input out status
checked_at rooms server shape cloud old new before now input out status is by = subst (λ (h : Header). CheckedBy server
    (cloud_call server.store.header.shape server.store.header.cloud (old h.cloud.0) (new h.cloud.0) before now) input out status) is by
