-- What an audit and a check of a store do. No public clause cites this module.
use Rattle.std.specs.Prelude.{◌≡◌, ℕ, List, Result, Ok, Err, IsTrue, OnOk}
use Rattle.share_server.specs.CdEdges.Disk.{Cloud, reads}
use Rattle.share_server.specs.CdEdges.Shelf.{IsCall, HasFailed, KeepsCounts, Stays}
use Rattle.share_server.specs.UserDedup.command.Command.{Command}
use Rattle.cloud_disk.specs.CloudAreas.Standing.{Chain}
use Rattle.own_certificate.specs.Certificate.Lines.{Certificate, certificate_text}
use Rattle.cloud_store.specs.declared.store.CloudStore.{CloudStore}
use Rattle.cloud_store.specs.Store.{Serves}
use Rattle.blob_audit.specs.declared.errors.ReadErr.{ReadErr}
use Rattle.blob_audit.specs.declared.errors.ReadErr.TheVariants as reading
use Rattle.blob_audit.specs.AuditBase.errors.CheckErr.{CheckErr}
use Rattle.blob_audit.specs.AuditBase.errors.CheckErr.TheVariants as checks
use Rattle.blob_audit.specs.AuditBase.Judged.{JudgedIs}
use Rattle.blob_audit.specs.AuditBase.Own.{own}
use Rattle.blob_audit.specs.AuditBase.Whole.{tables_of, IsRottenNow, WholeNow}
use Rattle.audit.specs.declared.errors.AuditErr.{AuditErr}
use Rattle.audit.specs.declared.errors.AuditErr.TheVariants as audits
use Rattle.audit.specs.Audits.{AppendsCertificate, AuditIs, AuditPasses, OnAuditFault, IfCheckRotten, IfUnread, CheckPasses, OnCheckFault}

abbrev pub own_in : CloudStore → Certificate
own_in store = own store.header.shape store.header.cloud (tables_of store.memory)

abbrev pub number_in : CloudStore → ℕ
number_in store = store.header.cloud.0

abbrev pub audit_error : ReadErr → AuditErr
audit_error reading.Fault = audits.Fault
audit_error (reading.Rotten named found) = audits.Rotten named found
audit_error reading.NoMemory = audits.NoMemory

abbrev pub check_error : ReadErr → CheckErr
check_error reading.Fault = checks.Fault
check_error (reading.Rotten named found) = checks.Rotten named found
check_error reading.NoMemory = checks.NoMemory

-- an audit of a store
pub record IsAudited (store : CloudStore) (old new : ℕ → Cloud) (before now : ℕ) (result : Result ℕ AuditErr) (had has : List ℕ) : Type 0 where
  pub appends : AppendsCertificate (own_in store) result had has
  pub judged : IsTrue (old (number_in store)).told → AuditIs (reads (new (number_in store)).now) (tables_of store.memory) result
  pub passes : (list : List Command) (c : Chain) → Serves list c store (old (number_in store)) → AuditPasses result
  pub stays : Stays (old (number_in store)) (new (number_in store))
  pub call : IsCall old new (number_in store) before now
  pub counts : OnAuditFault result (HasFailed (old (number_in store)) (new (number_in store)) before now)
      (KeepsCounts (old (number_in store)) (new (number_in store)) before now)

-- a check of a store by a text
pub record IsChecked (store : CloudStore) (text : List ℕ) (old new : ℕ → Cloud) (before now : ℕ) (result : Result ℕ CheckErr) : Type 0 where
  pub judged : JudgedIs (own_in store) text result
  pub whole : IsTrue (old (number_in store)).told → OnOk result (WholeNow store.header.shape (reads (new (number_in store)).now) (tables_of store.memory))
  pub rotten : IsTrue (old (number_in store)).told
      → IfCheckRotten result (IsRottenNow store.header.shape (reads (new (number_in store)).now)
      (tables_of store.memory))
  pub passes : (list : List Command) (c : Chain) → Serves list c store (old (number_in store)) → text ≡ certificate_text (own_in store) → CheckPasses result
  pub stays : Stays (old (number_in store)) (new (number_in store))
  pub call : IsCall old new (number_in store) before now
  pub counts : OnCheckFault result (HasFailed (old (number_in store)) (new (number_in store)) before now)
      (KeepsCounts (old (number_in store)) (new (number_in store)) before now)
