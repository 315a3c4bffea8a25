-- Where nothing fails, an audit answers 0 or runs out of memory: each other status has a cause that isn't there.
use Rattle.std.proofs.Common.{◌≡◌, ◌⊎◌, inl, inr, ℕ, Result, Ok, Err}
use Rattle.audit.specs.Audits.{AuditPasses, OnAuditFault}
use Rattle.audit.specs.declared.errors.AuditErr.{AuditErr}
use Rattle.audit.specs.declared.errors.AuditErr.TheVariants as audits
use Rattle.command_cloud.specs.BackupCommand.Writing.{Output}
use Rattle.command_cloud.specs.Opened.{CloudCall, CloudFails, IsUnfailing}
use Rattle.command_cloud.specs.Unhindered.{IsOpeningUnhindered}
use Rattle.command_cloud.proofs.Completing.{opens, status_of}
use Rattle.command_cloud.proofs.ServeCommand.Completing.{not_risen}
use Rattle.audit_command.specs.Audited.{IsCloudAudited, Unmade, Unopened, Audited}
use Rattle.audit_command.specs.Said.{audit_status}

module _ (call : CloudCall) (out : Output) (well : IsOpeningUnhindered call out) where
  due_of : (result : Result ℕ AuditErr) → AuditPasses result → OnAuditFault result (CloudFails call) (IsUnfailing call)
      → (audit_status result ≡ 0) ⊎ (audit_status result ≡ 6)
  due_of (Ok count) passes counts = inl (λ i. 0)
  due_of (Err audits.Fault) passes counts = absurd (not_risen call.old.faults call.new.faults well.cloud counts.cloud)
  due_of (Err (audits.Rotten named found)) passes counts = absurd passes
  due_of (Err audits.NoMemory) passes counts = inr (λ i. 6)

  pub completes : (status : ℕ) → IsCloudAudited status call out → (status ≡ 0) ⊎ (status ≡ 6)
  completes status (Unmade same silent untouched) = inr same
  completes status (Unopened error unopened writes) = absurd (opens call out well error unopened)
  completes status (Audited rooms memory result opened of writes) = status_of call out well _ (audit_status result) status
      (due_of result (of.passes well.rooms well.list well.stands) of.counts) writes
