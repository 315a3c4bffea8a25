-- A cloud that is audited or checked in a place.
use Rattle.std.proofs.Common.{◌≡◌, ◌⊎◌, ℕ, refl, subst₂}
use Rattle.delete_command.specs.CdEdges.Causes.{Rose}
use Rattle.delete_command.specs.CdEdges.Disk.{Cloud}
use Rattle.command_words.specs.Asked.{AskedCloud}
use Rattle.audit_command.specs.Audited.{IsCloudAudited}
use Rattle.audit_command.specs.Checked.{IsCertificateChecked}
use Rattle.audit_command.specs.CommandCloud.Unhindered.{IsOpeningUnhindered}
use Rattle.spool_command.specs.BackupCommand.Reading.{Input}
use Rattle.spool_command.specs.BackupCommand.Writing.{Output}
use Rattle.cd_top.specs.Audit.{Audits, InDirectory, HasCheckedOrCause, ByCloud, CloudsAround, IsAloneAt, IsUnrooted, call_for, clouds_of}

-- the place couldn't be made or found
pub unrooted : (s : CloudsAround) (out : Output) → out.written_after ≡ out.written_before → out.faults_after ≡ out.faults_before
    → ((cloud : ℕ) → s.new cloud ≡ s.old cloud) → Rose s.total_before s.total_after → IsUnrooted 5 s out
unrooted s out written still same rose = record {
  status_is = refl;
  cause = rose;
  silent = record { written = written; sink = still };
  clouds = same;
}

module _ (status : ℕ) (c : AskedCloud) (old middle new : ℕ → Cloud) (total count total_after : ℕ) (out : Output)
    (same : (cloud : ℕ) → middle cloud ≡ old cloud) (kept : count ≡ total) where
  -- the naming of the place changed no cloud and no count
  pub audited_in : IsCloudAudited status (call_for c (clouds_of middle new count total_after)) out
      → IsAloneAt c (clouds_of middle new count total_after)
      → (IsOpeningUnhindered (call_for c (clouds_of middle new count total_after)) out → (status ≡ 0) ⊎ (status ≡ 6))
      → Audits status c (clouds_of old new total total_after) out
  audited_in audited alone complete =
      subst₂ (λ (o : ℕ → Cloud) (n : ℕ). Audits status c (clouds_of o new n total_after) out)
      (λ i cloud. same cloud i) kept (InDirectory audited alone complete)

  pub checked_in : (unread : Type 0) (input : Input)
      → IsCertificateChecked status (call_for c (clouds_of middle new count total_after)) unread input out
      → IsAloneAt c (clouds_of middle new count total_after)
      → HasCheckedOrCause status c (clouds_of old new total total_after) unread input out
  checked_in unread input checked alone =
      subst₂ (λ (o : ℕ → Cloud) (n : ℕ). HasCheckedOrCause status c (clouds_of o new n total_after) unread input out)
      (λ i cloud. same cloud i) kept (ByCloud checked alone)
