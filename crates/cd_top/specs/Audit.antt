-- What the words `audit DIR CLOUD N K` and `check DIR CLOUD N K` promise.
use Rattle.std.specs.Prelude.{◌≡◌, ◌⊎◌, ℕ}
use Rattle.delete_command.specs.CdEdges.Causes.{Rose}
use Rattle.delete_command.specs.CdEdges.Disk.{Cloud}
use Rattle.delete_command.specs.CdEdges.Shelf.{IsCall}
use Rattle.command_words.specs.Asked.{AskedCloud}
use Rattle.audit_command.specs.Audited.{IsCloudAudited}
use Rattle.audit_command.specs.Checked.{IsCertificateChecked}
use Rattle.audit_command.specs.CommandCloud.Opened.{CloudCall, cloud_call}
use Rattle.audit_command.specs.CommandCloud.Unhindered.{IsOpeningUnhindered}
use Rattle.spool_command.specs.BackupCommand.Reading.{Input}
use Rattle.spool_command.specs.BackupCommand.Writing.{Output, IsSilent}

-- the clouds of the shelf before and after, and its count of faults in all
pub record CloudsAround : Type 0 where
  pub old : ℕ → Cloud
  pub new : ℕ → Cloud
  pub total_before : ℕ
  pub total_after : ℕ

abbrev pub clouds_of : (ℕ → Cloud) → (ℕ → Cloud) → ℕ → ℕ → CloudsAround
clouds_of old new total total_after = record { old = old; new = new; total_before = total; total_after = total_after }

-- the cloud that is asked for, amid these
abbrev pub call_for : AskedCloud → CloudsAround → CloudCall
call_for c s = cloud_call c.shape c.cloud (s.old c.cloud.0) (s.new c.cloud.0) s.total_before s.total_after

-- DIR failed: nothing was written, and no cloud changed.
pub record IsUnrooted (status : ℕ) (s : CloudsAround) (out : Output) : Type 0 where
  pub status_is : status ≡ 5
  pub cause : Rose s.total_before s.total_after
  pub silent : IsSilent out
  pub clouds : (cloud : ℕ) → s.new cloud ≡ s.old cloud

-- no other cloud was touched
abbrev pub IsAloneAt : AskedCloud → CloudsAround → Type 0
IsAloneAt c s = IsCall s.old s.new c.cloud.0 s.total_before s.total_after

-- The whole promise of `audit`: DIR failed; or the cloud was audited: how it opened, what its blobs are, and what was written, by the
-- way it ended. Where nothing fails, the certificate was written, or memory ran out.
pub data Audits (status : ℕ) (c : AskedCloud) (s : CloudsAround) (out : Output) : Type 0 where
  NoDirectory : IsUnrooted status s out → Audits status c s out
  InDirectory : IsCloudAudited status (call_for c s) out → IsAloneAt c s
      → (IsOpeningUnhindered (call_for c s) out → (status ≡ 0) ⊎ (status ≡ 6)) → Audits status c s out

-- That of `check`: DIR failed, and the source is unread; or the source's certificate was checked.
pub data HasCheckedOrCause (status : ℕ) (c : AskedCloud) (s : CloudsAround) (unread : Type 0) (input : Input) (out : Output) : Type 0 where
  Unchecked : unread → IsUnrooted status s out → HasCheckedOrCause status c s unread input out
  ByCloud : IsCertificateChecked status (call_for c s) unread input out → IsAloneAt c s
      → HasCheckedOrCause status c s unread input out
