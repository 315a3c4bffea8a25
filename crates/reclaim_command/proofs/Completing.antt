-- Where nothing fails, a reclaim answers 0 or runs out of memory: each other status has a cause that isn't there.
use Rattle.std.proofs.Common.{◌≡◌, ◌⊎◌, inl, inr, ℕ, Result, Ok, Err}
use Rattle.command_cloud.specs.BackupCommand.Writing.{Output}
use Rattle.command_cloud.specs.Opened.{CloudCall, CloudFails, IsUnfailing}
use Rattle.command_cloud.specs.Unhindered.{IsOpeningUnhindered}
use Rattle.command_cloud.proofs.Completing.{opens, status_of}
use Rattle.command_cloud.proofs.ServeCommand.Completing.{not_risen}
use Rattle.reclaim.specs.ShareServer.Copies.{IsDoneOrFault, OnReclaimFault}
use Rattle.reclaim.specs.ShareServer.copies.ReclaimErr.{ReclaimErr}
use Rattle.reclaim.specs.ShareServer.copies.ReclaimErr.TheVariants as errors
use Rattle.reclaim.specs.CompactMemories.alive.Reclaimed.{Reclaimed}
use Rattle.reclaim_command.specs.GivenBack.{IsReclaimed, Opened, Unmade, Unopened}
use Rattle.reclaim_command.specs.Said.{reclaim_status}

module _ (call : CloudCall) (out : Output) (well : IsOpeningUnhindered call out) where
  due_of : (result : Result Reclaimed ReclaimErr) → IsDoneOrFault result → OnReclaimFault result (CloudFails call) (IsUnfailing call)
      → (reclaim_status result ≡ 0) ⊎ (reclaim_status result ≡ 6)
  due_of (Ok sum) done counts = inl (λ i. 0)
  due_of (Err errors.Fault) done counts = absurd (not_risen call.old.faults call.new.faults well.cloud counts.cloud)
  due_of (Err (errors.Rotten named found)) done counts = absurd done
  due_of (Err errors.NoMemory) done counts = absurd done

  pub completes : (status : ℕ) → IsReclaimed status call out → (status ≡ 0) ⊎ (status ≡ 6)
  completes status (Unmade same silent unchanged) = inr same
  completes status (Unopened error unopened writes) = absurd (opens call out well error unopened)
  completes status (Opened rooms memory region between total after result opened of writes) =
      status_of call out well _ (reclaim_status result) status (due_of result (of.answers well.rooms well.list well.stands) of.counts) writes
