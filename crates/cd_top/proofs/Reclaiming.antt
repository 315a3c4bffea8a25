-- A cloud whose dead space is given back in a place.
use Rattle.std.proofs.Common.{◌≡◌, ◌⊎◌, ℕ, subst₂}
use Rattle.delete_command.specs.CdEdges.Disk.{Cloud}
use Rattle.command_words.specs.Asked.{AskedCloud}
use Rattle.spool_command.specs.BackupCommand.Writing.{Output}
use Rattle.reclaim_command.specs.CommandCloud.Unhindered.{IsOpeningUnhindered}
use Rattle.reclaim_command.specs.GivenBack.{IsReclaimed}
use Rattle.cd_top.specs.Audit.{IsAloneAt, call_for, clouds_of}
use Rattle.cd_top.specs.Reclaim.{InPlace, HasReclaimedOrCause}

-- the naming of the place changed no cloud and no count
pub reclaimed_in : (status : ℕ) (c : AskedCloud) (old middle new : ℕ → Cloud) (total count total_after : ℕ) (out : Output)
    → ((cloud : ℕ) → middle cloud ≡ old cloud) → count ≡ total
    → IsReclaimed status (call_for c (clouds_of middle new count total_after)) out
    → IsAloneAt c (clouds_of middle new count total_after)
    → (IsOpeningUnhindered (call_for c (clouds_of middle new count total_after)) out → (status ≡ 0) ⊎ (status ≡ 6))
    → HasReclaimedOrCause status c (clouds_of old new total total_after) out
reclaimed_in status c old middle new total count total_after out same kept reclaimed alone complete =
    subst₂ (λ (o : ℕ → Cloud) (n : ℕ). HasReclaimedOrCause status c (clouds_of o new n total_after) out)
    (λ i cloud. same cloud i) kept (InPlace reclaimed alone complete)
