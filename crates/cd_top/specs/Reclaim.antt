-- What the words `reclaim DIR CLOUD N K` promise.
use Rattle.std.specs.Prelude.{◌≡◌, ◌⊎◌, ℕ}
use Rattle.command_words.specs.Asked.{AskedCloud}
use Rattle.spool_command.specs.BackupCommand.Writing.{Output}
use Rattle.reclaim_command.specs.CommandCloud.Unhindered.{IsOpeningUnhindered}
use Rattle.reclaim_command.specs.GivenBack.{IsReclaimed}
use Rattle.cd_top.specs.Audit.{CloudsAround, IsAloneAt, IsUnrooted, call_for}

-- The whole promise: DIR failed; or the cloud's dead space was given back, or it wasn't: how it opened, what a crash leaves, what the areas
-- stand for and which blobs they have, and what was written, by the way it ended. Where nothing fails, it was given back, or memory ran out.
pub data HasReclaimedOrCause (status : ℕ) (c : AskedCloud) (s : CloudsAround) (out : Output) : Type 0 where
  Unrooted : IsUnrooted status s out → HasReclaimedOrCause status c s out
  InPlace : IsReclaimed status (call_for c s) out → IsAloneAt c s
      → (IsOpeningUnhindered (call_for c s) out → (status ≡ 0) ⊎ (status ≡ 6)) → HasReclaimedOrCause status c s out
