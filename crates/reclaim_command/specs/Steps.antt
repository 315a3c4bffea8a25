-- What a reclaim comes to, by the server that was opened. No public clause cites this module.
use Rattle.std.specs.Prelude.{◌≡◌, ℕ, IsTrue, List, Result, IfOk, OnOk}
use Rattle.command_cloud.specs.BackupCommand.Writing.{Output, HasWrittenOrCause}
use Rattle.reclaim.specs.CdEdges.Disk.{LeavesOnly, reads}
use Rattle.reclaim.specs.CloudAreas.Placing.{region_start}
use Rattle.reclaim.specs.CloudMemory.Rooms.{memory_of}
use Rattle.command_cloud.specs.ShareServer.Serving.{IsServing, settled_with}
use Rattle.command_cloud.specs.ShareServer.server.Server.{Server}
use Rattle.command_cloud.specs.CloudStore.Store.{ServesSome}
use Rattle.command_cloud.specs.Opened.{CloudCall, CloudFails, IsUnfailing}
use Rattle.reclaim.specs.AuditBase.Whole.{tables_of}
use Rattle.reclaim.specs.BlobAudit.Reading.{AreStored, IsUnlike}
use Rattle.reclaim.specs.BlobCopy.Copying.{StandsForKept}
use Rattle.reclaim.specs.ShareServer.Copies.{IfRottenThere, IsDoneOrFault, OnReclaimFault}
use Rattle.reclaim.specs.ShareServer.copies.ReclaimErr.{ReclaimErr}
use Rattle.reclaim.specs.CompactMemories.Kept.{live_sum}
use Rattle.reclaim.specs.CompactMemories.Moved.{IsMoved, other_region}
use Rattle.reclaim.specs.CompactMemories.alive.Reclaimed.{Reclaimed}
use Rattle.reclaim.specs.Reclaims.{KeepsLive, KeepsOtherRegion}
use Rattle.reclaim.specs.Sums.{IsSumOf}
use Rattle.reclaim.specs.UserDedup.Compact.{compact}
use Rattle.reclaim.specs.UserDedup.command.Command.{Command}
use Rattle.reclaim_command.specs.Said.{reclaim_status, reclaim_text}

-- An open server gave back what is dead in its cloud, and is `after` then.
pub record ReclaimedBy (server : Server) (call : CloudCall) (out : Output) (status : ℕ) : Type 0 where
  pub result : Result Reclaimed ReclaimErr
  pub after : Server
  pub any_moment : (list : List Command) → ServesSome list server.store call.old
      → LeavesOnly call.old call.new (StandsForKept server.store.header list)
  pub serving : (list : List Command) → ServesSome list server.store call.old
      → OnOk result (IsServing after call.new (settled_with (compact server.store.header.shape list) call.new))
  pub kept : (list : List Command) → ServesSome list server.store call.old
      → OnOk result (KeepsLive server.store.header.shape list (memory_of after.store.memory))
  pub answers : (list : List Command) → ServesSome list server.store call.old → IsDoneOrFault result
  pub sums : (list : List Command) → ServesSome list server.store call.old → IfOk result (IsSumOf server.store.header.shape list)
  pub sum : IfOk result (λ sum. sum ≡ live_sum server.store.memory)
  pub moved : OnOk result (IsMoved (other_region server.store.region) server.store.memory (memory_of after.store.memory))
  pub whole : IsTrue call.old.told → OnOk result (AreStored (reads call.new.now) (tables_of after.store.memory))
  pub rotten : IsTrue call.old.told → IfRottenThere result (IsUnlike (reads call.new.now) (tables_of server.store.memory))
  pub spared : IsTrue call.old.told
      → IfRottenThere result (λ named found. KeepsOtherRegion
      (region_start (other_region server.store.region)) call.old call.new)
  pub same : after.store.header ≡ server.store.header
  pub counts : OnReclaimFault result (CloudFails call) (IsUnfailing call)
  pub written : HasWrittenOrCause (reclaim_text call.cloud result) (reclaim_status result) out status
