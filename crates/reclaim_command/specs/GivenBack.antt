-- What the reclaim of a cloud in a place promises.
use Rattle.std.specs.Prelude.{◌≡◌, ◌⊎◌, ℕ, IsTrue, List, Result, IfOk, OnOk}
use Rattle.command_cloud.specs.BackupCommand.Writing.{IsSilent, Output, HasWrittenOrCause}
use Rattle.reclaim.specs.CdEdges.Disk.{Cloud, Image, IsImage, LeavesOnly, reads}
use Rattle.reclaim.specs.CloudAreas.Placing.{region_start}
use Rattle.reclaim.specs.CloudAreas.Standing.{StandsFor}
use Rattle.reclaim.specs.CloudMemory.Rooms.{memory_of}
use Rattle.reclaim.specs.CloudMemory.cloud.CloudMemory.{CloudMemory}
use Rattle.command_cloud.specs.Opened.{CloudCall, CloudFails, IsNotOpened, IsOpenedIn, IsUnchanged, IsUnfailing, StandsWithin, cloud_call, header_within}
use Rattle.command_cloud.specs.Said.{opening_status, opening_text}
use Rattle.command_cloud.specs.CommitJournal.errors.OpenErr.{OpenErr}
use Rattle.reclaim.specs.JournalStart.rooms.UserRooms.{UserRooms}
use Rattle.reclaim.specs.JournalStart.start.Header.{Header}
use Rattle.reclaim.specs.AuditBase.Whole.{tables_of}
use Rattle.reclaim.specs.BlobAudit.Reading.{AreStored, IsUnlike}
use Rattle.reclaim.specs.BlobCopy.Copying.{StandsForKept}
use Rattle.reclaim.specs.ShareServer.Copies.{IfRottenThere, IsDoneOrFault, OnReclaimFault}
use Rattle.reclaim.specs.ShareServer.copies.ReclaimErr.{ReclaimErr}
use Rattle.reclaim.specs.CompactMemories.Kept.{live_sum}
use Rattle.reclaim.specs.CompactMemories.Moved.{IsMoved, other_region}
use Rattle.reclaim.specs.CompactMemories.alive.Reclaimed.{Reclaimed}
use Rattle.reclaim.specs.Reclaims.{KeepsLive, KeepsOtherRegion}
use Rattle.reclaim.specs.Sums.{IsSumOf}
use Rattle.reclaim.specs.UserDedup.Compact.{compact}
use Rattle.reclaim.specs.UserDedup.Spending.{IsWithin}
use Rattle.reclaim.specs.UserDedup.command.Command.{Command}
use Rattle.reclaim_command.specs.Said.{reclaim_status, reclaim_text}

-- Whenever a crash comes from now on, the cloud stands for the list, which is within the header's rooms.
pub record StandsNow (header : Header) (cloud : Cloud) (list : List Command) : Type 0 where
  pub images : (image : Image) → IsImage cloud.now image → StandsFor image header list
  pub within : IsWithin header.shape header.rooms list

-- An image is as a crash might have left the areas at the start, or stands for the list or for its compact list.
abbrev pub MayBeLeft : CloudCall → UserRooms → List Command → Image → Type 0
MayBeLeft call rooms list image = IsImage call.old.now image ⊎ StandsForKept (header_within rooms call) list image

-- What the reclaim of an opened cloud answers, which was `between` then; its memory is `after` at the end.
-- For each list that the cloud stands for: whenever a crash comes, the areas may be left so alone; Ok says that the cloud stands for the
-- compact list, in which each user has what it had, in the same rooms, and that nothing dead has a place, and its numbers are those of what
-- is alive by the list, each blob once, and of the strings that no user owned; and Ok comes, or a device failed.
-- Whatever is known of the cloud: the numbers of Ok are those of what is alive in the memory, which is moved to the other region, without
-- the rest. On a told cloud, whatever it stands for, Ok says that each blob that is alive lies in the areas where the memory says, as they
-- read at the end; and Rotten that one doesn't, that the journal stays, and all that lies out of the other region.
pub record IsReclaimOf (memory : CloudMemory) (region : ℕ) (between : Cloud) (after : CloudMemory) (call : CloudCall)
    (result : Result Reclaimed ReclaimErr) : Type 0 where
  pub any_moment : (own : UserRooms) (list : List Command) → StandsWithin call own list
      → LeavesOnly call.old call.new (MayBeLeft call own list)
  pub compacted : (own : UserRooms) (list : List Command) → StandsWithin call own list
      → OnOk result (StandsNow (header_within own call) call.new (compact call.shape list))
  pub kept : (own : UserRooms) (list : List Command) → StandsWithin call own list → OnOk result (KeepsLive call.shape list (memory_of after))
  pub answers : (own : UserRooms) (list : List Command) → StandsWithin call own list → IsDoneOrFault result
  pub sums : (own : UserRooms) (list : List Command) → StandsWithin call own list
      → IfOk result (IsSumOf call.shape list)
  pub sum : IfOk result (λ sum. sum ≡ live_sum memory)
  pub moved : OnOk result (IsMoved (other_region region) memory (memory_of after))
  pub whole : IsTrue call.old.told → OnOk result (AreStored (reads call.new.now) (tables_of after))
  pub rotten : IsTrue call.old.told → IfRottenThere result (IsUnlike (reads call.new.now) (tables_of memory))
  pub spared : IsTrue call.old.told
      → IfRottenThere result (λ named found. KeepsOtherRegion (region_start (other_region region)) between call.new)
  pub counts : OnReclaimFault result (CloudFails call) (IsUnfailing call)

-- The whole promise, by the way it ended. Memory ran out before the cloud was opened; or it wasn't opened; or it was opened, as it was
-- `between`, and what is written is what came of the reclaim.
pub data IsReclaimed (status : ℕ) (call : CloudCall) (out : Output) : Type 0 where
  Unmade : status ≡ 6 → IsSilent out → IsUnchanged call → IsReclaimed status call out
  Unopened : (error : OpenErr) → IsNotOpened call error
      → HasWrittenOrCause (opening_text call.cloud error) (opening_status error) out status
      → IsReclaimed status call out
  Opened : (rooms : UserRooms) (memory : CloudMemory) (region : ℕ) (between : Cloud) (total_between : ℕ) (after : CloudMemory)
      (result : Result Reclaimed ReclaimErr)
      → IsOpenedIn rooms (memory_of memory) (cloud_call call.shape call.cloud call.old between call.total_before total_between)
      → IsReclaimOf memory region between after call result
      → HasWrittenOrCause (reclaim_text call.cloud result) (reclaim_status result) out status
      → IsReclaimed status call out
