-- What is told of the clouds in memory, and what makes their calls fail.
use Rattle.std.specs.Prelude.{◌≡◌, ◌≢◌, ◌++◌, ℕ, Bool, ◌+◌, ◌<◌, ◌≤◌, false, IsTrue, List, [], ◌∷◌, length, take, min, vec_len, vec_capacity}
use Rattle.mem_disk.specs.CdBase.ids.CloudNo.{CloudNo}
use Rattle.mem_disk.specs.CdEdges.area.Area.{Area}
use Rattle.mem_disk.specs.CdEdges.Disk.{Cloud, IsImage, reads, overwritten}
use Rattle.mem_disk.specs.CdEdges.Shelf.{arming_of, stable}
use Rattle.cd_fakes.specs.declared.cloud.MemCloud.{MemCloud}
use Rattle.mem_disk.specs.declared.disk.MemDisk.{MemDisk}
use Rattle.cd_fakes.specs.Counts.{counted_up, is_named}
use Rattle.mem_disk.specs.Areas.{has_place, area_of, held_of, log_of}
use Rattle.mem_disk.specs.Crashed.{crashed}
use Rattle.mem_disk.specs.Disks.{history_of}
use Rattle.mem_disk.specs.History.{past_of, now_of, nothing, Write}

-- what is told of a cloud
abbrev pub cloud_of : MemCloud → Cloud
cloud_of m = record {
  told = m.disk.told;
  faults = m.faults;
  armings = m.armings;
  armed = arming_of m.cut m.keep;
  past = past_of nothing (history_of m.disk);
  now = now_of nothing (history_of m.disk);
}

-- A call on a cloud fails before it does anything.
pub data IsCallRefused (fails : List (CloudNo × ℕ)) (number : ℕ) (m : MemCloud) : Type 0 where
  Absent : m.is_there ≡ false → IsCallRefused fails number m
  Named : IsTrue (is_named fails number (counted_up m.calls)) → IsCallRefused fails number m

-- There is no room for a write, or none for its note.
pub data PutFails (left : ℕ) (m : MemCloud) (area : Area) (place len : ℕ) : Type 0 where
  PastRoom : has_place (area_of m.disk.areas area) place len ≡ false → PutFails left m area place len
  PastLog : (area_of m.disk.areas area).room < vec_len (area_of m.disk.areas area).log + len → PutFails left m area place len
  PastNotes : left ≡ 0 → PutFails left m area place len

-- A write fails.
pub data WriteFails (fails : List (CloudNo × ℕ)) (left number : ℕ) (m : MemCloud) (area : Area) (place len : ℕ) : Type 0 where
  Refused : IsCallRefused fails number m → WriteFails fails left number m area place len
  Cut : m.cut ≡ 1 → WriteFails fails left number m area place len
  Past : PutFails left m area place len → WriteFails fails left number m area place len

-- A sync fails.
pub data SyncFails (fails : List (CloudNo × ℕ)) (left number : ℕ) (m : MemCloud) : Type 0 where
  SyncRefused : IsCallRefused fails number m → SyncFails fails left number m
  SyncCut : m.cut ≡ 1 → SyncFails fails left number m
  SyncPastNotes : left ≡ 0 → SyncFails fails left number m

-- A fresh fails.
pub data FreshFails (fails : List (CloudNo × ℕ)) (left number : ℕ) (m : MemCloud) : Type 0 where
  FreshRefused : IsCallRefused fails number m → FreshFails fails left number m
  FreshPastNotes : left ≡ 0 → FreshFails fails left number m

-- There is memory for the notes that are left.
abbrev pub HasSpare : ℕ → MemCloud → Type 0
HasSpare left m = IsTrue m.is_there → vec_len m.disk.notes + left ≤ vec_capacity m.disk.notes

-- One write more: it is noted, the area has it, and the others are as they were.
pub record Puts (old new : MemDisk) (area : Area) (place : ℕ) (bytes : List ℕ) : Type 0 where
  pub told : new.told ≡ old.told
  pub history : history_of new ≡ history_of old ++ Write area place bytes ∷ []
  pub held : held_of new.areas area ≡ overwritten (held_of old.areas area) place bytes
  pub log : log_of new.areas area ≡ log_of old.areas area ++ bytes
  pub room : (area_of new.areas area).room ≡ (area_of old.areas area).room
  pub others : (other : Area) → other ≢ area → area_of new.areas other ≡ area_of old.areas other

-- What a failed write left: the first bytes of a cut one where there was room for them, or nothing.
pub data KeepsPart (fails : List (CloudNo × ℕ)) (left later number : ℕ) (old new : MemCloud) (area : Area) (place : ℕ) (bytes : List ℕ) : Type 0 where
  Kept : old.cut ≡ 1 → ¬ IsCallRefused fails number old → Puts old.disk new.disk area place (take (min (length bytes) old.keep) bytes) → later + 1 ≡ left → KeepsPart fails left later number old new area place bytes
  Kept_nothing : (old.cut ≡ 1 → ¬ IsCallRefused fails number old → PutFails left old area place (min (length bytes) old.keep)) → new.disk ≡ old.disk → later ≡ left → KeepsPart fails left later number old new area place bytes

-- A crash needs a cloud that is there and told, and room for its note.
pub record CanCrash (left : ℕ) (m : MemCloud) : Type 0 where
  pub there : IsTrue m.is_there
  pub told : IsTrue m.disk.told
  pub noted : 0 < left

-- One moment later each area is what a crash leaves of it, with this byte wherever one was written since the last sync, and
-- with what lies past the synced length or without; and a crash then leaves it so.
pub record Crashes (old new : Cloud) (fill : ℕ) (whole : Bool) : Type 0 where
  pub now : (area : Area) → new.now area ≡ stable (crashed fill whole (old.now area))
  pub image : IsImage old.now (reads new.now)
  pub past : new.past ≡ old.past ++ old.now ∷ []
  pub told : new.told ≡ old.told
  pub faults : new.faults ≡ old.faults
  pub armings : new.armings ≡ old.armings
  pub armed : new.armed ≡ old.armed
