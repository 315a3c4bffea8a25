-- What a log is: an area, its limit, its end, what is staged behind the end, and the containers that are kept.
use Rattle.std.specs.Prelude.{◌≡◌, ◌⊎◌, ℕ, ◌+◌, ◌-◌, ◌/◌, ◌%◌, ◌≤◌, List, [], ◌++◌, length, replicate, None, Some, Result, IsTrue, is_ok, if◌then◌else◌}
use Rattle.cd_edges.specs.declared.area.Area.{Area}
use Rattle.cd_edges.specs.Disk.{Cloud, Store, Image, IsAtArea, MayLeave, overwritten}
use Rattle.cd_edges.specs.Shelf.{wrote, stable}
use Rattle.container_log.specs.Kept.{KeepsBelow}
use Rattle.container_log.specs.Places.{container_len, place_of, end_after}
use Rattle.container_log.specs.Laying.{laid, Fit}
use Rattle.container_log.specs.Caches.{Kept, AreContainersOf, in_front, with_room, with_container, kept_of, kept_over}

-- what a log shows
pub record State : Type 0 where
  pub area : Area
  pub limit : ℕ
  pub end : ℕ
  pub staged : List ℕ  -- the bytes that a flush writes at the end
  pub keep : ℕ  -- how many containers are kept at most
  pub kept : List Kept  -- those that are, the last read first

-- These blobs are staged, in this order.
pub record HasStaged (log : State) (blobs : List (List ℕ)) : Type 0 where
  pub fit : Fit blobs
  pub bytes : log.staged ≡ laid log.end blobs

-- the end behind what is staged
abbrev pub staged_end : State → ℕ
staged_end log = log.end + length log.staged

-- the bytes from the log's end to the end of one more blob of this length
abbrev pub need_of : State → ℕ → ℕ
need_of log len = end_after (staged_end log) len - log.end

-- one more blob is staged, with zeros before it
abbrev pub with_blob : State → List ℕ → State
with_blob log blob = record log { staged = log.staged ++ replicate (place_of (staged_end log) (length blob) - staged_end log) 0 ++ blob }

-- nothing is staged
abbrev pub without_staged : State → State
without_staged log = record log { staged = [] }

-- After a flush nothing is staged. After Ok the log ends behind what was, and those containers are kept that were whole and weren't
-- written; after an error none is.
abbrev pub after_flush : {T E : Type 0} → State → Result T E → State
after_flush log result = record log { end = (if is_ok result then staged_end log else log.end); staged = []; kept = (if is_ok result then kept_over log.end log.staged log.kept else []) }

-- Each container that is kept is what these bytes of the log's area have there.
abbrev pub Agrees : State → List ℕ → Type 0
Agrees log bytes = AreContainersOf bytes log.kept

-- what a cloud has in the log's area
abbrev pub in_area : State → Cloud → List ℕ
in_area log cloud = (cloud.now log.area).read

-- Where the cloud is told, and the log agrees with its area, P holds.
abbrev pub OnAgreeing : State → Cloud → Type 0 → Type 0
OnAgreeing log cloud P = IsTrue cloud.told → Agrees log (in_area log cloud) → P

-- A crash in a flush leaves what was there before: below the log's end all that lay in the area at its last sync, and the other
-- areas as they might have been left before.
abbrev pub KeepsEarlier : State → Cloud → Image → Type 0
KeepsEarlier log old = IsAtArea old.now log.area (KeepsBelow log.end (old.now log.area))

-- A crash in a flush leaves the area as one write of what is staged may, and the other areas as they might have been left before.
abbrev pub IsTorn : State → Cloud → Image → Type 0
IsTorn log old = IsAtArea old.now log.area (MayLeave (wrote (old.now log.area) log.end log.staged))

-- the log's area with what is staged written at the log's end, and synced
abbrev pub area_flushed : State → Cloud → Store
area_flushed log old = stable (overwritten (in_area log old) log.end log.staged)

-- no container is kept
abbrev pub without_kept : State → State
without_kept log = record log { kept = [] }

-- so many bytes from the place on lie in its container, which is kept with these bytes
abbrev pub IsContainerKept : State → ℕ → ℕ → List ℕ → Type 0
IsContainerKept log place len bytes = (place % container_len + len ≤ container_len) × (kept_of log.kept (place / container_len) ≡ Some bytes)

-- After a read without an error the containers are as they were, or that of the place is in front now: it was kept, or it is a container
-- more, with room made for it: where as many were kept as may be, the last one is gone. Or it wasn't kept and still isn't, and room was
-- made for it all the same.
abbrev pub IsAfterRead : State → ℕ → State → Type 0
IsAfterRead log place new = (new ≡ log)
    ⊎ ((new ≡ record log { kept = in_front (place / container_len) log.kept })
    ⊎ ((kept_of log.kept (place / container_len) ≡ None)
    × ((new ≡ record log { kept = with_room log.keep log.kept })
    ⊎ ((bytes : List ℕ) × (new ≡ record log { kept = with_container (place / container_len) bytes log.keep log.kept })))))
