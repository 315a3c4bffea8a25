-- What the areas of a cloud are after what was done to it.
use Rattle.std.specs.Prelude.{ℕ, ◌+◌, Bool, true, false, cond, nat_le, List, [], ◌∷◌, length, take, drop}
use Rattle.cd_edges.specs.declared.area.Area.{Area}
use Rattle.cd_edges.specs.Disk.{Store, Areas, Image}
use Rattle.cd_edges.specs.Shelf.{wrote, stable}
use Rattle.mem_disk.specs.declared.note.Note.{Note}
use Rattle.mem_disk.specs.declared.note.Note.TheVariants.{Wrote, Synced, Emptied, Crashed}
use Rattle.mem_disk.specs.Crashed.{same_area, crashed}

-- one thing that was done
pub data DiskStep : Type 0 where
  Write : (area : Area) (place : ℕ) (bytes : List ℕ) → DiskStep
  Sync : (area : Area) → DiskStep
  Empty : DiskStep
  Crash : (fill : ℕ) (whole : Bool) → DiskStep

-- what a note says, its bytes from the log of its area
abbrev pub meaning : Image → Note → DiskStep
meaning logs (Wrote area place start len) = Write area place (take len (drop start (logs area)))
meaning logs (Synced area) = Sync area
meaning logs Emptied = Empty
meaning logs (Crashed fill whole) = Crash fill whole

abbrev pub history : Image → List Note → List DiskStep
history logs [] = []
history logs (note ∷ notes) = meaning logs note ∷ history logs notes

-- the note's bytes lie in the log
abbrev pub lies : Image → Note → Bool
lies logs (Wrote area place start len) = nat_le (start + len) (length (logs area))
lies logs (Synced area) = true
lies logs Emptied = true
lies logs (Crashed fill whole) = true

abbrev pub all_lie : Image → List Note → Bool
all_lie logs [] = true
all_lie logs (note ∷ notes) = cond (lies logs note) (all_lie logs notes) false

-- one area is this, the others are as they were
abbrev pub with_area : Areas → Area → Store → Areas
with_area areas changed store area = cond (same_area changed area) store (areas area)

-- three areas that are empty and stable
abbrev pub nothing : Areas
nothing area = stable []

abbrev pub after : Areas → DiskStep → Areas
after areas (Write area place bytes) = with_area areas area (wrote (areas area) place bytes)
after areas (Sync area) = with_area areas area (stable (areas area).read)
after areas Empty = nothing
after areas (Crash fill whole) = λ area. stable (crashed fill whole (areas area))

-- the areas after all steps
abbrev pub now_of : Areas → List DiskStep → Areas
now_of areas [] = areas
now_of areas (step ∷ steps) = now_of (after areas step) steps

-- the areas before each of the steps
abbrev pub past_of : Areas → List DiskStep → List Areas
past_of areas [] = []
past_of areas (step ∷ steps) = areas ∷ past_of (after areas step) steps
