-- What a crash makes of an area in memory.
use Rattle.std.specs.Prelude.{ℕ, suc, ◌+◌, Bool, true, false, cond, nat_le, nat_lt, List, [], ◌∷◌, length, take}
use Rattle.cd_edges.specs.declared.area.Area.{Area}
use Rattle.cd_edges.specs.declared.area.Area.TheVariants.{Journal, Shares, Recipes}
use Rattle.cd_edges.specs.Disk.{Store}
use Rattle.mem_disk.specs.declared.note.Note.{Note}
use Rattle.mem_disk.specs.declared.note.Note.TheVariants.{Wrote, Synced, Emptied, Crashed}

-- the place is in one of the ranges
abbrev pub is_in : List (ℕ × ℕ) → ℕ → Bool
is_in [] place = false
is_in (range ∷ ranges) place = cond (cond (nat_le range.0 place) (nat_lt place range.1) false) true (is_in ranges place)

-- the bytes from that place on, with this one wherever the place is in one of the ranges
abbrev pub filled_from : ℕ → ℕ → List (ℕ × ℕ) → List ℕ → List ℕ
filled_from place fill ranges [] = []
filled_from place fill ranges (byte ∷ bytes) = cond (is_in ranges place) fill byte ∷ filled_from (suc place) fill ranges bytes

-- bytes with this one in each of the ranges, and without those from that length on, but for whole
abbrev pub left_by : ℕ → Bool → List (ℕ × ℕ) → ℕ → List ℕ → List ℕ
left_by fill whole ranges len bytes = cond whole (filled_from 0 fill ranges bytes) (take len (filled_from 0 fill ranges bytes))

-- what is read, with this byte wherever one was written since the last sync
abbrev pub refilled : ℕ → Store → List ℕ
refilled fill store = filled_from 0 fill store.written store.read

-- and what lies past the synced length stays or goes
abbrev pub crashed : ℕ → Bool → Store → List ℕ
crashed fill whole store = left_by fill whole store.written (length store.synced) store.read

abbrev pub same_area : Area → Area → Bool
same_area Journal Journal = true
same_area Shares Shares = true
same_area Recipes Recipes = true
same_area one other = false

-- the ranges that were written into the area since the last sync, after one note more
abbrev pub with_note : Area → List (ℕ × ℕ) → Note → List (ℕ × ℕ)
with_note area ranges (Wrote changed place start len) = cond (same_area changed area) ((place, place + len) ∷ ranges) ranges
with_note area ranges (Synced changed) = cond (same_area changed area) [] ranges
with_note area ranges Emptied = []
with_note area ranges (Crashed fill whole) = []

abbrev pub ranges_in : Area → List (ℕ × ℕ) → List Note → List (ℕ × ℕ)
ranges_in area ranges [] = ranges
ranges_in area ranges (note ∷ notes) = ranges_in area (with_note area ranges note) notes
