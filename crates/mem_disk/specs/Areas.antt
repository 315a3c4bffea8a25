-- Areas in memory.
use Rattle.std.specs.Prelude.{◌⊎◌, ℕ, ◌+◌, ◌-◌, ◌<◌, ◌≤◌, Bool, false, cond, nat_le, IsTrue, List, [], ◌∷◌, ◌++◌, length, replicate, vec_len}
use Rattle.cd_edges.specs.declared.area.Area.{Area}
use Rattle.cd_edges.specs.declared.area.Area.TheVariants.{Journal, Shares, Recipes}
use Rattle.mem_disk.specs.declared.area.MemArea.{MemArea}
use Rattle.mem_disk.specs.declared.areas.MemAreas.{MemAreas}

-- the first bytes, and behind zeros the second ones at their place, where there are any
abbrev pub joined : List ℕ → ℕ → List ℕ → List ℕ
joined first second [] = first
joined first second (byte ∷ bytes) = first ++ (replicate (second - length first) 0 ++ byte ∷ bytes)

-- what an area has
abbrev pub held : MemArea → List ℕ
held area = joined area.bytes.items area.second area.high.items

-- so many bytes at the place lie in one of the ranges
abbrev pub has_place : MemArea → ℕ → ℕ → Bool
has_place area at len = cond (nat_le (at + len) area.second) (nat_le (at + len) area.room) (cond (nat_le area.second at) (nat_le (at + len) (area.second + area.room)) false)

-- so many bytes fit at the place, and into the log
abbrev pub FitsArea : MemArea → ℕ → ℕ → Type 0
FitsArea area at len = IsTrue (has_place area at len) × (vec_len area.log + len ≤ area.room)

-- an end in one of the ranges, and not between them
abbrev pub EndsIn : MemArea → ℕ → Type 0
EndsIn area end = (end ≤ vec_len area.bytes) ⊎ (area.second < end)

-- a place in the first range, or at or behind the second one's
abbrev pub LiesInRanges : MemArea → ℕ → Type 0
LiesInRanges area place = (place < vec_len area.bytes) ⊎ (area.second ≤ place)

abbrev pub area_of : MemAreas → Area → MemArea
area_of areas Journal = areas.journal
area_of areas Shares = areas.shares
area_of areas Recipes = areas.recipes

abbrev pub held_of : MemAreas → Area → List ℕ
held_of areas area = held (area_of areas area)

-- what was put into it
abbrev pub log_of : MemAreas → Area → List ℕ
log_of areas area = (area_of areas area).log.items
