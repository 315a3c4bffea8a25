-- What a cloud's memory knows of an area that is told.
use Rattle.std.specs.Prelude.{◌≡◌, ℕ, Bool, true, cond, nat_le, nat_lt, IsTrue, length, vec_len}
use Rattle.cd_edges.specs.Disk.{Store}
use Rattle.mem_disk.specs.declared.area.MemArea.{MemArea}
use Rattle.mem_disk.specs.Areas.{held}
use Rattle.mem_disk.specs.Crashed.{is_in}

-- an end in one of the ranges, and not between them
abbrev pub is_end : MemArea → ℕ → Bool
is_end area place = cond (nat_le place (vec_len area.bytes)) true (nat_lt area.second place)

-- a place in the first range, or at or behind the second one's
abbrev pub is_apart : MemArea → ℕ → Bool
is_apart area place = cond (nat_lt place (vec_len area.bytes)) true (nat_le area.second place)

-- The area has what it reads; the mark is the length at the last sync, which ends in a range; and what was written since
-- lies in the ranges.
pub record IsTracked (area : MemArea) (mark : ℕ) (store : Store) : Type 0 where
  pub read : held area ≡ store.read
  pub synced : mark ≡ length store.synced
  pub ends : IsTrue (is_end area mark)
  pub covered : (k : ℕ) → IsTrue (is_in store.written k) → IsTrue (is_apart area k)
