-- Marks of slots, none of which is set.
use Rattle.std.specs.Prelude.{◌≡◌, ℕ, Bool, false, List, length, slice_index_or}
use Rattle.cloud_disk.specs.JournalStart.Ranges.{most_owners}

-- as many slots as a memory may have for places
abbrev pub slots_limit : ℕ
slots_limit = most_owners

pub record AreAllUnmarked (marks : List Bool) : Type 0 where
  pub long : length marks ≡ slots_limit
  pub none : (slot : ℕ) → slice_index_or marks slot false ≡ false
