-- Counts, and the calls that fail by their numbers.
use Rattle.std.specs.Prelude.{ℕ, ◌+◌, ◌-◌, ◌^◌, min, Bool, List, ◌==◌, ◌&&◌}
use Rattle.std.specs.List.{list_any}
use Rattle.mem_disk.specs.CdBase.ids.CloudNo.{CloudNo}

-- one more, but for the last value, that of a u64
abbrev pub counted_up : ℕ → ℕ
counted_up n = min (n + 1) (2 ^ 64 - 1)

-- the call of this number on this cloud is one of those that fail
abbrev pub is_named : List (CloudNo × ℕ) → ℕ → ℕ → Bool
is_named fails number call = list_any (λ entry. (entry.0.0 == number) && (entry.1 == call)) fails
