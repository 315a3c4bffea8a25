-- Which lists a store of format 1 may hold, and what the first records of a chain leave.
use Rattle.std.specs.Prelude.{◌≡◌, ℕ, List}
use Rattle.journal_halves.specs.CdEdges.area.Area.TheVariants.{Recipes}
use Rattle.journal_halves.specs.CdEdges.Disk.{Image}
use Rattle.journal_halves.specs.JournalStart.start.Header.{Header}
use Rattle.journal_halves.specs.JournalStart.Spelling.{recipes_end_of}
use Rattle.first_records.specs.RecordBody.Spelling.{Body}
use Rattle.compact_memories.specs.UserDedup.command.Command.{Command}
use Rattle.compact_memories.specs.UserDedup.Dedup.{IsSound}
use Rattle.compact_memories.specs.CloudAreas.FormatOne.{IsWithinGreatest}
use Rattle.compact_memories.specs.CloudAreas.Standing.{Chain}
use Rattle.compact_memories.specs.CloudMemory.Memory.{Memory}
use Rattle.first_laws.specs.Leaving.{begun_behind, first_left_by}

-- A store of format 1 with this header may hold the list: it is a sound list of the header's cloud, within the greatest rooms.
pub record MayHoldOne (header : Header) (list : List Command) : Type 0 where
  pub format : header.format ≡ 1
  pub sound : IsSound header.shape header.cloud.0 list
  pub within : IsWithinGreatest header.shape list

-- what some records leave, the first ones of a chain of the image
abbrev pub front_left_one : Header → Image → ℕ → Chain → List Body → Memory
front_left_one header image users c records =
    first_left_by header.shape (image Recipes) (begun_behind users (recipes_end_of c.start.checkpoint)) records
