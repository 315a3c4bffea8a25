-- What the records of a chain of format 1 leave in a server's memory, each read into it behind those before it.
use Rattle.std.specs.Prelude.{◌≡◌, ℕ, max, true, List, length}
use Rattle.journal_halves.specs.CdBase.shape.Shape.{Shape}
use Rattle.first_records.specs.RecordBody.Spelling.{Body}
use Rattle.record_laws.specs.SpentTable.Spent.{Spent as Row}
use Rattle.compact_memories.specs.UserDedup.command.Command.{Command}
use Rattle.compact_memories.specs.CloudAreas.Placing.{recipes_end}
use Rattle.compact_memories.specs.CloudMemory.Memory.{Memory}
use Rattle.compact_memories.specs.CloudMemory.Moving.{with_ends}
use Rattle.compact_memories.specs.CloudMemory.Steps.{begun}
use Rattle.record_laws.specs.Leaving.{record_left, left_by, IsLeft}

-- the memory of no commands, of so many users, where the start says that recipes end here
abbrev pub begun_behind : ℕ → ℕ → Memory
begun_behind users end = with_ends 0 end (begun users 0)

-- What one record more leaves where Recipes has these bytes. In format 1 nothing is spent, behind a checkpoint either.
abbrev pub first_left : Shape → List ℕ → Memory → Body → Memory
first_left shape area m body = record_left shape area true m body

-- and what several leave
abbrev pub first_left_by : Shape → List ℕ → Memory → List Body → Memory
first_left_by shape area m records = left_by shape area true m records

-- the memory with this table of what was spent, whose recipes end where those of the records do
abbrev pub filled : List Row → List Body → Memory → Memory
filled table records m = record {
  places = m.places;
  owners = m.owners;
  files = m.files;
  spent = table;
  shares_end = m.shares_end;
  recipes_end = recipes_end 0 records;
}

-- The memory is that of a list, as these records of format 1 leave it where the start says that recipes end here. It has no numbers of what
-- was spent: by some table of them it is as the records of a later format would leave it. Its own recipes end no earlier than the start says.
pub record IsLeftOne (shape : Shape) (area : List ℕ) (end : ℕ) (list : List Command) (records : List Body) (m : Memory) : Type 0 where
  pub table : List Row
  pub left : IsLeft shape area (length table) 0 list records (filled table records m)
  pub recipes : m.recipes_end ≡ max end (recipes_end 0 records)
