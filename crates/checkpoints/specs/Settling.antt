-- A checkpoint that takes the place of a chain, and the list that both say.
use Rattle.std.specs.Prelude.{ℕ, ◌-◌, ◌≤◌, List, All}
use Rattle.cloud_disk.specs.CdEdges.area.Area.TheVariants.{Journal}
use Rattle.cloud_disk.specs.CdEdges.Disk.{Cloud, LeavesOnly, IsAtArea, reads}
use Rattle.cloud_memory.specs.ContainerLog.Laying.{Placed}
use Rattle.cloud_disk.specs.JournalStart.start.Header.{Header}
use Rattle.cloud_disk.specs.JournalHalves.Halves.{half_limit}
use Rattle.cloud_disk.specs.JournalHalves.Journals.{used_by}
use Rattle.cloud_disk.specs.CommitJournal.States.{next_start}
use Rattle.cloud_memory.specs.RecordBody.Spelling.{Body, FitsBody}
use Rattle.cloud_memory.specs.UserDedup.command.Command.{Command}
use Rattle.cloud_disk.specs.CloudAreas.Placing.{region_start, greatest_end, shares_in, recipes_in, places_of}
use Rattle.cloud_disk.specs.CloudAreas.Standing.{Chain, where_of, region_in, Holds, StandsFor}
use Rattle.cloud_disk.specs.Disk.{Disk, IsOn}

-- the chain of a checkpoint of these records, and of the recipes that they place, behind another chain
abbrev pub checkpoint_of : Chain → Header → ℕ → ℕ → ℕ → List Body → List Placed → Chain
checkpoint_of c header commands count region bodies recipes = record {
  half = 1 - c.half;
  start = next_start c.start header commands count region;
  records = bodies;
  recipes = recipes;
}

-- The disk stands for the list by one chain, and another one holds the same list in the areas as they are: it has room in its half, and what
-- it places lies before the ends of the logs.
pub record IsSummed (header : Header) (list : List Command) (c next : Chain) (disk : Disk) (cloud : Cloud) : Type 0 where
  pub on : IsOn header list c disk cloud
  pub holds : Holds header (reads cloud.now) list next
  pub fit : All FitsBody next.records
  pub within : used_by (where_of next) ≤ half_limit header.rooms
  pub shares : greatest_end (region_start (region_in next)) (places_of (shares_in next.records)) ≤ disk.shares.end
  pub recipes : greatest_end (region_start (region_in next)) (recipes_in next.records) ≤ disk.recipes.end

-- each image since stands for the list
abbrev pub KeepsList : Header → List Command → Cloud → Cloud → Type 0
KeepsList header list old new = LeavesOnly old new (λ image. StandsFor image header list)

-- each image since has all areas but the journal as they might have been left before
abbrev pub KeepsOthers : Cloud → Cloud → Type 0
KeepsOthers old new = LeavesOnly old new (IsAtArea old.now Journal (λ bytes. Unit {0}))
