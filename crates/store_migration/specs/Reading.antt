-- What stands after a journal of format 1 was read.
use Rattle.std.specs.Prelude.{List}
use Rattle.cd_base.specs.Limits.{greatest_rooms}
use Rattle.fresh_checkpoints.specs.CdBase.ids.CloudNo.{CloudNo}
use Rattle.fresh_checkpoints.specs.CdBase.shape.Shape.{Shape}
use Rattle.fresh_checkpoints.specs.CdEdges.area.Area.TheVariants.{Shares, Recipes}
use Rattle.fresh_checkpoints.specs.CdEdges.Disk.{Cloud, reads}
use Rattle.cloud_opening.specs.JournalStart.Spelling.{recipes_end_of}
use Rattle.cloud_opening.specs.SpentTable.Spent.{Spent as Row}
use Rattle.cloud_opening.specs.CommitJournal.States as journals
use Rattle.cloud_opening.specs.UserDedup.command.Command.{Command}
use Rattle.fresh_checkpoints.specs.CloudAreas.Standing.{Chain}
use Rattle.fresh_checkpoints.specs.CloudMemory.Memory.{Memory, Remembers, Stand}
use Rattle.fresh_checkpoints.specs.CompactMemories.Moved.{PlacesLie}
use Rattle.fresh_checkpoints.specs.CompactMemories.Tables.{with_table}
use Rattle.first_laws.specs.Leaving.{IsLeftOne}
use Rattle.fresh_checkpoints.specs.Switching.{IsReadOne}
use Rattle.large_users.specs.MigrationModel.Migrating.{header_one}

-- All is on the disk, and the journal was read to its end, whose chain of format 1 holds the list. The memory is the list's, by some table of
-- what was spent; each string and recipe stands where it says, in region 0, apart, below the greatest rooms that format 1 had.
pub record IsReadFirst (shape : Shape) (cloud_no : CloudNo) (list : List Command) (journal : journals.JournalState) (m : Memory) (cloud : Cloud) : Type 0 where
  pub c : Chain
  pub read : IsReadOne (header_one shape cloud_no) list c journal cloud
  pub left : IsLeftOne shape (reads cloud.now Recipes) (recipes_end_of c.start.checkpoint) list c.records m
  pub table : List Row
  pub remembers : Remembers shape list (with_table table m)
  pub stand : Stand shape (reads cloud.now Shares) (reads cloud.now Recipes) list m
  pub lie : PlacesLie 0 greatest_rooms.shares greatest_rooms.recipes m
