-- When a replay answers 0, or runs out of memory: a script within the limits, clouds that are empty and told, and
-- nothing that fails.
use Rattle.std.specs.Prelude.{◌≡◌, ℕ, ◌<◌, List, Some, IsTrue}
pub use Rattle.migrate_command.specs.ServeCommand.Complete.{IsStill}
use Rattle.command_words.specs.CdBase.shape.Shape.{Shape}
use Rattle.command_words.specs.JournalStart.rooms.UserRooms.{UserRooms}
use Rattle.delete_command.specs.CdEdges.area.Area.{Area}
use Rattle.delete_command.specs.CdEdges.Disk.{Cloud}
use Rattle.two_worlds.specs.Session.event.Event.{Event}
use Rattle.two_worlds.specs.Session.Scripts.{ScriptPlace, Reaches, IsEnd}
use Rattle.generated_session.specs.ReplayCore.Opening.{IsEmptyAt}
use Rattle.script_replay.specs.Endings.{ReplayCall}

-- the bytes are a script for clouds of this shape, to its last line
pub record IsScript (script : List ℕ) (shape : Shape) : Type 0 where
  pub rooms : UserRooms
  pub events : List Event
  pub place : ScriptPlace
  pub reaches : Reaches script shape rooms events place
  pub ends : IsEnd place

abbrev pub IsNewCloud : Cloud → Type 0
IsNewCloud cloud = IsTrue cloud.told × ((area : Area) → IsEmptyAt cloud area)

-- Nothing fails in the call: the source has a script, its clouds are new, and no count rises.
pub record IsReplayUnhindered (call : ReplayCall) : Type 0 where
  pub script : List ℕ
  pub shape : Shape
  pub has : call.script ≡ Some script
  pub is_script : IsScript script shape
  pub clouds : (cloud : ℕ) → cloud < shape.n → IsNewCloud (call.old cloud)
  pub counts : (cloud : ℕ) → cloud < shape.n → IsStill (call.old cloud).faults (call.new cloud).faults
  pub total : IsStill call.total_before call.total_after
  pub source : IsStill call.source_before call.source_after
  pub sink : IsStill call.sink_before call.sink_after
