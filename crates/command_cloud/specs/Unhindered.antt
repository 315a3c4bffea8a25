-- A call over one cloud in which nothing fails.
use Rattle.std.specs.Prelude.{◌≡◌, List}
use Rattle.backup_command.specs.Writing.{Output}
use Rattle.cloud_opening.specs.JournalStart.rooms.UserRooms.{UserRooms}
use Rattle.serve_command.specs.Complete.{IsStill}
use Rattle.cloud_opening.specs.UserDedup.command.Command.{Command}
use Rattle.command_cloud.specs.Opened.{CloudCall, StandsWithin}

-- Nothing fails in the call: the cloud stands for a list within rooms of its own, and no count rises.
pub record IsOpeningUnhindered (call : CloudCall) (out : Output) : Type 0 where
  pub rooms : UserRooms
  pub list : List Command
  pub stands : StandsWithin call rooms list
  pub cloud : IsStill call.old.faults call.new.faults
  pub total : call.total_after ≡ call.total_before
  pub sink : IsStill out.faults_before out.faults_after
