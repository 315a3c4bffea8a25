-- What an opening comes to, by the server that is open then.
use Rattle.std.specs.Prelude.{◌≡◌, List, Result, Ok, Err}
use Rattle.cloud_opening.specs.JournalStart.rooms.UserRooms.{UserRooms}
use Rattle.serve_command.specs.CloudMemory.Rooms.{memory_of}
use Rattle.serve_command.specs.ShareServer.Serving.{IsServing, settled_with}
use Rattle.serve_command.specs.ShareServer.server.Server.{Server}
use Rattle.serve_command.specs.CloudStore.Store.{IsOpen}
use Rattle.cloud_opening.specs.UserDedup.command.Command.{Command}
use Rattle.command_cloud.specs.declared.opening.Unopened.{Unopened}
use Rattle.command_cloud.specs.declared.opening.Unopened.TheVariants as unopened
use Rattle.command_cloud.specs.Opened.{CloudCall, IsNotOpened, IsOpenedIn, IsShut, IsUnchanged, IsUnfailing, StandsWithin, header_within}

-- The server is open in these rooms, and serves each list that the cloud stands for.
pub record OpenedBy (rooms : UserRooms) (server : Server) (call : CloudCall) : Type 0 where
  pub header_is : server.store.header ≡ header_within rooms call
  pub at_end : IsOpen server.store
  pub opened : IsOpenedIn rooms (memory_of server.store.memory) call
  pub served : (own : UserRooms) (list : List Command) → StandsWithin call own list
      → IsServing server call.new (settled_with list call.new)
  pub still : IsUnfailing call

-- what an opening in rooms comes to
abbrev pub OpensIn : UserRooms → CloudCall → Result Server Unopened → Type 0
OpensIn rooms call (Ok server) = OpenedBy rooms server call
OpensIn rooms call (Err unopened.NoMemory) = IsUnchanged call
OpensIn rooms call (Err (unopened.Refused error)) = IsShut rooms call error

-- what an opening comes to, whose rooms are found first
abbrev pub OpensCloud : CloudCall → Result Server Unopened → Type 0
OpensCloud call (Ok server) = (rooms : UserRooms) × OpenedBy rooms server call
OpensCloud call (Err unopened.NoMemory) = IsUnchanged call
OpensCloud call (Err (unopened.Refused error)) = IsNotOpened call error
