-- What stands above a server names these, and uses them through laws alone (`laws`).
use Rattle.std.specs.Prelude.{ℕ}
use Rattle.server_requests.specs.CdBase.shape.Shape.{Shape}
use Rattle.server_requests.specs.CdEdges.area.Area.TheVariants.{Journal}
use Rattle.server_requests.specs.CdEdges.Disk.{Image}
use Rattle.blob_copy.specs.JournalHalves.Beginnings.{IsUnbegun}
use Rattle.server_requests.specs.JournalStart.rooms.UserRooms.{UserRooms}
use Rattle.server_requests.specs.JournalStart.start.Header.{Header}

-- the header of the cloud of this number in a store of this shape, in these rooms
abbrev pub header_of : Shape → UserRooms → ℕ → Header
header_of shape rooms number = record { format = 2; shape = shape; cloud = record { 0 = number }; rooms = rooms }

-- no half of the journal is begun in these areas
abbrev pub HasNoJournal : Image → Type 0
HasNoJournal image = IsUnbegun (image Journal)
