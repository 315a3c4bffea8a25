-- Areas without a journal stand for no commands, which are within any rooms.
use Rattle.std.proofs.Common.{◌≡◌, [], inr, refl, ap}
use Rattle.server_requests.specs.CdBase.shape.Shape.{Shape}
use Rattle.server_requests.specs.CdEdges.area.Area.{Area}
use Rattle.server_requests.specs.CdEdges.area.Area.TheVariants.{Journal}
use Rattle.server_requests.specs.CdEdges.Disk.{Image}
use Rattle.blob_copy.specs.JournalHalves.Halves.{is_half_begun}
use Rattle.server_requests.specs.JournalStart.rooms.UserRooms.{UserRooms}
use Rattle.server_requests.specs.JournalStart.start.Header.{Header}
use Rattle.server_requests.specs.UserDedup.Dedup.{Begun}
use Rattle.server_requests.specs.UserDedup.Spending.{IsWithin}
use Rattle.server_requests.proofs.UserDedup.Spending as spending
use Rattle.blob_copy.specs.CloudAreas.Standing.{StandsFor}
use Rattle.share_server.specs.Names.{HasNoJournal}

pub unbegun : (image : Image) → ((area : Area) → image area ≡ []) → HasNoJournal image
unbegun image empty = record { first = ap (is_half_begun 0) (empty Journal); second = ap (is_half_begun 1) (empty Journal) }

pub unbegun_stands : (image : Image) (header : Header) → HasNoJournal image → StandsFor image header []
unfolding StandsFor
unbegun_stands image header none = (Begun, inr (none, refl))

pub empty_stands : (image : Image) (header : Header) → ((area : Area) → image area ≡ []) → StandsFor image header []
empty_stands image header empty = unbegun_stands image header (unbegun image empty)

pub none_within : (shape : Shape) (rooms : UserRooms) → IsWithin shape rooms []
none_within shape rooms = spending.none_within shape rooms
