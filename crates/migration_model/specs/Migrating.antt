-- A cloud of format 1 that is migrated: what it stands for before, meanwhile and then; and which user keeps too much.
use Rattle.std.specs.Prelude.{◌≡◌, ◌⊎◌, ◌≢◌, ◌<◌, ◌-◌, ◌≤◌, ℕ, List, Option, Some, None, IsTrue}
use Rattle.compact_lists.specs.CdBase.ids.CloudNo.{CloudNo}
use Rattle.compact_lists.specs.CdBase.ids.UserId.{UserId}
use Rattle.compact_lists.specs.CdBase.shape.Shape.{Shape}
use Rattle.fresh_checkpoints.specs.CdEdges.area.Area.TheVariants.{Journal}
use Rattle.fresh_checkpoints.specs.CdEdges.Disk.{Image, Cloud, IsImage, LeavesOnly}
use Rattle.fresh_checkpoints.specs.JournalHalves.Beginnings.{IsUnbegun}
use Rattle.fresh_checkpoints.specs.JournalHalves.Halves.{HasStart}
use Rattle.compact_lists.specs.JournalStart.rooms.UserRooms.{UserRooms}
use Rattle.compact_lists.specs.JournalStart.start.Header.{Header}
use Rattle.compact_lists.specs.JournalStart.start.Start.{Start}
use Rattle.compact_lists.specs.JournalStart.Ranges.{usual_rooms}
use Rattle.compact_lists.specs.UserDedup.Dedup.{FullRoom}
use Rattle.compact_lists.specs.UserDedup.command.Command.{Command}
use Rattle.compact_lists.specs.UserDedup.Cloud.{counted}
use Rattle.compact_lists.specs.UserDedup.Compact.{compact}
use Rattle.fresh_checkpoints.specs.CloudAreas.FormatOne.{HasListOne, StandsForOne, IsWithinGreatest, too_large_for}
use Rattle.fresh_checkpoints.specs.CloudAreas.Standing.{StandsFor}
use Rattle.fresh_checkpoints.specs.Switching.{IsMigrating}

-- the header that format 1 has of a cloud, and that of format 2 with these rooms
abbrev pub header_one : Shape → CloudNo → Header
header_one shape cloud = record { format = 1; shape = shape; cloud = cloud; rooms = usual_rooms }

abbrev pub header_two : Shape → CloudNo → UserRooms → Header
header_two shape cloud rooms = record { format = 2; shape = shape; cloud = cloud; rooms = rooms }

-- Some half is begun, and each has a start with this header.
pub record IsBegunWith (journal : List ℕ) (header : Header) : Type 0 where
  pub begun : ¬ IsUnbegun journal
  pub each : (half : ℕ) (start : Start) → HasStart journal half start → start.header ≡ header

-- The areas stand for the list in format 1, and are begun.
pub record IsBegunOne (header : Header) (list : List Command) (image : Image) : Type 0 where
  pub stands : StandsForOne image header list
  pub begun : IsBegunWith (image Journal) header

-- each image that a crash may leave now does
abbrev pub EachBegunOne : Header → List Command → Cloud → Type 0
EachBegunOne header list cloud = (image : Image) → IsImage cloud.now image → IsBegunOne header list image

-- The list is one that a migration has to take: the cloud's images stand for it, and it kept within the rooms that format 1 had.
pub record MayBeMigrated (shape : Shape) (cloud_no : CloudNo) (list : List Command) (cloud : Cloud) : Type 0 where
  pub told : IsTrue cloud.told
  pub each : EachBegunOne (header_one shape cloud_no) list cloud
  pub within : IsWithinGreatest shape list

-- the image stands for the list in format 1, or for what is kept of it in format 2
abbrev pub IsBetween : Shape → CloudNo → UserRooms → List Command → Image → Type 0
IsBetween shape cloud rooms list = IsMigrating (header_one shape cloud) list (header_two shape cloud rooms) (compact shape list)

-- Each image that a crash may leave now stands for what is kept of the list, which has so many commands.
pub record IsMigrated (shape : Shape) (cloud_no : CloudNo) (rooms : UserRooms) (list : List Command) (commands : ℕ) (cloud : Cloud) : Type 0 where
  pub number : commands ≡ counted (compact shape list)
  pub each : (image : Image) → IsImage cloud.now image → StandsFor image (header_two shape cloud_no rooms) (compact shape list)

-- ---- too large

-- No user keeps more than it may.
abbrev pub AreSmallEnough : Shape → UserRooms → List Command → Type 0
AreSmallEnough shape rooms list = (user : UserId) → too_large_for shape rooms list user ≡ None

-- The user is the least one that keeps more than it may, and this is its first room.
pub record IsTooLarge (shape : Shape) (rooms : UserRooms) (list : List Command) (user : UserId) (full : FullRoom) : Type 0 where
  pub here : too_large_for shape rooms list user ≡ Some full
  pub before : (other : UserId) → other.0 < user.0 → too_large_for shape rooms list other ≡ None
