-- A cloud that is opened in the rooms that its journal has, with nothing begun.
use Rattle.std.specs.Prelude.{◌≡◌, ℕ, false, IsTrue, List, Ok}
use Rattle.backup_command.specs.CdBase.ids.CloudNo.{CloudNo}
use Rattle.backup_command.specs.CdBase.shape.Shape.{Shape}
use Rattle.backup_command.specs.CdEdges.area.Area.TheVariants.{Journal}
use Rattle.backup_command.specs.CdEdges.Disk.{Cloud, reads}
use Rattle.backup_command.specs.CdEdges.Shelf.{HasFailed, KeepsCounts, Stays}
use Rattle.cloud_opening.specs.CloudAreas.Standing.{StandsFor}
use Rattle.serve_command.specs.CloudMemory.Memory.{Memory, Remembers}
use Rattle.serve_command.specs.ShareServer.Names.{header_of}
use Rattle.serve_command.specs.ShareServer.Openings.{NotBegunIs, OpensTo, OtherStoreIs}
use Rattle.serve_command.specs.ShareServer.Serving.{an_error, some_commands}
use Rattle.serve_command.specs.CloudOpening.Exact.{Opens}
use Rattle.serve_command.specs.CloudOpening.Spared.{IsOkOrFault, Spares}
use Rattle.cloud_opening.specs.CommitJournal.errors.OpenErr.{OpenErr}
use Rattle.cloud_opening.specs.CommitJournal.Openings.{OnFault}
use Rattle.cloud_opening.specs.JournalHalves.Beginnings.{IsUnbegun}
use Rattle.cloud_opening.specs.JournalStart.rooms.UserRooms.{UserRooms}
use Rattle.cloud_opening.specs.JournalStart.start.Header.{Header}
use Rattle.cloud_opening.specs.JournalStart.Ranges.{AreRooms}
use Rattle.serve_command.specs.Served.{HasJournalRooms, IsUnreadable}
use Rattle.cloud_opening.specs.UserDedup.command.Command.{Command}
use Rattle.cloud_opening.specs.UserDedup.Spending.{IsWithin}

-- a cloud of a store, before and after, with the shelf's count of faults in all
pub record CloudCall : Type 0 where
  pub shape : Shape
  pub cloud : CloudNo
  pub old : Cloud
  pub new : Cloud
  pub total_before : ℕ
  pub total_after : ℕ

abbrev pub cloud_call : Shape → CloudNo → Cloud → Cloud → ℕ → ℕ → CloudCall
cloud_call shape cloud old new total total_after = record {
  shape = shape;
  cloud = cloud;
  old = old;
  new = new;
  total_before = total;
  total_after = total_after;
}

-- the header of the cloud's journal in these rooms
abbrev pub header_within : UserRooms → CloudCall → Header
header_within rooms call = header_of call.shape rooms call.cloud.0

-- what the cloud's journal reads before
abbrev pub journal_of : CloudCall → List ℕ
journal_of call = (call.old.now Journal).read

-- its count of faults rose
abbrev pub CloudFails : CloudCall → Type 0
CloudFails call = HasFailed call.old call.new call.total_before call.total_after

-- no count rose
abbrev pub IsUnfailing : CloudCall → Type 0
IsUnfailing call = KeepsCounts call.old call.new call.total_before call.total_after

-- Nothing of the cloud changed.
pub record IsUnchanged (call : CloudCall) : Type 0 where
  pub cloud_is : call.new ≡ call.old
  pub total : call.total_after ≡ call.total_before

-- The cloud is told and begun, and stands for a list within these rooms, which are its own.
pub record StandsWithin (call : CloudCall) (rooms : UserRooms) (list : List Command) : Type 0 where
  pub told : IsTrue call.old.told
  pub begun : ¬ (IsUnbegun (journal_of call))
  pub stands : StandsFor (reads call.old.now) (header_within rooms call) list
  pub within : IsWithin call.shape rooms list

-- ---- a cloud that isn't opened

-- In allowed rooms, which are those that a told cloud's journal has, the opening ended with this error. On a told cloud it is what
-- the bytes of the areas come to, record by record, unless a device call failed; and the areas are spared, whatever they hold.
pub record IsShut (rooms : UserRooms) (call : CloudCall) (error : OpenErr) : Type 0 where
  pub allowed : AreRooms rooms
  pub found : IsTrue call.old.told → HasJournalRooms (journal_of call) rooms
  pub exact : IsTrue call.old.told → OnFault (an_error error) (Unit {0})
      (OpensTo (header_within rooms call) false (reads call.old.now) (an_error error))
  pub not_begun : IsTrue call.old.told → NotBegunIs call.old call.new false (an_error error)
  pub other_store : IsTrue call.old.told → OtherStoreIs (journal_of call) (header_within rooms call) (an_error error)
  pub whole : (own : UserRooms) (list : List Command) → StandsWithin call own list → IsOkOrFault (an_error error)
  pub spared : IsTrue call.old.told → Spares (header_within rooms call) false call.old call.new (an_error error)
  pub counts : OnFault (an_error error) (CloudFails call) (IsUnfailing call)

-- No rooms were found, and the areas stay; or the cloud was to be opened in rooms.
pub data IsNotOpened (call : CloudCall) (error : OpenErr) : Type 0 where
  NoRooms : IsUnreadable call.old error → Stays call.old call.new
      → OnFault (an_error error) (CloudFails call) (IsUnfailing call)
      → IsNotOpened call error
  InRooms : (rooms : UserRooms) → IsShut rooms call error → IsNotOpened call error

-- ---- a cloud that is opened

-- In allowed rooms, which are those that a told cloud's journal has, the cloud was opened, and then only read: this is what its
-- records leave in memory. A told cloud is spared: its areas are synced, and read as before. Where it stands for a list within rooms, these
-- are the rooms, and the memory is the list's.
pub record IsOpenedIn (rooms : UserRooms) (memory : Memory) (call : CloudCall) : Type 0 where
  pub allowed : AreRooms rooms
  pub found : IsTrue call.old.told → HasJournalRooms (journal_of call) rooms
  pub commands : ℕ
  pub exact : IsTrue call.old.told → Opens (header_within rooms call) false (reads call.old.now) memory (Ok commands)
  pub begun : IsTrue call.old.told → ¬ (IsUnbegun (journal_of call))
  pub spared : IsTrue call.old.told → Spares (header_within rooms call) false call.old call.new (some_commands commands)
  pub own_rooms : (own : UserRooms) (list : List Command) → StandsWithin call own list → own ≡ rooms
  pub of_list : (own : UserRooms) (list : List Command) → StandsWithin call own list → Remembers call.shape list memory
