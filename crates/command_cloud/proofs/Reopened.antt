-- A cloud that is opened in rooms, and what comes of it.
use Rattle.std.proofs.Common.{◌≡◌, ◌⊎◌, inl, inr, ℕ, true, false, IsTrue, List, Result, Ok, Err, sym, ◌∙◌, ap, subst}
use Rattle.std.specs.Prelude.{IfOk, OnOk}
use Rattle.backup_command.specs.CdBase.ids.CloudNo.{CloudNo}
use Rattle.backup_command.specs.CdBase.shape.Shape.{Shape}
use Rattle.backup_command.specs.CdEdges.area.Area.TheVariants.{Journal}
use Rattle.backup_command.specs.CdEdges.Disk.{Cloud, reads}
use Rattle.backup_command.specs.CdEdges.Shelf.{IsCall, HasFailed, KeepsCounts, Stays}
use Rattle.cloud_opening.specs.CloudAreas.Standing.{StandsFor}
use Rattle.serve_command.specs.CloudMemory.Memory.{Remembers}
use Rattle.serve_command.specs.CloudMemory.Rooms.{memory_of}
use Rattle.serve_command.specs.CloudStore.Store.{IsOpen}
use Rattle.serve_command.specs.ShareServer.Openings.{NotBegunIs, OtherStoreIs}
use Rattle.serve_command.specs.ShareServer.Serving.{IsServing, an_error, settled_with}
use Rattle.serve_command.specs.CloudOpening.Exact.{Opens}
use Rattle.serve_command.specs.CloudOpening.Spared.{IsOkOrFault, MayBegin, Spares}
use Rattle.serve_command.specs.ShareServer.server.Server.{Server}
use Rattle.cloud_opening.specs.CommitJournal.errors.OpenErr.{OpenErr}
use Rattle.cloud_opening.specs.CommitJournal.errors.OpenErr.TheVariants as errors
use Rattle.cloud_opening.specs.CommitJournal.Openings.{OnFault}
use Rattle.cloud_opening.specs.JournalHalves.Beginnings.{IsUnbegun}
use Rattle.cloud_opening.specs.JournalStart.rooms.UserRooms.{UserRooms}
use Rattle.cloud_opening.specs.JournalStart.start.Header.{Header}
use Rattle.cloud_opening.specs.JournalStart.Ranges.{AreRooms}
use Rattle.serve_command.specs.Served.{HasJournalRooms, IsUnreadable}
use Rattle.serve_command.proofs.Openings.{comes_to}
use Rattle.serve_command.proofs.Completing.{OneHeader}
use Rattle.serve_command.proofs.InRooms.{no_rooms}
use Rattle.cloud_opening.specs.UserDedup.command.Command.{Command}
use Rattle.cloud_opening.specs.UserDedup.Cloud.{counted}
use Rattle.cloud_opening.specs.UserDedup.Spending.{IsWithin}
use Rattle.command_cloud.specs.declared.opening.Unopened.{Unopened}
use Rattle.command_cloud.specs.declared.opening.Unopened.TheVariants as unopened
use Rattle.command_cloud.specs.Opened.{CloudCall, IsShut, IsNotOpened, NoRooms, InRooms, StandsWithin, cloud_call, header_within}
use Rattle.command_cloud.specs.Opens.{OpenedBy, OpensIn, OpensCloud}

-- What an opening says that begins nothing, by a header.
pub record Reopened (header : Header) (server : Server) (old new : ℕ → Cloud) (before now : ℕ) (result : Result ℕ OpenErr)
    : Type 0 where
  pub header_is : server.store.header ≡ header
  pub at_end : OnOk result (IsOpen server.store)
  pub loaded : IsTrue (old header.cloud.0).told → (list : List Command)
      → StandsFor (reads (old header.cloud.0).now) header list → IsWithin header.shape header.rooms list
      → IfOk result (λ commands. (commands ≡ counted list)
      × IsServing server (new header.cloud.0) (settled_with list (new header.cloud.0)))
  pub whole : IsTrue (old header.cloud.0).told → (list : List Command)
      → StandsFor (reads (old header.cloud.0).now) header list → IsWithin header.shape header.rooms list
      → MayBegin ((old header.cloud.0).now Journal).read false → IsOkOrFault result
  pub not_begun : IsTrue (old header.cloud.0).told → NotBegunIs (old header.cloud.0) (new header.cloud.0) false result
  pub other_store : IsTrue (old header.cloud.0).told → OtherStoreIs ((old header.cloud.0).now Journal).read header result
  pub exact : IsTrue (old header.cloud.0).told → OnFault result (Unit {0})
      (Opens header false (reads (old header.cloud.0).now) (memory_of server.store.memory) result)
  pub areas : IsTrue (old header.cloud.0).told → Spares header false (old header.cloud.0) (new header.cloud.0) result
  pub counts : OnFault result (HasFailed (old header.cloud.0) (new header.cloud.0) before now)
      (KeepsCounts (old header.cloud.0) (new header.cloud.0) before now)

-- the same by another header and another result, which are these
pub reopened : (made header : Header) (server : Server) (old new : ℕ → Cloud) (before now : ℕ) (result answer : Result ℕ OpenErr)
    → made ≡ header → result ≡ answer → Reopened made server old new before now result
    → Reopened header server old new before now answer
reopened made header server old new before now result answer of is raw =
    subst (λ (r : Result ℕ OpenErr). Reopened header server old new before now r) is
    (subst (λ (h : Header). Reopened h server old new before now result) of raw)

module _ (one : OneHeader) (shape : Shape) (rooms : UserRooms) (cloud : CloudNo) (server : Server) (old new : ℕ → Cloud) (before now : ℕ)
    (allowed : AreRooms rooms)
    (found : IsTrue (old cloud.0).told → HasJournalRooms ((old cloud.0).now Journal).read rooms) where
  abbrev asked : CloudCall
  asked = cloud_call shape cloud (old cloud.0) (new cloud.0) before now

  -- rooms in which the areas stand for a list are those that the journal has
  same_rooms : (own : UserRooms) (list : List Command) → StandsWithin asked own list → own ≡ rooms
  same_rooms own list s = elim (found s.told) [
    | inl none ↦ absurd (s.begun none.0)
    | inr has ↦ sym (has.3 ∙ ap (λ (h : Header). h.rooms)
        (one (reads (old cloud.0).now) (header_within own asked) list has.0 has.1 s.stands s.begun has.2))
  ]

  stands_in : (own : UserRooms) (list : List Command) → StandsWithin asked own list
      → StandsFor (reads (old cloud.0).now) (header_within rooms asked) list
  stands_in own list s = subst (λ (r : UserRooms). StandsFor (reads (old cloud.0).now) (header_within r asked) list) (same_rooms own list s) s.stands

  within_in : (own : UserRooms) (list : List Command) → StandsWithin asked own list → IsWithin shape rooms list
  within_in own list s = subst (λ (r : UserRooms). IsWithin shape r list) (same_rooms own list s) s.within

  -- ---- it is opened

  module _ (commands : ℕ) (r : Reopened (header_within rooms asked) server old new before now (Ok commands)) where
    serving : (own : UserRooms) (list : List Command) → StandsWithin asked own list
        → IsServing server (new cloud.0) (settled_with list (new cloud.0))
    serving own list s = (r.loaded s.told list (stands_in own list s) (within_in own list s)).1

    remembers : (own : UserRooms) (list : List Command) → StandsWithin asked own list
        → Remembers shape list (memory_of server.store.memory)
    remembers own list s = subst (λ (h : Header). Remembers h.shape list (memory_of server.store.memory)) r.header_is
        ((serving own list s).ready r.at_end).serves.known.remembers

    begun_by : IsTrue (old cloud.0).told → ¬ IsUnbegun ((old cloud.0).now Journal).read
    begun_by told unbegun = let never : false ≡ true = r.not_begun told unbegun in cc

    pub opened : OpenedBy rooms server asked
    opened = record {
      header_is = r.header_is;
      at_end = r.at_end;
      opened = record {
        allowed = allowed;
        found = found;
        commands = commands;
        exact = r.exact;
        begun = begun_by;
        spared = r.areas;
        own_rooms = same_rooms;
        of_list = remembers;
      };
      served = serving;
      still = r.counts;
    }

  -- ---- it isn't

  pub shut : (error : OpenErr) → Reopened (header_within rooms asked) server old new before now (Err error) → IsShut rooms asked error
  shut error r = record {
    allowed = allowed;
    found = found;
    exact = λ told. comes_to (header_within rooms asked) false (reads (old cloud.0).now) (memory_of server.store.memory)
        (an_error error) (r.exact told);
    not_begun = r.not_begun;
    other_store = r.other_store;
    whole = λ own list s. r.whole s.told list (stands_in own list s) (within_in own list s) (λ none. absurd (s.begun none));
    spared = r.areas;
    counts = r.counts;
  }

-- ---- rooms that are found first

-- A call that changes nothing of its cloud's areas and no count leaves the cloud as it was.
pub unchanged : (old new : ℕ → Cloud) (number before now : ℕ) → IsCall old new number before now → Stays (old number) (new number)
    → KeepsCounts (old number) (new number) before now → new number ≡ old number
unchanged old new number before now call stays counts = λ i. record {
  told = call.told i;
  faults = counts.cloud i;
  armings = call.armings i;
  armed = stays.armed i;
  past = stays.past i;
  now = stays.now i;
}

in_cloud : (rooms : UserRooms) (call : CloudCall) (result : Result Server Unopened) → OpensIn rooms call result → OpensCloud call result
in_cloud rooms call (Ok server) opens = (rooms, opens)
in_cloud rooms call (Err unopened.NoMemory) opens = opens
in_cloud rooms call (Err (unopened.Refused error)) opens = InRooms rooms opens

-- the opening behind a search that left the cloud as it was
pub behind_search : (rooms : UserRooms) (shape : Shape) (cloud : CloudNo) (old mid new : Cloud) (before middle now : ℕ)
    (result : Result Server Unopened) → mid ≡ old → middle ≡ before
    → OpensIn rooms (cloud_call shape cloud mid new middle now) result → OpensCloud (cloud_call shape cloud old new before now) result
behind_search rooms shape cloud old mid new before middle now result same still opens =
    in_cloud rooms (cloud_call shape cloud old new before now) result
    (subst (λ (n : ℕ). OpensIn rooms (cloud_call shape cloud old new n now) result) still
    (subst (λ (k : Cloud). OpensIn rooms (cloud_call shape cloud k new middle now) result) same opens))

counts_by : (error : OpenErr) (failed kept : Type 0) → OnFault (no_rooms error) failed kept → OnFault (an_error error) failed kept
counts_by errors.Fault failed kept counts = counts
counts_by (errors.NotBegun len) failed kept counts = counts
counts_by (errors.Damaged at byte) failed kept counts = counts
counts_by (errors.OtherStore found wanted at) failed kept counts = counts

pub unfound : (call : CloudCall) (error : OpenErr) → IsUnreadable call.old error → Stays call.old call.new
    → OnFault (no_rooms error) (HasFailed call.old call.new call.total_before call.total_after)
    (KeepsCounts call.old call.new call.total_before call.total_after) → IsNotOpened call error
unfound call error unreadable stays counts = NoRooms unreadable stays
    (counts_by error (HasFailed call.old call.new call.total_before call.total_after)
    (KeepsCounts call.old call.new call.total_before call.total_after) counts)
