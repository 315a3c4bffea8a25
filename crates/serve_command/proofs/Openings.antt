-- A cloud that was to be opened, and what comes of it.
use Rattle.std.proofs.Common.{◌≡◌, ℕ, Bool, true, IsTrue, List, Result, Ok, Err, IfOk, OnOk, None, refl, sym, ◌∙◌, subst}
use Rattle.std.specs.List.{Contains}
use Rattle.ports_link.specs.CdBase.ids.CloudNo.{CloudNo}
use Rattle.share_server.specs.JournalStart.rooms.UserRooms.{UserRooms}
use Rattle.ports_link.specs.CdBase.shape.Shape.{Shape}
use Rattle.share_server.specs.CdEdges.area.Area.TheVariants.{Journal}
use Rattle.share_server.specs.CdEdges.Disk.{Cloud, Image, reads}
use Rattle.share_server.specs.CdEdges.Shelf.{IsCall, HasFailed, KeepsCounts}
use Rattle.share_server.specs.CommitJournal.errors.OpenErr.{OpenErr}
use Rattle.share_server.specs.CommitJournal.errors.OpenErr.TheVariants as errors
use Rattle.share_server.specs.JournalStart.start.Header.{Header}
use Rattle.share_server.specs.CommitJournal.Openings.{OnFault}
use Rattle.share_server.specs.UserDedup.command.Command.{Command}
use Rattle.share_server.specs.UserDedup.Exec.{Peer}
use Rattle.share_server.specs.CloudOpening.Exact.{Opens}
use Rattle.share_server.specs.CloudOpening.Spared.{IsOkOrFault, MayBegin, Spares}
use Rattle.share_server.specs.CloudMemory.Memory.{Memory}
use Rattle.share_server.specs.CloudMemory.Rooms.{memory_of}
use Rattle.share_server.specs.Openings.{OpensTo, OtherStoreIs}
use Rattle.share_server.specs.UserDedup.Spending.{IsWithin}
use Rattle.share_server.specs.CloudAreas.Peers.{ImagesNow, ImagesSince, StandsAs}
use Rattle.share_server.specs.CloudAreas.Standing.{StandsFor}
use Rattle.serve_command.specs.Serving.{ServesOne, standing}
use Rattle.share_server.specs.UserDedup.Cloud.{counted}
use Rattle.share_server.specs.Names.{header_of}
use Rattle.share_server.specs.CloudStore.Store.{IsOpen}
use Rattle.share_server.specs.Serving.{IsServing, an_error, settled_with, IsReadToEnd}
use Rattle.share_server.specs.declared.server.Server.{Server}
use Rattle.serve_command.specs.Runs.{ServeRun}
use Rattle.serve_command.specs.Served.{ServeCall, ServeOutput, own_header, IsOpeningRefused, HasServed, IsLeftOpen, IsReported, IsUnopenedToServe, IsOpenedToServe}
use Rattle.serve_command.specs.Served.{IsUnopenedOrServed}
use Rattle.serve_command.specs.Steps.{ServingMoment, IsClosedUnopened, ServesAll, held_at}

-- what the bytes come to, with the memory that the opening leaves
pub comes_to : (header : Header) (begin : Bool) (image : Image) (memory : Memory) (result : Result ℕ OpenErr)
    → OnFault result (Unit {0}) (Opens header begin image memory result)
    → OnFault result (Unit {0}) (OpensTo header begin image result)
comes_to header begin image memory (Ok commands) opens = (memory, opens)
comes_to header begin image memory (Err errors.Fault) opens = tt
comes_to header begin image memory (Err (errors.NotBegun len)) opens = (memory, opens)
comes_to header begin image memory (Err (errors.Damaged at byte)) opens = (memory, opens)
comes_to header begin image memory (Err (errors.OtherStore found asked at)) opens = (memory, opens)

-- What an opening says, by a header.
pub record Reopened (header : Header) (server : Server) (old new : ℕ → Cloud) (before now : ℕ)
    (result : Result ℕ OpenErr)
    : Type 0 where
  pub header_is : server.store.header ≡ header
  pub at_end : OnOk result (IsOpen server.store)
  pub kept : IsTrue (old header.cloud.0).told → (lists : List (List Command))
      → ImagesNow (old header.cloud.0) header (Contains lists)
      → ImagesSince (old header.cloud.0) (new header.cloud.0) header (Contains lists)
  pub loaded : IsTrue (old header.cloud.0).told → (list : List Command)
      → StandsFor (reads (old header.cloud.0).now) header list → IsWithin header.shape header.rooms list
      → IfOk result (λ commands. (commands ≡ counted list)
      × IsServing server (new header.cloud.0) (settled_with list (new header.cloud.0)))
  pub whole : IsTrue (old header.cloud.0).told → (list : List Command)
      → StandsFor (reads (old header.cloud.0).now) header list → IsWithin header.shape header.rooms list
      → MayBegin ((old header.cloud.0).now Journal).read true → IsOkOrFault result
  pub other_store : IsTrue (old header.cloud.0).told
      → OtherStoreIs ((old header.cloud.0).now Journal).read header result
  pub exact : IsTrue (old header.cloud.0).told
      → OnFault result (Unit {0}) (Opens header true (reads (old header.cloud.0).now) (memory_of server.store.memory) result)
  pub areas : IsTrue (old header.cloud.0).told → Spares header true (old header.cloud.0) (new header.cloud.0) result
  pub read : IsTrue (old header.cloud.0).told → OnOk result (IsReadToEnd server.store (new header.cloud.0))
  pub call : IsCall old new header.cloud.0 before now
  pub counts : OnFault result (HasFailed (old header.cloud.0) (new header.cloud.0) before now)
      (KeepsCounts (old header.cloud.0) (new header.cloud.0) before now)

-- what the opening of a server that was made for a cloud says
pub reopened : (made server : Server) (cloud : CloudNo) (old new : ℕ → Cloud) (before now : ℕ)
    (result answer : Result ℕ OpenErr)
    → made.store.header ≡ header_of made.store.header.shape made.store.header.rooms cloud.0 → result ≡ answer
    → Reopened made.store.header server old new before now result
    → Reopened (header_of made.store.header.shape made.store.header.rooms cloud.0) server old new before now answer
reopened made server cloud old new before now result answer of is raw =
    subst (λ (r : Result ℕ OpenErr).
    Reopened (header_of made.store.header.shape made.store.header.rooms cloud.0) server old new before now r) is
    (subst (λ (h : Header). Reopened h server old new before now result) of raw)

-- the same serving, by the header
pub served_by_own : (status : ℕ) (header : Header) (opened new : ServingMoment) (address : List ℕ) (count : ℕ) (out : ServeOutput)
    (before now : ℕ)
    → opened.server.store.header ≡ header
    → ServesAll status opened.server.store.header opened new address count out before now
    → ServesAll status header opened new address count out before now
served_by_own status header opened new address count out before now header_is all =
    subst (λ (h : Header). ServesAll status h opened new address count out before now) header_is all

-- the same of a shape and of rooms
pub by_header : (status : ℕ) (call : ServeCall) (shape : Shape) (found rooms : UserRooms)
    → call.shape ≡ shape → found ≡ rooms
    → IsUnopenedOrServed found status call → IsUnopenedOrServed rooms status (record call { shape = shape })
by_header status call shape found rooms shape_is rooms_are served =
    subst (λ (s : Shape). IsUnopenedOrServed rooms status (record call { shape = s })) shape_is
    (subst (λ (r : UserRooms). IsUnopenedOrServed r status call) rooms_are served)

-- ---- it isn't opened

-- what is written of the error
pub reported_by : (call : ServeCall) (error : OpenErr) (status : ℕ) → IsClosedUnopened call.cloud error call.out status
    → call.tells_after ≡ call.tells_before → call.ports_after ≡ call.ports_before → IsReported status call error
reported_by call error status closes tells ports = record {
  due = closes.due;
  line = closes.line;
  reports = closes.reports;
  ends = closes.ends;
  tells = tells;
  ports = ports;
}

module _ (rooms : UserRooms) (call : ServeCall) (server : Server) (error : OpenErr)
    (opening : Reopened (own_header rooms call) server call.old call.new call.total_before call.total_after (Err error))
  where
    refuses : IsOpeningRefused rooms call error
    refuses = record {
      exact = λ told. comes_to (own_header rooms call) true (reads (call.old call.cloud.0).now)
          (memory_of server.store.memory) (an_error error) (opening.exact told);
      other_store = opening.other_store;
      whole = λ told list stands within. opening.whole told list stands within (λ none. refl);
      counts = opening.counts;
      spared = opening.areas;
      kept = opening.kept;
    }

    pub unopened : (status : ℕ) → IsClosedUnopened call.cloud error call.out status → call.tells_after ≡ call.tells_before
        → call.ports_after ≡ call.ports_before → IsUnopenedToServe rooms status call
    unopened status closes tells ports = record {
      error = error;
      refuses = refuses;
      reported = reported_by call error status closes tells ports;
    }

-- ---- it is opened, and serves

module _ (shape : Shape) (rooms : UserRooms) (cloud : CloudNo) (address : List ℕ) (count : ℕ) (out : ServeOutput) (old : ℕ → Cloud)
    (total before now : ℕ)
    (opened new : ServingMoment) where
  abbrev call_by : ServeCall
  call_by = record {
    shape = shape;
    cloud = cloud;
    address = address;
    count = count;
    out = out;
    old = old;
    new = new.clouds;
    total_before = total;
    total_after = new.total;
    tells_before = opened.tells;
    tells_after = new.tells;
    ports_before = before;
    ports_after = now;
  }

  module _ (commands status answer : ℕ)
      (opening : Reopened (own_header rooms call_by) opened.server old opened.clouds total opened.total (Ok commands))
      (all : ServesAll status (own_header rooms call_by) opened new address count out before now) where
    -- the peer that the opening leaves has the counts of the cloud before it
    same_peer : (list : List Command) → settled_with list (opened.clouds cloud.0) ≡ settled_with list (old cloud.0)
    same_peer list = λ i.
        record { list = list; pending = None; faults = opening.counts.cloud i; armings = opening.call.armings i }

    from_list : IsTrue (old cloud.0).told → (list : List Command)
        → StandsFor (reads (old cloud.0).now) (own_header rooms call_by) list → IsWithin shape rooms list
        → HasServed rooms call_by (opened.clouds cloud.0) all.all all.after list
    from_list told list stands fits =
        let told_still : IsTrue (opened.clouds cloud.0).told = rw opening.call.told told in
        let loaded = (opening.loaded told list stands fits).1 in
        let served = all.went.served told_still (settled_with list (opened.clouds cloud.0)) loaded in
        record {
          begins = subst (λ (p : Peer). StandsAs (opened.clouds cloud.0) (own_header rooms call_by) p) (same_peer list)
              (subst (λ (h : Header). StandsAs (opened.clouds cloud.0) h (settled_with list (opened.clouds cloud.0)))
              opening.header_is loaded.stands);
          left = served.0;
          run = subst (λ (p : Peer). ServeRun (ServesOne (own_header rooms call_by)) opened.tells new.tells
              (standing p (opened.clouds cloud.0)) before all.all (standing served.0 (new.clouds cloud.0)) all.after)
              (same_peer list) served.2;
          stands = subst (λ (h : Header). StandsAs (new.clouds cloud.0) h served.0)
              (all.went.same ∙ opening.header_is) served.1.stands;
          within = λ settled may.
              subst (λ (h : Header). IsWithin h.shape h.rooms settled) (all.went.same ∙ opening.header_is)
              (served.1.within settled may);
        }

    left_open : IsLeftOpen rooms call_by (held_at (own_header rooms call_by) opened)
    left_open = record {
      header = opening.header_is;
      at_end = opening.at_end;
      counts = opening.counts;
      told = opening.call.told;
      exact = λ told. (commands, opening.exact told, opening.areas told);
      read = opening.read;
      kept = opening.kept;
    }

    is_opened : IsOpenedToServe rooms status call_by
    is_opened = record {
      opened = held_at (own_header rooms call_by) opened;
      opens = left_open;
      all = all.all;
      after = all.after;
      last = held_at (own_header rooms call_by) new;
      replied = all.went.replied;
      cloud = refl;
      total = refl;
      served = from_list;
      ends = all.ends;
      told = all.went.told;
    }

    -- the status that is answered
    pub by_status : status ≡ answer → IsOpenedToServe rooms answer call_by
    by_status is = subst (λ (n : ℕ). IsOpenedToServe rooms n call_by) is is_opened
