-- One cloud opened, and clouds in order.
use Rattle.std.proofs.Common.{◌≡◌, ℕ, true, false, List, Option, refl, sym, ap, ◌∙◌, subst, inl, inr}
use Rattle.std.specs.Prelude.{IsTrue, Some, None, Result, Ok, Err, IfOk, IsSomeAnd}
use Rattle.std.specs.List.{Contains}
use Rattle.commit_journal.specs.CdBase.ids.CloudNo.{CloudNo}
use Rattle.commit_journal.specs.JournalStart.rooms.UserRooms.{UserRooms}
use Rattle.commit_journal.specs.CdEdges.area.Area.{Area}
use Rattle.commit_journal.specs.CdEdges.area.Area.TheVariants.{Journal, Shares, Recipes}
use Rattle.commit_journal.specs.CdEdges.Disk.{Areas, Cloud, Image, IsImage, MayLeave, Store, reads}
use Rattle.commit_journal.specs.CdEdges.Shelf.{HasFailed, KeepsCounts, Stays, stable}
use Rattle.commit_journal.proofs.CdEdges.Moments.{stayed, weaker}
use Rattle.commit_journal.proofs.CdEdges.Torn.{only}
use Rattle.commit_journal.specs.declared.errors.OpenErr.{OpenErr}
use Rattle.commit_journal.specs.declared.errors.OpenErr.TheVariants as errors
use Rattle.commit_journal.specs.JournalStart.start.Header.{Header}
use Rattle.commit_journal.specs.Openings.{MayBeBegun, OnFault}
use Rattle.commit_journal.specs.JournalHalves.Beginnings.{IsUnbegun}
use Rattle.commit_journal.specs.JournalHalves.Halves.{IsCurrent}
use Rattle.commit_journal.specs.JournalStart.start.Start.{Start}
use Rattle.local_link.proofs.CloudOpening.OneStart.{current_whole}
use Rattle.cloud_areas.specs.UserDedup.command.Command.{Command}
use Rattle.local_link.specs.CloudOpening.Exact.{Opens}
use Rattle.local_link.specs.CloudMemory.Rooms.{memory_of}
use Rattle.local_link.specs.ShareServer.Openings.{HasNoOther, NotBegunIs, OpensTo, OtherStoreIs}
use Rattle.local_link.specs.CloudOpening.Spared.{IsOkOrFault, MayBegin, Spares}
use Rattle.local_link.specs.CloudOpening.Synced.{AreSynced}
use Rattle.local_link.specs.CloudStore.Store.{IsOpen}
use Rattle.cloud_areas.specs.UserDedup.Spending.{IsWithin}
use Rattle.cloud_areas.specs.Peers.{StandsForSome, ImagesNow, ImagesSince}
use Rattle.cloud_areas.specs.Standing.{StandsFor}
use Rattle.commit_journal.specs.CdBase.shape.Shape.{Shape}
use Rattle.local_link.specs.ShareServer.server.Server.{Server}
use Rattle.cloud_areas.specs.UserDedup.Cloud.{counted}
use Rattle.local_link.specs.ShareServer.Serving.{settled_with}
use Rattle.local_link.specs.declared.link.LocalLink.{LocalLink}
use Rattle.local_link.specs.declared.servers.Servers.{Servers}
use Rattle.local_link.specs.Calls.{header_of}
use Rattle.local_link.specs.Steps.{IsClosedIn}
use Rattle.local_link.specs.Tells.{server_at, rooms_at, rooms_of, header_at, StandsAt}
use Rattle.read_command.specs.declared.end.ReadEnd.{ReadEnd}
use Rattle.read_command.specs.declared.end.ReadEnd.TheVariants as ends
use Rattle.read_command.specs.Disks.{IsUnopenedToRead, IsSpared, InItsRooms, NamesRooms, OpensWith, StaysShut, Current, Unbegun, Broken}
use Rattle.read_command.specs.Opening.{EndsOne, IsRememberedAt, IsFailedOrNoMemory, Opening, end_by}

-- ---- where nothing is begun

-- an image that an opening may leave which begins nothing is one of before
nothing_begun : (cloud : Cloud) (header : Header) (image : Image) → MayBeBegun cloud.now header false image → IsImage cloud.now image
nothing_begun cloud header image (inl is) = is
nothing_begun cloud header image (inr begins) = absurd (let never : false ≡ true = begins.0 in cc)

pub spared_by : (header : Header) (old new : Cloud) (result : Result ℕ OpenErr) → Spares header false old new result → IsSpared old new
spared_by header old new result s = record {
  any_moment = weaker old new (MayBeBegun old.now header false) (λ (image : Image). IsImage old.now image) s.any_moment (nothing_begun old header);
  still_read = nothing_begun old header (reads new.now) s.still_read;
}

-- a cloud that is as it was
pub spared_still : (old new : Cloud) → Stays old new → IsImage old.now (reads old.now) → IsSpared old new
spared_still old new stays reads_image = record {
  any_moment = stayed old new (λ (image : Image). IsImage old.now image) stays (λ image is. is);
  still_read = subst (λ (a : Areas). IsImage old.now (λ area. (a area).read)) (sym stays.now) reads_image;
}

-- what images stood for they stand for since
pub images_by : (header : Header) (lists : List (List Command)) (old new : Cloud) → IsSpared old new → ImagesNow old header (Contains lists)
    → ImagesSince old new header (Contains lists)
images_by header lists old new spared images =
    weaker old new (λ (image : Image). IsImage old.now image) (StandsForSome header (Contains lists)) spared.any_moment images

-- areas that stand for a list have its header in the start of their current half
abbrev pub OneHeader : Type 0
OneHeader = (image : Image) (header : Header) (list : List Command) (half : ℕ) (start : Start) → StandsFor image header list → ¬ IsUnbegun (image Journal)
    → IsCurrent (image Journal) half start → start.header ≡ header

-- the rooms that a journal names are those with which its areas stand for a list
pub rooms_one : OneHeader → (image : Image) (header : Header) (list : List Command) (rooms : UserRooms) → StandsFor image header list → ¬ IsUnbegun (image Journal)
    → NamesRooms (image Journal) rooms → rooms ≡ header.rooms
unfolding StandsFor
rooms_one one_header image header list rooms stands begun (Current half start is) = ap (λ (h : Header). h.rooms) (one_header image header list half start stands begun is)
rooms_one one_header image header list rooms stands begun (Unbegun is) = absurd (begun is)
rooms_one one_header image header list rooms stands begun (Broken at byte damage) = elim stands.1 [
  | inl has ↦ absurd (current_whole (image Journal) has.chain_of.half has.chain_of.start has.is_chain.there.current at byte damage)
  | inr none ↦ absurd (begun none.0)
]

-- a journal that may be begun and isn't to be begun is begun
pub begun_by : (bytes : List ℕ) → MayBegin bytes false → ¬ IsUnbegun bytes
begun_by bytes may unbegun = let never : false ≡ true = may unbegun in cc

-- a server that is closed in some rooms has these
pub rooms_in : (rooms : UserRooms) (servers : Servers) (cloud : ℕ) → IsSomeAnd (server_at servers cloud) (IsClosedIn rooms) → rooms_at servers cloud ≡ rooms
rooms_in rooms servers cloud is = by_server (server_at servers cloud) is
  where
    by_server : (at : Option Server) → IsSomeAnd at (IsClosedIn rooms) → rooms_of at ≡ rooms
    by_server None is = absurd is
    by_server (Some server) is = is.rooms_are

-- the bytes come to the answer with the memory of the server
opens_to : (header : Header) (image : Image) (r : Result ℕ OpenErr) (at : Option Server)
    → IsSomeAnd at (λ (s : Server). OnFault r (Unit {0}) (Opens header false image (memory_of s.store.memory) r)) → OnFault r (Unit {0}) (OpensTo header false image r)
opens_to header image r None is = absurd is
opens_to header image (Ok commands) (Some s) is = (memory_of s.store.memory, is)
opens_to header image (Err errors.Fault) (Some s) is = tt
opens_to header image (Err (errors.NotBegun len)) (Some s) is = (memory_of s.store.memory, is)
opens_to header image (Err (errors.Damaged at byte)) (Some s) is = (memory_of s.store.memory, is)
opens_to header image (Err (errors.OtherStore found asked at)) (Some s) is = (memory_of s.store.memory, is)

-- areas that were synced alone have all that they read on the disk
settled : (old new : Cloud) → AreSynced old new → (area : Area) → new.now area ≡ stable (old.now area).read
settled old new s Journal =
    s.recipes.others Journal (λ e. let never : Journal ≡ Recipes = e in cc) ∙ s.shares.others Journal (λ e. let never : Journal ≡ Shares = e in cc) ∙ s.journal.area
settled old new s Shares =
    s.recipes.others Shares (λ e. let never : Shares ≡ Recipes = e in cc)
    ∙ s.shares.area ∙ ap (λ (x : Store). stable x.read) (s.journal.others Shares (λ e. let never : Shares ≡ Journal = e in cc))
settled old new s Recipes =
    s.recipes.area
    ∙ ap (λ (x : Store). stable x.read)
    (s.shares.others Recipes (λ e. let never : Recipes ≡ Shares = e in cc) ∙ s.journal.others Recipes (λ e. let never : Recipes ≡ Journal = e in cc))

-- so they read as they did, and a crash leaves nothing else
synced_same : (old new : Cloud) → AreSynced old new → reads new.now ≡ reads old.now
synced_same old new s = λ i area. (settled old new s area i).read

synced_alone : (old new : Cloud) → AreSynced old new → (image : Image) → IsImage new.now image → image ≡ reads new.now
synced_alone old new s image left = λ i area. by_area area i
  where
    by_area : (area : Area) → image area ≡ (new.now area).read
    by_area area =
        only (old.now area).read (image area) (subst (λ (x : Store). MayLeave x (image area)) (settled old new s area) (left area)) ∙ sym (ap (λ (x : Store). x.read) (settled old new s area))

-- the server that opened has the memory that the opening read, and the areas are read so still
opens_with : {V : Type 0} (clouds : V → ℕ → Cloud) (header : Header) (old : Cloud) (commands : ℕ) (new : LocalLink V) (cloud : ℕ) → header_at new.servers cloud ≡ header
    → (let answer : Result ℕ OpenErr = Ok commands in IsSomeAnd (server_at new.servers cloud) (λ (s : Server). OnFault answer (Unit {0}) (Opens header false (reads old.now) (memory_of s.store.memory) answer)))
    → ¬ IsUnbegun (reads old.now Journal) → AreSynced old (clouds new.shelf.now cloud) → OpensWith header old (IsRememberedAt clouds new cloud header)
opens_with {V} clouds header old commands new cloud header_is exact begun synced = by_server (server_at new.servers cloud) refl exact
  where
    after : Cloud
    after = clouds new.shelf.now cloud

    same : reads old.now ≡ reads after.now
    same = sym (synced_same old after synced)

    by_server : (at : Option Server) → server_at new.servers cloud ≡ at
        → (let answer : Result ℕ OpenErr = Ok commands in IsSomeAnd at (λ (s : Server). OnFault answer (Unit {0}) (Opens header false (reads old.now) (memory_of s.store.memory) answer)))
        → OpensWith header old (IsRememberedAt clouds new cloud header)
    by_server None is opens = absurd opens
    by_server (Some s) is opens = record {
      memory = memory_of s.store.memory;
      commands = commands;
      opens = opens;
      has = (
        header_is,
        record {
          commands = commands;
          opens = subst (λ (image : Image). Opens header false image (memory_of s.store.memory) (Ok commands)) same opens;
          begun = subst (λ (image : Image). ¬ IsUnbegun (image Journal)) same begun;
          alone = synced_alone old after synced;
          keeps = subst (λ (o : Option Server). IsSomeAnd o (λ (t : Server). IsOpen t.store → memory_of t.store.memory ≡ memory_of s.store.memory)) (sym is) (λ opened. refl);
        },
      );
    }

-- ---- what an opening comes to

abbrev pub came_by : CloudNo → Result ℕ OpenErr → Result (Unit {0}) ReadEnd
came_by cloud (Ok commands) = Ok tt
came_by cloud (Err error) = Err (end_by cloud error)

-- what is said of each error is said unless a device failed
unless_fault : (error : OpenErr) (Said : Type 0) → Said → (let answer : Result ℕ OpenErr = Err error in OnFault answer (Unit {0}) Said)
unless_fault errors.Fault Said is = tt
unless_fault (errors.NotBegun len) Said is = is
unless_fault (errors.Damaged at byte) Said is = is
unless_fault (errors.OtherStore found asked at) Said is = is

-- the end by the error of an opening
ends_one : (shape : Shape) (old new : Cloud) (before now : ℕ) (cloud : CloudNo) (error : OpenErr)
    → (IsTrue old.told → StaysShut shape cloud.0 old new error)
    → (let answer : Result ℕ OpenErr = Err error in OnFault answer (HasFailed old new before now) (KeepsCounts old new before now))
    → EndsOne shape old new before now cloud.0 (end_by cloud error)
ends_one shape old new before now cloud errors.Fault is counts = ((refl, is), counts)
ends_one shape old new before now cloud (errors.NotBegun len) is counts = (refl, is)
ends_one shape old new before now cloud (errors.Damaged at byte) is counts = (refl, is)
ends_one shape old new before now cloud (errors.OtherStore found asked at) is counts = (asked, at, (refl, is))

-- no other end comes of an opening that answers Ok unless a device failed
free_by : (cloud : CloudNo) (error : OpenErr) → (let answer : Result ℕ OpenErr = Err error in IsOkOrFault answer) → IsFailedOrNoMemory (end_by cloud error)
free_by cloud errors.Fault is = tt
free_by cloud (errors.NotBegun len) is = absurd is
free_by cloud (errors.Damaged at byte) is = absurd is
free_by cloud (errors.OtherStore found asked at) is = absurd is

module _ {V : Type 0} (clouds : V → ℕ → Cloud) where
  -- the call that opens a server in the rooms that the journal names
  pub opening_by : OneHeader → (mid new : LocalLink V) (cloud : CloudNo) (rooms : UserRooms) (before now : ℕ) (result : Result ℕ OpenErr) (came : Result (Unit {0}) ReadEnd)
      → rooms_at mid.servers cloud.0 ≡ rooms
      → (IsTrue (clouds mid.shelf.now cloud.0).told → NamesRooms (reads (clouds mid.shelf.now cloud.0).now Journal) rooms)
      → (IsTrue (clouds mid.shelf.now cloud.0).told → IsSomeAnd (server_at new.servers cloud.0) (λ (s : Server). OnFault result (Unit {0})
      (Opens (header_at mid.servers cloud.0) false (reads (clouds mid.shelf.now cloud.0).now) (memory_of s.store.memory) result)))
      → (IsTrue (clouds mid.shelf.now cloud.0).told → NotBegunIs (clouds mid.shelf.now cloud.0) (clouds new.shelf.now cloud.0) false result)
      → (IsTrue (clouds mid.shelf.now cloud.0).told → OtherStoreIs ((clouds mid.shelf.now cloud.0).now Journal).read (header_at mid.servers cloud.0) result)
      → (IsTrue (clouds mid.shelf.now cloud.0).told → (list : List Command) → StandsFor (reads (clouds mid.shelf.now cloud.0).now) (header_at mid.servers cloud.0) list
      → IsWithin mid.servers.shape (rooms_at mid.servers cloud.0) list → MayBegin ((clouds mid.shelf.now cloud.0).now Journal).read false → IsOkOrFault result)
      → (IsTrue (clouds mid.shelf.now cloud.0).told → (list : List Command) → StandsFor (reads (clouds mid.shelf.now cloud.0).now) (header_at mid.servers cloud.0) list
      → IsWithin mid.servers.shape (rooms_at mid.servers cloud.0) list
      → IfOk result (λ commands. (commands ≡ counted list) × StandsAt clouds new cloud.0 (settled_with list (clouds new.shelf.now cloud.0))))
      → OnFault result (HasFailed (clouds mid.shelf.now cloud.0) (clouds new.shelf.now cloud.0) before now) (KeepsCounts (clouds mid.shelf.now cloud.0) (clouds new.shelf.now cloud.0) before now)
      → (IsTrue (clouds mid.shelf.now cloud.0).told → Spares (header_at mid.servers cloud.0) false (clouds mid.shelf.now cloud.0) (clouds new.shelf.now cloud.0) result)
      → rooms_at new.servers cloud.0 ≡ rooms_at mid.servers cloud.0
      → new.servers.shape ≡ mid.servers.shape
      → (clouds new.shelf.now cloud.0).armings ≡ (clouds mid.shelf.now cloud.0).armings
      → came ≡ came_by cloud result
      → Opening clouds mid.servers.shape (clouds mid.shelf.now cloud.0) before new now cloud.0 came
  opening_by one_header mid new cloud rooms before now result came in_rooms named exact begun own whole loaded counts areas stay shape_stays armings is =
      subst (Opening clouds mid.servers.shape (clouds mid.shelf.now cloud.0) before new now cloud.0) (sym is) (by_result result exact begun own whole loaded counts areas)
    where
      old : Cloud
      old = clouds mid.shelf.now cloud.0

      after : Cloud
      after = clouds new.shelf.now cloud.0

      shape : Shape
      shape = mid.servers.shape

      asked : Header
      asked = header_of shape rooms cloud.0

      header : header_at mid.servers cloud.0 ≡ asked
      header = ap (λ (r : UserRooms). header_of shape r cloud.0) in_rooms

      header_new : header_at new.servers cloud.0 ≡ header_at mid.servers cloud.0
      header_new = λ i. header_of (shape_stays i) (stay i) cloud.0

      -- lists that stand in any rooms stand in those of the server
      same : IsTrue old.told → (any : UserRooms) (list : List Command) → StandsFor (reads old.now) (header_of shape any cloud.0) list → ¬ IsUnbegun (reads old.now Journal)
          → any ≡ rooms_at mid.servers cloud.0
      same told any list stands begins = sym (rooms_one one_header (reads old.now) (header_of shape any cloud.0) list rooms stands begins (named told)) ∙ sym in_rooms

      within : IsTrue old.told → (any : UserRooms) (list : List Command) → StandsFor (reads old.now) (header_of shape any cloud.0) list → ¬ IsUnbegun (reads old.now Journal)
          → IsWithin shape any list → IsWithin shape (rooms_at mid.servers cloud.0) list
      within told any list stands begins is = subst (λ (r : UserRooms). IsWithin shape r list) (same told any list stands begins) is

      stands_by : IsTrue old.told → (any : UserRooms) (list : List Command) → StandsFor (reads old.now) (header_of shape any cloud.0) list → ¬ IsUnbegun (reads old.now Journal)
          → StandsFor (reads old.now) (header_at mid.servers cloud.0) list
      stands_by told any list stands begins = subst (λ (r : UserRooms). StandsFor (reads old.now) (header_of shape r cloud.0) list) (same told any list stands begins) stands

      spared : IsTrue old.told → IsSpared old after
      spared told = spared_by (header_at mid.servers cloud.0) old after result (areas told)

      to : (r : Result ℕ OpenErr) → IsSomeAnd (server_at new.servers cloud.0) (λ (s : Server). OnFault r (Unit {0}) (Opens (header_at mid.servers cloud.0) false (reads old.now) (memory_of s.store.memory) r))
          → OnFault r (Unit {0}) (OpensTo asked false (reads old.now) r)
      to r is = subst (λ (h : Header). OnFault r (Unit {0}) (OpensTo h false (reads old.now) r)) header (opens_to (header_at mid.servers cloud.0) (reads old.now) r (server_at new.servers cloud.0) is)

      by_result : (r : Result ℕ OpenErr)
          → (IsTrue old.told → IsSomeAnd (server_at new.servers cloud.0) (λ (s : Server). OnFault r (Unit {0}) (Opens (header_at mid.servers cloud.0) false (reads old.now) (memory_of s.store.memory) r)))
          → (IsTrue old.told → NotBegunIs old after false r) → (IsTrue old.told → OtherStoreIs (old.now Journal).read (header_at mid.servers cloud.0) r)
          → (IsTrue old.told → (list : List Command) → StandsFor (reads old.now) (header_at mid.servers cloud.0) list → IsWithin shape (rooms_at mid.servers cloud.0) list
          → MayBegin (old.now Journal).read false → IsOkOrFault r)
          → (IsTrue old.told → (list : List Command) → StandsFor (reads old.now) (header_at mid.servers cloud.0) list → IsWithin shape (rooms_at mid.servers cloud.0) list
          → IfOk r (λ commands. (commands ≡ counted list) × StandsAt clouds new cloud.0 (settled_with list after)))
          → OnFault r (HasFailed old after before now) (KeepsCounts old after before now)
          → (IsTrue old.told → Spares (header_at mid.servers cloud.0) false old after r)
          → Opening clouds mid.servers.shape old before new now cloud.0 (came_by cloud r)
      by_result (Ok commands) exact begun own whole loaded counts spares = record {
        opened = λ told. (
          rooms,
          named told,
          record {
            commands = commands;
            opens = to (Ok commands) (exact told);
            begun = begun_by (reads old.now Journal) (begun told);
            own = subst (HasNoOther (reads old.now Journal)) header (own told);
          },
        );
        rooms = λ told. subst (NamesRooms (reads old.now Journal)) (sym (stay ∙ in_rooms)) (named told);
        memory = λ told. (
          rooms,
          named told,
          subst (λ (h : Header). OpensWith h old (IsRememberedAt clouds new cloud.0 h)) header
              (opens_with clouds (header_at mid.servers cloud.0) old commands new cloud.0 header_new (exact told) (begun_by (reads old.now Journal) (begun told)) ((spares told).unasked refl)),
        );
        same = λ told. synced_same old after ((spares told).unasked refl);
        loaded = λ told any list stands is.
            let begins = begun_by (reads old.now Journal) (begun told) in
            (loaded told list (stands_by told any list stands begins) (within told any list stands begins is)).1;
        counts = counts;
        readable = λ any list is. tt;
        end = tt;
        spared = spared;
        armings = armings;
      }
      by_result (Err error) exact begun own whole loaded counts spares = record {
        opened = λ told. tt;
        rooms = λ told. tt;
        memory = λ told. tt;
        same = λ told. tt;
        loaded = λ told any list stands is. tt;
        counts = tt;
        readable = λ any list is. free_by cloud error (whole is.told list (stands_by is.told any list is.stands is.begun)
            (within is.told any list is.stands is.begun is.within) (λ unbegun. absurd (is.begun unbegun)));
        end = ends_one shape old after before now cloud error (λ told. unless_fault error (InItsRooms shape cloud.0 old (λ (h : Header). IsUnopenedToRead h old after error)) (
          rooms,
          named told,
          record {
            exact = to (Err error) (exact told);
            not_begun = begun told;
            other_store = subst (λ (h : Header). let answer : Result ℕ OpenErr = Err error in OtherStoreIs (reads old.now Journal) h answer) header (own told);
          },
        )) counts;
        spared = spared;
        armings = armings;
      }

  -- nothing was opened: memory ran out before it, or a device failed
  pub opening_none : (shape : Shape) (old : Cloud) (new : LocalLink V) (number before now : ℕ) (end : ReadEnd) (came : Result (Unit {0}) ReadEnd) → came ≡ Err end → IsFailedOrNoMemory end
      → EndsOne shape old (clouds new.shelf.now number) before now number end → Stays old (clouds new.shelf.now number) → (clouds new.shelf.now number).armings ≡ old.armings
      → (IsTrue old.told → IsImage old.now (reads old.now)) → Opening clouds shape old before new now number came
  opening_none shape old new number before now end came is free ends stays armings reads_image =
      subst (Opening clouds shape old before new now number) (sym is) (record {
        opened = λ told. tt;
        rooms = λ told. tt;
        memory = λ told. tt;
        same = λ told. tt;
        loaded = λ told any list stands is. tt;
        counts = tt;
        readable = λ any list readable. free;
        end = ends;
        spared = λ told. spared_still old (clouds new.shelf.now number) stays (reads_image told);
        armings = armings;
      })

  -- a device failed as the journal's halves were read
  pub fails_open : (shape : Shape) (old : Cloud) (new : LocalLink V) (cloud : CloudNo) (before now : ℕ) (end : ReadEnd) → end ≡ ends.ShelfFault cloud
      → HasFailed old (clouds new.shelf.now cloud.0) before now → Stays old (clouds new.shelf.now cloud.0) → (clouds new.shelf.now cloud.0).armings ≡ old.armings
      → (IsTrue old.told → IsImage old.now (reads old.now)) → Opening clouds shape old before new now cloud.0 (Err end)
  fails_open shape old new cloud before now end is failed stays armings reads_image =
      opening_none shape old new cloud.0 before now (ends.ShelfFault cloud) (Err end) (ap Err is) tt ((refl, λ told. tt), failed) stays armings reads_image

  -- over a link that had the same shelf
  pub opening_from : (shape_mid shape : Shape) (cloud_mid cloud : Cloud) (total_mid total : ℕ) (new : LocalLink V) (now number : ℕ) (came : Result (Unit {0}) ReadEnd)
      → shape_mid ≡ shape → cloud_mid ≡ cloud → total_mid ≡ total → Opening clouds shape_mid cloud_mid total_mid new now number came → Opening clouds shape cloud total new now number came
  opening_from shape_mid shape cloud_mid cloud total_mid total new now number came s c t o =
      subst (λ (x : Shape). Opening clouds x cloud total new now number came) s
      (subst (λ (x : Cloud). Opening clouds shape_mid x total new now number came) c
      (subst (λ (x : ℕ). Opening clouds shape_mid cloud_mid x new now number came) t o))
