-- What an opening makes of a peer.
use Rattle.std.proofs.Common.{◌≡◌, inl, ℕ, Bool, true, false, List, Result, Ok, Err, IsTrue, refl, sym, ◌∙◌, subst, []}
use Rattle.std.specs.Prelude.{IfOk, OnOk, OnErr}
use Rattle.server_requests.specs.CdEdges.Causes.{Rose}
use Rattle.server_requests.specs.CdEdges.area.Area.TheVariants.{Journal}
use Rattle.server_requests.specs.CdEdges.Disk.{Cloud, Image, IsImage, reads}
use Rattle.server_requests.specs.CdEdges.Shelf.{HasFailed, KeepsCounts}
use Rattle.server_requests.proofs.CdEdges.Moments.{at_end, started}
use Rattle.server_requests.specs.CommitJournal.errors.OpenErr.{OpenErr}
use Rattle.server_requests.specs.CommitJournal.errors.OpenErr.TheVariants as errors
use Rattle.server_requests.specs.CommitJournal.journal.Stage.TheVariants.{AtEnd}
use Rattle.server_requests.specs.CommitJournal.Openings.{OnFault, HasBegun}
use Rattle.server_requests.specs.CommitJournal.Outcomes.{stage_after}
use Rattle.blob_copy.specs.JournalHalves.Beginnings.{IsUnbegun}
use Rattle.server_requests.specs.JournalStart.start.Header.{Header}
use Rattle.server_requests.specs.JournalStart.Ranges.{AreRooms}
use Rattle.server_requests.specs.UserDedup.command.Command.{Command}
use Rattle.server_requests.specs.UserDedup.Cloud.{counted}
use Rattle.server_requests.specs.UserDedup.Exec.{Peer, MaySettleAs}
use Rattle.server_requests.specs.UserDedup.Spending.{IsWithin}
use Rattle.blob_copy.specs.CloudAreas.Peers.{StandsForSome, ImagesNow, ImagesSince}
use Rattle.blob_copy.specs.CloudAreas.Standing.{StandsFor}
use Rattle.blob_copy.specs.CloudOpening.CloudMemory.Rooms.{memory_of}
use Rattle.blob_copy.specs.CloudOpening.RecordLaws.Leaving.{MayHold}
use Rattle.blob_copy.specs.CloudOpening.Exact.{Opens}
use Rattle.blob_copy.specs.CloudOpening.Spared.{IsOkOrFault, IsReadWhole, MayBegin, Spares}
use Rattle.server_requests.specs.CloudStore.store.CloudStore.{CloudStore}
use Rattle.server_requests.specs.CloudStore.Store.{IsOpen, ServesSome}
use Rattle.share_server.specs.Openings.{OpensTo, NotBegunIs}
use Rattle.share_server.specs.Refusals.{MayCome}
use Rattle.share_server.specs.Serving.{ServesAs, ReopensAs, IsUnopened, an_error, settled_with, IsReadToEnd}
use Rattle.share_server.specs.Steps.{OpensAs}
use Rattle.share_server.proofs.ByteLaws.{other_store_is}
use Rattle.share_server.proofs.Peers.{open_serves, closed_serves, shut_closed, read_stands, may_hold, none_unbegun}
use Rattle.share_server.specs.Names.{HasNoJournal}

-- the same list and pending command, and the counts of the cloud
still_peer : Peer → Cloud → Peer
still_peer p cloud = record { list = p.list; pending = p.pending; faults = cloud.faults; armings = cloud.armings }

-- ---- by a list that the areas stand for

-- the premises of what an opening says of a list
pub whole_for : (header : Header) (image : Image) (list : List Command) (begin : Bool) (journal : List ℕ) (r : Result ℕ OpenErr) → header.format ≡ 2 → AreRooms header.rooms
    → ((l : List Command) → StandsFor image header l → MayHold header l → MayBegin journal begin → IsOkOrFault r)
    → StandsFor image header list → IsWithin header.shape header.rooms list → MayBegin journal begin → IsOkOrFault r
whole_for header image list begin journal r format rooms whole stands within may = whole list stands (may_hold header image list format rooms stands within) may

served_loaded : (new : CloudStore) (after : Cloud) (list : List Command) (commands : ℕ) → commands ≡ new.commands → ServesSome list new after
    → (commands ≡ counted list) × ServesAs new after (settled_with list after)
served_loaded new after list commands is some = (is ∙ sym some.serves.known.number, open_serves new after list some)

pub loads : (header : Header) (image : Image) (new : CloudStore) (after : Cloud) (list : List Command) (r : Result ℕ OpenErr) → header.format ≡ 2 → AreRooms header.rooms
    → ((l : List Command) → StandsFor image header l → MayHold header l → OnOk r (ServesSome l new after)) → IfOk r (λ (commands : ℕ). commands ≡ new.commands)
    → StandsFor image header list → IsWithin header.shape header.rooms list
    → IfOk r (λ (commands : ℕ). (commands ≡ counted list) × ServesAs new after (settled_with list after))
loads header image new after list (Ok commands) format rooms serves is stands within =
    served_loaded new after list commands is (serves list stands (may_hold header image list format rooms stands within))
loads header image new after list (Err e) format rooms serves is stands within = tt

-- after an error the store is shut
pub shut_of : {T : Type 0} (r : Result T OpenErr) (new : CloudStore) → new.disk.journal.stage ≡ stage_after AtEnd r → OnErr r (¬ (IsOpen new))
shut_of (Ok value) new stage = tt
shut_of (Err e) new stage = shut_closed new stage

-- ---- an opening

module _ (old new : CloudStore) (before after : Cloud) (p : Peer) (begin : Bool) (serving : ServesAs old before p) (same : new.header ≡ old.header) where
  within_new : (list : List Command) → IsWithin old.header.shape old.header.rooms list → IsWithin new.header.shape new.header.rooms list
  within_new list within = subst (λ (h : Header). IsWithin h.shape h.rooms list) (sym same) within

  images_new : ImagesSince before after old.header (MaySettleAs p) → ImagesNow after new.header (MaySettleAs p)
  images_new since = λ image left. subst (λ (h : Header). StandsForSome h (MaySettleAs p) image) (sym same)
      (at_end before after (StandsForSome old.header (MaySettleAs p)) since image left)

  pub settled_peer_of : (list : List Command) (number now : ℕ) → MaySettleAs p list → ServesSome list new after → after.armings ≡ before.armings → KeepsCounts before after number now
      → (q : Peer) × ServesAs new after q × OpensAs p q (Ok tt)
  settled_peer_of list number now may some armings counts = (
    settled_with list after,
    open_serves new after list some,
    (record { list = may; pending = refl }, counts.cloud ∙ sym serving.stands.faults, armings ∙ sym serving.stands.armings),
  )

  opened_peer : (list : List Command) (commands number now : ℕ) → MaySettleAs p list → ServesSome list new after → commands ≡ new.commands → after.armings ≡ before.armings
      → KeepsCounts before after number now → (q : Peer) × ServesAs new after q × ReopensAs begin p q (Ok commands)
  opened_peer list commands number now may some is armings counts = (
    settled_with list after,
    open_serves new after list some,
    (record { list = may; pending = refl }, counts.cloud ∙ sym serving.stands.faults, armings ∙ sym serving.stands.armings, is ∙ sym some.serves.known.number),
  )

  failed_peer : after.armings ≡ before.armings → Rose before.faults after.faults → ImagesSince before after old.header (MaySettleAs p) → ¬ (IsOpen new)
      → (q : Peer) × ServesAs new after q × ReopensAs begin p q (Err errors.Fault)
  unfolding still_peer
  failed_peer armings rose since shut = (
    still_peer p after,
    closed_serves new after (still_peer p after) (images_new since) refl refl (λ list may. within_new list (serving.within list may)) shut,
    (
      record { list = refl; pending = refl },
      subst (λ (n : ℕ). Rose n after.faults) (sym serving.stands.faults) rose,
      armings ∙ sym serving.stands.armings,
    ),
  )

  unbegun_peer : (len number now : ℕ) → IsImage before.now (reads before.now) → after.armings ≡ before.armings → KeepsCounts before after number now
      → ImagesSince before after old.header (MaySettleAs p) → ¬ (IsOpen new) → IsUnbegun (before.now Journal).read → begin ≡ false
      → (q : Peer) × ServesAs new after q × ReopensAs begin p q (Err (errors.NotBegun len))
  unbegun_peer len number now read armings counts since shut unbegun unasked =
      let stands = read_stands old before p serving read in
      let none = none_unbegun (reads before.now) old.header stands.0 stands.2 unbegun in (
        p,
        closed_serves new after p (images_new since) (serving.stands.faults ∙ sym counts.cloud) (serving.stands.armings ∙ sym armings) (λ list may. within_new list (serving.within list may)) shut,
        (refl, unasked, subst (MaySettleAs p) none stands.1),
      )

  module _ (format : old.header.format ≡ 2) (rooms : AreRooms old.header.rooms) (read : IsImage before.now (reads before.now)) where
    -- over what a peer stands for
    ends_well : (r : Result ℕ OpenErr) → ((l : List Command) → StandsFor (reads before.now) old.header l → MayHold old.header l → MayBegin (before.now Journal).read begin → IsOkOrFault r)
        → MayBegin (before.now Journal).read begin → IsOkOrFault r
    ends_well r whole may =
        let stands = read_stands old before p serving read in
        whole_for old.header (reads before.now) stands.0 begin (before.now Journal).read r format rooms whole stands.2 (serving.within stands.0 stands.1) may

    -- the list that is read
    pub read_served : (r : Result ℕ OpenErr) → ((l : List Command) → StandsFor (reads before.now) old.header l → MayHold old.header l → OnOk r (ServesSome l new after))
        → (list : List Command) × MaySettleAs p list × OnOk r (ServesSome list new after)
    read_served r serves =
        let stands = read_stands old before p serving read in
        (stands.0, stands.1, serves stands.0 stands.2 (may_hold old.header (reads before.now) stands.0 format rooms stands.2 (serving.within stands.0 stands.1)))

    pub reopens : (r : Result ℕ OpenErr) (number now : ℕ) → OnErr r (¬ (IsOpen new)) → after.armings ≡ before.armings → ImagesSince before after old.header (MaySettleAs p)
        → ((l : List Command) → StandsFor (reads before.now) old.header l → MayHold old.header l → OnOk r (ServesSome l new after)) → IfOk r (λ (commands : ℕ). commands ≡ new.commands)
        → ((l : List Command) → StandsFor (reads before.now) old.header l → MayHold old.header l → MayBegin (before.now Journal).read begin → IsOkOrFault r)
        → NotBegunIs before after begin r → OnFault r (HasFailed before after number now) (KeepsCounts before after number now)
        → (q : Peer) × ServesAs new after q × ReopensAs begin p q r
    reopens (Ok commands) number now shut armings since serves is whole not_begun counts =
        let l = read_served (Ok commands) serves in opened_peer l.0 commands number now l.1 l.2 is armings counts
    reopens (Err errors.Fault) number now shut armings since serves is whole not_begun counts = failed_peer armings counts.cloud since shut
    reopens (Err (errors.NotBegun len)) number now shut armings since serves is whole not_begun counts =
        unbegun_peer len number now read armings counts since shut not_begun.0 not_begun.1
    reopens (Err (errors.Damaged at byte)) number now shut armings since serves is whole not_begun counts = absurd (ends_well (Err (errors.Damaged at byte)) whole not_begun)
    reopens (Err (errors.OtherStore found asked at)) number now shut armings since serves is whole not_begun counts =
        absurd (ends_well (Err (errors.OtherStore found asked at)) whole not_begun)

-- ---- an opening where it is needed

pub open_before : (s : CloudStore) (cloud : Cloud) (p : Peer) → ServesAs s cloud p → IsOpen s → (q : Peer) × ServesAs s cloud q × OpensAs p q (Ok tt)
open_before s cloud p serving opened = (
  settled_with p.list cloud,
  open_serves s cloud p.list (serving.ready opened),
  (record { list = inl refl; pending = refl }, sym serving.stands.faults, sym serving.stands.armings),
)

pub open_images : (s : CloudStore) (cloud : Cloud) (p : Peer) → ServesAs s cloud p → ImagesSince cloud cloud s.header (MaySettleAs p)
open_images s cloud p serving = started cloud (StandsForSome s.header (MaySettleAs p)) serving.stands.images

pub error_opens : (p q : Peer) (error : OpenErr) → ReopensAs true p q (Err error) → OpensAs p q (Err error)
error_opens p q errors.Fault r = r
error_opens p q (errors.NotBegun len) r = absurd (let f : true ≡ false = r.1 in cc)
error_opens p q (errors.Damaged at byte) r = r
error_opens p q (errors.OtherStore found asked at) r = r

pub may_come : (error : OpenErr) → HasBegun (an_error error) → MayCome error
may_come errors.Fault begun = tt
may_come (errors.NotBegun len) begun = begun
may_come (errors.Damaged at byte) begun = tt
may_come (errors.OtherStore found asked at) begun = tt

with_memory : (header : Header) (image : Image) (new : CloudStore) (r : Result ℕ OpenErr) → OnFault r (Unit {0}) (Opens header true image (memory_of new.memory) r)
    → OnFault r (Unit {0}) (OpensTo header true image r)
with_memory header image new (Ok value) exact = (memory_of new.memory, exact)
with_memory header image new (Err errors.Fault) exact = tt
with_memory header image new (Err (errors.NotBegun len)) exact = (memory_of new.memory, exact)
with_memory header image new (Err (errors.Damaged at byte)) exact = (memory_of new.memory, exact)
with_memory header image new (Err (errors.OtherStore found asked at)) exact = (memory_of new.memory, exact)

pub is_unopened : (old new : CloudStore) (before after : Cloud) (error : OpenErr) → ¬ (IsOpen old) → old.header.format ≡ 2 → AreRooms old.header.rooms
    → (IsTrue before.told → OnFault (an_error error) (Unit {0}) (Opens old.header true (reads before.now) (memory_of new.memory) (an_error error)))
    → (IsTrue before.told → (l : List Command) → StandsFor (reads before.now) old.header l → MayHold old.header l → MayBegin (before.now Journal).read true → IsOkOrFault (an_error error))
    → (IsTrue before.told → Spares old.header true before after (an_error error)) → IsUnopened old before after error
is_unopened old new before after error shut format rooms exact whole spares = record {
  closed = shut;
  exact = λ told. with_memory old.header (reads before.now) new (an_error error) (exact told);
  other_store = λ told. other_store_is old.header true before after (memory_of new.memory) (an_error error) (exact told);
  whole = λ told list stands within.
      whole_for old.header (reads before.now) list true (before.now Journal).read (an_error error) format rooms (whole told) stands within (λ none. refl);
  areas = spares;
}

-- ---- the journal

pub read_to_end : (s : CloudStore) (header : Header) (cloud : Cloud) (r : Result ℕ OpenErr) → IfOk r (λ commands. IsReadWhole header s.disk.journal (memory_of s.memory) commands cloud) → OnOk r (IsReadToEnd s cloud)
read_to_end s header cloud (Err e) is = tt
read_to_end s header cloud (Ok commands) is = (is.w, is.ended)

-- areas without a journal stand for no commands
abbrev pub NoneStands : Type 0
NoneStands = (image : Image) (header : Header) → HasNoJournal image → StandsFor image header []
