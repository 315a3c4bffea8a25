-- What an opening answers of a journal that isn't begun, and of one with another header, by what the bytes come to.
use Rattle.std.proofs.Common.{◌≡◌, ℕ, Bool, false, List, length, Result, Ok, Err, refl, sym, ap, ◌∙◌}
use Rattle.server_requests.specs.CdEdges.area.Area.TheVariants.{Journal}
use Rattle.server_requests.specs.CdEdges.Disk.{Cloud, Image, reads}
use Rattle.server_requests.specs.CommitJournal.errors.OpenErr.{OpenErr}
use Rattle.server_requests.specs.CommitJournal.errors.OpenErr.TheVariants.{Fault, NotBegun, Damaged, OtherStore}
use Rattle.server_requests.specs.CommitJournal.Openings.{OnFault}
use Rattle.blob_copy.specs.JournalHalves.Beginnings.{IsUnbegun}
use Rattle.server_requests.specs.JournalStart.start.Header.{Header}
use Rattle.server_requests.specs.JournalStart.start.Start.{Start}
use Rattle.blob_copy.specs.CloudOpening.CloudMemory.Memory.{Memory}
use Rattle.blob_copy.specs.CloudOpening.RecordChecks.ground.Ground.{Ground}
use Rattle.blob_copy.specs.CloudOpening.RecordChecks.taking.Taking.{Taking}
use Rattle.blob_copy.specs.CloudOpening.Exact.{Replays, Ended, Early, Taken, Refused, Broken, Opens, Unbegun, NoStart, Other, New, Read}
use Rattle.blob_copy.specs.CloudOpening.Spared.{MayBegin, Spares}
use Rattle.blob_copy.specs.CloudOpening.Steps.{IsOfRecords}
use Rattle.blob_copy.proofs.CloudOpening.Bounds.{closes_kind}
use Rattle.blob_copy.proofs.CloudOpening.Current.{same_start}
use Rattle.blob_copy.proofs.CloudOpening.OneStart.{unbegun_whole, current_whole}
use Rattle.blob_copy.proofs.CommitJournal.Opening.{not_unbegun}
use Rattle.share_server.specs.Openings.{NotBegunIs, HasNoOther, OtherStoreIs}

-- ---- records

replays_kind : (g : Ground) (half : ℕ) (start : Start) (recipes : List ℕ) (new : Memory) (rest : List ℕ) (gate records : ℕ) (old : Memory) (t : Taking) (answer : Result ℕ OpenErr)
    → Replays g half start recipes new rest gate records old t answer → IsOfRecords answer
replays_kind g half start recipes new rest gate records old t answer (Ended l k n u a closed full closes) = closes_kind g new t _ answer closes
replays_kind g half start recipes new rest gate records old t answer (Early l k n o u closed few) = tt
replays_kind g half start recipes new rest gate records old t answer (Taken l body read k n o mid u after a is reads judged noted more) =
    replays_kind g half start recipes new _ _ _ mid after answer more
replays_kind g half start recipes new rest gate records old t answer (Refused l body read k n o u damage is reads judged) = tt
replays_kind g half start recipes new rest gate records old t answer (Broken l k n at byte o u damage) = tt

-- ---- an opening

-- what it answers where no half is begun
abbrev UnbegunAs : List ℕ → Bool → Result ℕ OpenErr → Type 0
UnbegunAs journal begin (Err (NotBegun len)) = IsUnbegun journal × (begin ≡ false) × (len ≡ length journal)
UnbegunAs journal begin (Err Fault) = Unit {0}
UnbegunAs journal begin (Ok value) = MayBegin journal begin
UnbegunAs journal begin (Err (Damaged at byte)) = MayBegin journal begin
UnbegunAs journal begin (Err (OtherStore found asked at)) = MayBegin journal begin

records_begun : (journal : List ℕ) (begin : Bool) (answer : Result ℕ OpenErr) → IsOfRecords answer → MayBegin journal begin → UnbegunAs journal begin answer
records_begun journal begin (Ok value) kind may = may
records_begun journal begin (Err Fault) kind may = tt
records_begun journal begin (Err (Damaged at byte)) kind may = may
records_begun journal begin (Err (NotBegun len)) kind may = absurd kind
records_begun journal begin (Err (OtherStore found asked at)) kind may = absurd kind

records_own : (journal : List ℕ) (header : Header) (answer : Result ℕ OpenErr) → IsOfRecords answer → HasNoOther journal header → OtherStoreIs journal header answer
records_own journal header (Ok value) kind none = none
records_own journal header (Err Fault) kind none = tt
records_own journal header (Err (Damaged at byte)) kind none = none
records_own journal header (Err (NotBegun len)) kind none = absurd kind
records_own journal header (Err (OtherStore found asked at)) kind none = absurd kind

module _ (header : Header) (begin : Bool) (image : Image) (new : Memory) where
  unbegun_as : (result : Result ℕ OpenErr) → Opens header begin image new result → UnbegunAs (image Journal) begin result
  unbegun_as result (Unbegun none not) = (none, not, refl)
  unbegun_as result (NoStart at byte damage) = λ none. absurd (unbegun_whole (image Journal) at byte none damage)
  unbegun_as result (Other half start current other) = λ none. absurd (not_unbegun (image Journal) half start current none)
  unbegun_as result (New none is memory) = λ again. is
  unbegun_as result (Read half start answer current same replays) =
      records_begun (image Journal) begin result (replays_kind _ _ _ _ new _ _ _ _ _ result replays) (λ none. absurd (not_unbegun (image Journal) half start current none))

  other_as : (result : Result ℕ OpenErr) → Opens header begin image new result → OtherStoreIs (image Journal) header result
  other_as result (Unbegun none not) = λ half found has. absurd (not_unbegun (image Journal) half has.start has.is_current none)
  other_as result (NoStart at byte damage) = λ half found has. absurd (current_whole (image Journal) half has.start has.is_current at byte damage)
  other_as result (Other half start current other) = (half, record { start = start; is_current = current; header_is = refl }, other, refl, refl)
  other_as result (New none is memory) = λ half found has. absurd (not_unbegun (image Journal) half has.start has.is_current none)
  other_as result (Read half start answer current same replays) =
      records_own (image Journal) header result (replays_kind _ _ _ _ new _ _ _ _ _ result replays)
      (λ there found has. sym has.header_is ∙ ap (λ (s : Start). s.header) (same_start (image Journal) there half has.start start has.is_current current) ∙ same)

-- ---- by what an opening says of a told cloud

module _ (header : Header) (begin : Bool) (before after : Cloud) (m : Memory) where
  pub not_begun_is : (r : Result ℕ OpenErr) → OnFault r (Unit {0}) (Opens header begin (reads before.now) m r) → Spares header begin before after r → NotBegunIs before after begin r
  not_begun_is (Ok value) exact spares = unbegun_as header begin (reads before.now) m (Ok value) exact
  not_begun_is (Err Fault) exact spares = tt
  not_begun_is (Err (NotBegun len)) exact spares = (let u = unbegun_as header begin (reads before.now) m (Err (NotBegun len)) exact in (u.0, u.1, u.2, spares.unasked u.1))
  not_begun_is (Err (Damaged at byte)) exact spares = unbegun_as header begin (reads before.now) m (Err (Damaged at byte)) exact
  not_begun_is (Err (OtherStore found asked at)) exact spares = unbegun_as header begin (reads before.now) m (Err (OtherStore found asked at)) exact

  pub other_store_is : (r : Result ℕ OpenErr) → OnFault r (Unit {0}) (Opens header begin (reads before.now) m r) → OtherStoreIs (before.now Journal).read header r
  other_store_is (Ok value) exact = other_as header begin (reads before.now) m (Ok value) exact
  other_store_is (Err Fault) exact = tt
  other_store_is (Err (NotBegun len)) exact = other_as header begin (reads before.now) m (Err (NotBegun len)) exact
  other_store_is (Err (Damaged at byte)) exact = other_as header begin (reads before.now) m (Err (Damaged at byte)) exact
  other_store_is (Err (OtherStore found asked at)) exact = other_as header begin (reads before.now) m (Err (OtherStore found asked at)) exact
