-- What an opening gives over areas that stand for a list.
use Rattle.std.proofs.Common.{◌≡◌, ◌⊎◌, inl, inr, ℕ, Bool, true, false, IsTrue, List, [], length, Result, Ok, Err, IfOk, OnOk, refl, sym, ◌∙◌, ap, subst}
use Rattle.std.proofs.lemmas.List.{length-map}
use Rattle.cloud_disk.specs.CdEdges.area.Area.TheVariants.{Journal, Shares, Recipes}
use Rattle.cloud_disk.specs.CdEdges.Disk.{Image, Cloud, reads}
use Rattle.cloud_disk.specs.JournalStart.start.Header.{Header}
use Rattle.cloud_disk.specs.JournalStart.start.Start.{Start}
use Rattle.cloud_disk.specs.JournalHalves.Halves.{half_of, half_limit}
use Rattle.cloud_disk.specs.JournalHalves.Journals.{Where, all_bodies, HasChain}
use Rattle.cloud_disk.specs.JournalHalves.Records.{IsJournal}
use Rattle.cloud_disk.specs.CommitJournal.errors.OpenErr.{OpenErr}
use Rattle.cloud_disk.specs.CommitJournal.errors.OpenErr.TheVariants.{Fault, NotBegun, Damaged, OtherStore}
use Rattle.cloud_disk.specs.CommitJournal.Openings.{OnFault}
use Rattle.cloud_disk.specs.JournalHalves.Beginnings.{IsUnbegun}
use Rattle.cloud_disk.specs.CommitJournal.States.{JournalState, IsJournalEnded}
use Rattle.cloud_disk.specs.RecordBody.Spelling.{body_bytes}
use Rattle.cloud_disk.specs.UserDedup.command.Command.{Command}
use Rattle.cloud_disk.specs.UserDedup.Cloud.{counted}
use Rattle.cloud_disk.specs.CloudAreas.Standing.{where_of, region_in, number_at, HasList, StandsFor}
use Rattle.cloud_disk.specs.Disk.{Disk, AreEnds, IsOn}
use Rattle.cloud_disk.proofs.CommitJournal.Opening.{not_unbegun}
use Rattle.record_laws.specs.RecordChecks.CloudMemory.Memory.{Memory}
use Rattle.record_laws.specs.Leaving.{MayHold, IsLeftIn}
use Rattle.record_laws.proofs.Chain.{left_ends, left_stands}
use Rattle.cloud_opening.specs.Exact.{ReplaysAll, number_behind, Opens, Unbegun, NoStart, Other, New, Read}
use Rattle.cloud_opening.specs.Spared.{IsReadWhole, IsLoaded, IsOkOrFault, MayBegin}
use Rattle.cloud_opening.specs.Steps.{IsListFound}
use Rattle.cloud_opening.proofs.Stated.{Laws}
use Rattle.cloud_opening.proofs.Current.{same_half, same_start}
use Rattle.cloud_opening.proofs.Lawful.{all_lawful, all_is_left}
use Rattle.cloud_opening.proofs.OneStart.{unbegun_whole, current_whole}

-- a journal that was read to its end has its chain
ended_chain : (journal : JournalState) (cloud : Cloud) (w : Where) → IsJournalEnded journal (cloud.now Journal) w → HasChain (cloud.now Journal).read w
ended_chain journal cloud w e = record {
  current = e.is_current;
  chain_is = subst (λ (h : ℕ). IsJournal (all_bodies w) (half_of h (cloud.now Journal).read)) e.half e.read.chain_is;
}

abbrev ok_count : ℕ → Result ℕ OpenErr
ok_count n = Ok n

count_of : (a b : ℕ) → ok_count a ≡ ok_count b → a ≡ b
count_of a b e = cc

pub found : (laws : Laws) (header : Header) (list : List Command) (journal : JournalState) (m : Memory) (commands : ℕ) (cloud : Cloud) → IsTrue cloud.told → IsReadWhole header journal m commands cloud
    → StandsFor (reads cloud.now) header list → MayHold header list → journal.limit ≡ half_limit header.rooms → IsListFound header list journal m commands cloud
found laws header list journal m commands cloud told r stands may limit =
    let image = reads cloud.now in
    let h = laws.chain_of image header list r.w stands (ended_chain journal cloud r.w r.ended) in
    let c = h.chain_of in
    let all = all_lawful laws header image list c may h.holds m (Ok commands) h.is_chain (subst (λ (v : Where). ReplaysAll header v.half v.start image m (Ok commands)) (sym h.bytes) r.replays) in
    let number = laws.number image header list (where_of c) stands h.is_chain.there in
    let long : number_behind c.start (length c.records) ≡ number_at (where_of c) = ap (number_behind c.start) (sym (length-map c.records body_bytes)) in
    record {
      c = c;
      counted_is = count_of commands (number_behind c.start (length c.records)) all.answer_is ∙ long ∙ sym number;
      read = record {
        told = told;
        sound = may.sound;
        on_disk = r.on_disk;
        limit = limit;
        ended = subst (IsJournalEnded journal (cloud.now Journal)) (sym h.bytes) r.ended;
        is_chain = h.is_chain;
        holds = h.holds;
      };
      left = subst (IsLeftIn header image (region_in c) list c.records) (sym all.memory_is) (all_is_left laws header image list c may h.holds);
    }

-- the ends of the memory are ends of the disk
pub ends_of : (header : Header) (list : List Command) (disk : Disk) (m : Memory) (commands : ℕ) (cloud : Cloud) (f : IsListFound header list disk.journal m commands cloud) → disk.shares.area ≡ Shares → disk.recipes.area ≡ Recipes
    → AreEnds header list f.c disk m.shares_end m.recipes_end cloud
ends_of header list disk m commands cloud f shares recipes =
    let e = left_ends header.shape (cloud.now Recipes).read header.rooms.users (region_in f.c) list f.c.records m f.left f.read.holds.rooms in
    record { read = f.read; shares_area = shares; recipes_area = recipes; shares = e.shares; recipes = e.recipes }

pub loaded_by : (header : Header) (list : List Command) (journal : JournalState) (disk : Disk) (m : Memory) (commands : ℕ) (cloud : Cloud) (f : IsListFound header list journal m commands cloud) → IsOn header list f.c disk cloud
    → (commands ≡ counted list) × IsLoaded header list disk m cloud
loaded_by header list journal disk m commands cloud f on = (
  f.counted_is,
  record {
    c = f.c;
    on = on;
    remembers = f.left.remembers;
    placed = f.left.placed;
    ends = left_ends header.shape (cloud.now Recipes).read header.rooms.users (region_in f.c) list f.c.records m f.left f.read.holds.rooms;
    stand = left_stands header (reads cloud.now) list f.c f.read.holds m f.left;
  },
)

-- ---- only Ok or Fault comes

stands_cases : (image : Image) (header : Header) (list : List Command) → StandsFor image header list → HasList image header list ⊎ (IsUnbegun (image Journal) × (list ≡ []))
unfolding StandsFor
stands_cases image header list s = s.1

not_true : (begin : Bool) → begin ≡ false → IsTrue begin → ⊥
not_true begin off on = let both : begin ≡ true = on in cc

-- an answer of Ok
abbrev HasOk : Result ℕ OpenErr → Type 0
HasOk answer = (commands : ℕ) × (answer ≡ Ok commands)

module _ (laws : Laws) (header : Header) (begin : Bool) (image : Image) (new : Memory) (list : List Command) (may : MayHold header list) (begins : MayBegin (image Journal) begin) where
  on_chain : HasList image header list → (answer : Result ℕ OpenErr) → Opens header begin image new answer → HasOk answer
  on_chain h answer (Unbegun none not) = absurd (not_true begin not (begins none))
  on_chain h answer (NoStart at byte damage) = absurd (current_whole (image Journal) h.chain_of.half h.chain_of.start h.is_chain.there.current at byte damage)
  on_chain h answer (Other half start current other) =
      absurd (other (ap (λ (s : Start). s.header) (same_start (image Journal) half h.chain_of.half start h.chain_of.start current h.is_chain.there.current) ∙ h.is_chain.header_is))
  on_chain h answer (New none is memory) = (0, refl)
  on_chain h answer (Read half start a current same replays) =
      let c = h.chain_of in
      let half_is = same_half (image Journal) half c.half start c.start current h.is_chain.there.current in
      let start_is = same_start (image Journal) half c.half start c.start current h.is_chain.there.current in
      let all = all_lawful laws header image list c may h.holds new answer h.is_chain
      (subst (λ (s : Start). ReplaysAll header c.half s image new answer) start_is (subst (λ (n : ℕ). ReplaysAll header n start image new answer) half_is replays)) in
      (_, all.answer_is)

  on_none : IsUnbegun (image Journal) → (answer : Result ℕ OpenErr) → Opens header begin image new answer → HasOk answer
  on_none none answer (Unbegun none2 not) = absurd (not_true begin not (begins none))
  on_none none answer (NoStart at byte damage) = absurd (unbegun_whole (image Journal) at byte none damage)
  on_none none answer (Other half start current other) = absurd (not_unbegun (image Journal) half start current none)
  on_none none answer (New none2 is memory) = (0, refl)
  on_none none answer (Read half start a current same replays) = absurd (not_unbegun (image Journal) half start current none)

  has_ok : StandsFor image header list → (answer : Result ℕ OpenErr) → Opens header begin image new answer → HasOk answer
  has_ok stands answer opens = elim (stands_cases image header list stands) [
    | inl h ↦ on_chain h answer opens
    | inr none ↦ on_none none.0 answer opens
  ]

  never : (error : OpenErr) → HasOk (Err error) → ⊥
  never error h = let same : Err error ≡ ok_count h.0 = h.1 in cc

  pub whole : StandsFor image header list → (result : Result ℕ OpenErr) → OnFault result (Unit {0}) (Opens header begin image new result) → IsOkOrFault result
  whole stands (Ok commands) opens = tt
  whole stands (Err Fault) opens = tt
  whole stands (Err (NotBegun len)) opens = never _ (has_ok stands _ opens)
  whole stands (Err (Damaged at byte)) opens = never _ (has_ok stands _ opens)
  whole stands (Err (OtherStore found_one asked at)) opens = never _ (has_ok stands _ opens)

-- ---- of each answer

pub found_after : (laws : Laws) (header : Header) (list : List Command) (journal : JournalState) (m : Memory) (result : Result ℕ OpenErr) (cloud : Cloud) → IsTrue cloud.told → IfOk result (λ (commands : ℕ). IsReadWhole header journal m commands cloud)
    → OnOk result (StandsFor (reads cloud.now) header list) → MayHold header list → journal.limit ≡ half_limit header.rooms → IfOk result (λ (commands : ℕ). IsListFound header list journal m commands cloud)
found_after laws header list journal m (Ok commands) cloud told r stands may limit = found laws header list journal m commands cloud told r stands may limit
found_after laws header list journal m (Err e) cloud told r stands may limit = tt
