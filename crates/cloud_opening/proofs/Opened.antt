-- A journal that was found or begun, and what comes of its records.
use Rattle.std.proofs.Common.{◌≡◌, ◌≢◌, inl, inr, ℕ, ◌+◌, ◌*◌, ◌<◌, Bool, IsTrue, List, [], ◌∷◌, ◌++◌, length, drop, Result, Ok, Err, IfOk, OnOk, refl, sym, ◌∙◌, ap, subst, arith, append_assoc, length-append}
use Rattle.std.specs.List.{Contains}
use Rattle.std.proofs.lemmas.List.{append_cancel_left, drop_at}
use Rattle.cloud_disk.specs.CdEdges.area.Area.{Area}
use Rattle.cloud_disk.specs.CdEdges.area.Area.TheVariants.{Journal, Shares, Recipes}
use Rattle.cloud_disk.specs.CdEdges.Disk.{Store, Areas, Image, Cloud, IsImage, LeavesOnly, reads}
use Rattle.cloud_disk.specs.CdEdges.Shelf.{stable, Stays}
use Rattle.cloud_disk.proofs.CdEdges.Moments.{joined, stayed, weaker, at_end}
use Rattle.cloud_disk.specs.JournalHalves.Records.{sized, chain, IsDamage, LastGate, BadLength}
use Rattle.cloud_disk.specs.JournalHalves.Frames.{IsClosed, IsRecordAhead}
use Rattle.cloud_disk.specs.JournalStart.start.Header.{Header}
use Rattle.cloud_disk.specs.JournalStart.start.Start.{Start}
use Rattle.cloud_disk.specs.JournalStart.Spelling.{start_bytes, records_of, commands_of, region_of}
use Rattle.cloud_disk.specs.JournalHalves.Halves.{half_len, half_of, IsCurrent}
use Rattle.cloud_disk.specs.JournalHalves.Journals.{Where, HasChain}
use Rattle.cloud_disk.proofs.JournalHalves.Laying.{split}
use Rattle.cloud_disk.proofs.CommitJournal.Opening.{not_unbegun}
use Rattle.cloud_disk.proofs.JournalHalves.Unique.{head_of}
use Rattle.cloud_disk.specs.JournalHalves.Findings.{part_of}
use Rattle.cloud_disk.specs.CommitJournal.errors.OpenErr.{OpenErr}
use Rattle.cloud_disk.specs.CommitJournal.errors.OpenErr.TheVariants.{Fault, NotBegun, Damaged, OtherStore}
use Rattle.cloud_disk.specs.CommitJournal.Openings.{IsNewOrUnbegun, MayBeBegun, OpensIs, OnFault}
use Rattle.cloud_disk.specs.JournalHalves.Beginnings.{IsUnbegun}
use Rattle.cloud_disk.specs.CommitJournal.States.{JournalState, IsJournalReading}
use Rattle.cloud_disk.specs.JournalHalves.Beginnings.{new_of}
use Rattle.cloud_disk.specs.CommitJournal.States as half_states
use Rattle.cloud_disk.specs.UserDedup.command.Command.{Command}
use Rattle.cloud_disk.specs.CloudAreas.Standing.{StandsFor}
use Rattle.record_laws.specs.RecordChecks.CloudMemory.Memory.{Memory}
use Rattle.record_laws.specs.RecordChecks.CloudMemory.Steps.{begun}
use Rattle.record_laws.specs.RecordChecks.ground.Ground.{Ground}
use Rattle.record_laws.specs.RecordChecks.taking.Taking.{Taking}
use Rattle.cloud_opening.specs.Exact.{Closes, Within, SharesPast, RecipesPast, number_behind, Replays, Ended, Early, Taken, Refused, Broken, ReplaysAll, Opens, Unbegun, NoStart, Other, New, Read}
use Rattle.cloud_opening.specs.Spared.{Spares, StandsForAnyOf, KeepsLists, IsReadWhole}
use Rattle.cloud_opening.specs.Starts.{IsStarted}
use Rattle.cloud_opening.specs.Steps.{HasChainEnded}
use Rattle.cloud_opening.proofs.Current.{same_half, same_start}
use Rattle.cloud_opening.proofs.Synced.{none_behind, of_all, on_answer, same_err, always}

-- ---- nothing comes behind a closed gate

pub not_open : (rest body : List ℕ) → IsClosed rest → IsRecordAhead rest body → ⊥
not_open rest body c r = c.shut (head_of c.gate 1 c.behind (sized body ++ r.gate ∷ r.behind) (sym c.spelled ∙ r.spelled))

pub not_broken : (rest : List ℕ) (gate at byte : ℕ) → IsClosed rest → IsDamage rest gate at byte → ⊥
not_broken rest gate at byte c (LastGate is place same) = c.shut (head_of c.gate 1 c.behind [] (sym c.spelled ∙ is))
not_broken rest gate at byte c (BadLength tail is none place) = c.shut (head_of c.gate 1 c.behind (byte ∷ tail) (sym c.spelled ∙ is))

-- what comes of no records
pub record IsNone (m new : Memory) (answer : Result ℕ OpenErr) : Type 0 where
  pub answer_is : answer ≡ Ok 0
  pub memory_is : new ≡ m

closes_begun : (g : Ground) (m : Memory) (t : Taking) (number users : ℕ) (answer : Result ℕ OpenErr) → Closes g m t number answer → m ≡ begun users g.region → answer ≡ Ok number
closes_begun g m t number users answer (Within shares recipes) same = refl
closes_begun g m t number users answer (SharesPast field past noted) same = absurd (omega (arith, past, ap (λ (x : Memory). x.shares_end) same))
closes_begun g m t number users answer (RecipesPast field fit past noted) same = absurd (omega (arith, past, ap (λ (x : Memory). x.recipes_end) same))

none_behind_start : (start : Start) (records : ℕ) → records ≡ 0 → commands_of start.checkpoint ≡ 0 → number_behind start records ≡ 0
none_behind_start start records none zero_is = omega (arith, none, zero_is)

closed_none : (g : Ground) (half : ℕ) (start : Start) (recipes : List ℕ) (new : Memory) (rest : List ℕ) (gate records : ℕ) (old : Memory) (t : Taking) (answer : Result ℕ OpenErr) (users : ℕ)
    → Replays g half start recipes new rest gate records old t answer → IsClosed rest → records ≡ 0 → records_of start.checkpoint ≡ 0 → commands_of start.checkpoint ≡ 0 → old ≡ begun users g.region → IsNone (begun users g.region) new answer
closed_none g half start recipes new rest gate records old t answer users (Ended l n r u a closed full closes) c none no_records no_commands same =
    record { answer_is = closes_begun g new t (number_behind start records) users answer closes same ∙ ap Ok (none_behind_start start records none no_commands); memory_is = same }
closed_none g half start recipes new rest gate records old t answer users (Early l n r m u closed few) c none no_records no_commands same = absurd (omega (arith, few, no_records))
closed_none g half start recipes new rest gate records old t answer users (Taken l body read n r m mid u v a is reads judged noted more) c none no_records no_commands same = absurd (not_open rest body c is)
closed_none g half start recipes new rest gate records old t answer users (Refused l body read n r m u damage is reads judged) c none no_records no_commands same = absurd (not_open rest body c is)
closed_none g half start recipes new rest gate records old t answer users (Broken l n r at byte m u damage) c none no_records no_commands same = absurd (not_broken rest gate at byte c damage)

-- ---- a journal that was begun now

closed_front : (rest tail behind : List ℕ) (gate : ℕ) → 0 < length rest → gate ≢ 1 → rest ++ tail ≡ gate ∷ behind → IsClosed rest
closed_front [] tail behind gate some shut e = absurd (omega (arith, some))
closed_front (x ∷ xs) tail behind gate some shut e = record { gate = x; behind = xs; shut = λ one. shut (sym (head_of x gate (xs ++ tail) behind e) ∙ one); spelled = refl }

module _ (state : JournalState) (store : Store) (w : Where) (header : Header) (reading : IsJournalReading state store w) (none : w.bodies ≡ []) (new_chain : HasChain store.read (new_of header)) where
  abbrev journal : List ℕ
  journal = store.read

  new_half : w.half ≡ 0
  new_half = same_half journal w.half 0 w.start (new_of header).start reading.is_current new_chain.current

  new_start : w.start ≡ (new_of header).start
  new_start = same_start journal w.half 0 w.start (new_of header).start reading.is_current new_chain.current

  pub new_closed : IsClosed (drop (length (start_bytes w.start) + 5) (part_of w.half journal))
  new_closed =
      let body = start_bytes w.start in let front = chain (body ∷ []) in let j = new_chain.chain_is in
      let rest = reading.read.rest in
      let part : part_of w.half journal ≡ front ++ rest =
      ap (λ (h : ℕ). part_of h journal) (sym reading.half) ∙ reading.read.spelled ∙ ap (λ (l : List (List ℕ)). chain (body ∷ l) ++ rest) none in
      let whole : half_of w.half journal ≡ front ++ (j.gate ∷ j.behind) =
      ap (λ (h : ℕ). half_of h journal) new_half ∙ j.spelled ∙ ap (λ (s : Start). chain (start_bytes s ∷ []) ++ (j.gate ∷ j.behind)) (sym new_start) in
      let tail = drop half_len (half_of w.half journal) in
      let both : front ++ (rest ++ tail) ≡ front ++ (j.gate ∷ j.behind) =
      sym (append_assoc front rest tail) ∙ ap (λ (l : List ℕ). l ++ tail) (sym part) ∙ sym (split half_len (half_of w.half journal)) ∙ whole in
      let closed = closed_front rest tail j.behind j.gate reading.read.more j.shut (append_cancel_left front (rest ++ tail) (j.gate ∷ j.behind) both) in
      let long : length body + 5 ≡ length front = omega (arith, length-append body []) in
      subst IsClosed (sym (ap (λ (l : List ℕ). drop (length body + 5) l) part ∙ ap (λ (n : ℕ). drop n (front ++ rest)) long ∙ drop_at front rest (length front) refl)) closed

  pub new_none : (image : Image) (new : Memory) (answer : Result ℕ OpenErr) → image Journal ≡ journal → ReplaysAll header w.half w.start image new answer → IsNone (begun header.rooms.users 0) new answer
  new_none image new answer is replays =
      let no_checkpoint = ap (λ (s : Start). s.checkpoint) new_start in
      let region : region_of w.start.checkpoint ≡ 0 = ap (λ (s : Start). region_of s.checkpoint) new_start in
      subst (λ (r : ℕ). IsNone (begun header.rooms.users r) new answer) region
      (closed_none _ w.half w.start (image Recipes) new _ _ 0 _ _ answer header.rooms.users replays (subst (λ (l : List ℕ). IsClosed (drop (length (start_bytes w.start) + 5) (part_of w.half l))) (sym is) new_closed)
      refl (ap (λ (s : Start). records_of s.checkpoint) new_start) (ap (λ (s : Start). commands_of s.checkpoint) new_start) refl)

-- ---- the answer

opens_other : (header : Header) (begin : Bool) (image : Image) (new : Memory) (half at : ℕ) (start : Start) (found wanted : Header) → IsCurrent (image Journal) half start → start.header ≡ found → found ≢ header → wanted ≡ header
    → at ≡ half * half_len + 5 → Opens header begin image new (Err (OtherStore found wanted at))
opens_other header begin image new half at start found wanted c same other asked place =
    subst (λ (n : ℕ). Opens header begin image new (Err (OtherStore found wanted n))) (sym place)
    (subst (λ (h : Header). Opens header begin image new (Err (OtherStore found h (half * half_len + 5)))) (sym asked)
    (subst (λ (h : Header). Opens header begin image new (Err (OtherStore h header (half * half_len + 5)))) same (Other half start c (λ e. other (sym same ∙ e)))))

pub opens_err : (header : Header) (begin : Bool) (image : Image) (new : Memory) (error : OpenErr) → OpensIs (image Journal) header begin (Err error) → OnFault {T = ℕ} (Err error) (Unit {0}) (Opens header begin image new (Err error))
opens_err header begin image new Fault is = tt
opens_err header begin image new (OtherStore found wanted at) is = opens_other header begin image new is.0 at is.1.start found wanted is.1.is_current is.1.header_is is.2 is.3 is.4
opens_err header begin image new (Damaged at byte) is = NoStart at byte is
opens_err header begin image new (NotBegun len) is = subst (λ (n : ℕ). Opens header begin image new (Err (NotBegun n))) (sym is.2) (Unbegun is.0 is.1)

same_reads : (header : Header) (begin : Bool) (c0 c1 : Cloud) (state : JournalState) → IsStarted header begin c0 c1 state (Ok tt) → ¬ IsUnbegun (c0.now Journal).read → (area : Area) → (c1.now area).read ≡ (c0.now area).read
same_reads header begin c0 c1 state s no_one Journal = ap (λ (x : Store). x.read) (s.begun no_one)
same_reads header begin c0 c1 state s no_one Shares = ap (λ (x : Store). x.read) (s.others Shares (λ e. cc))
same_reads header begin c0 c1 state s no_one Recipes = ap (λ (x : Store). x.read) (s.others Recipes (λ e. cc))

module _ (header : Header) (begin : Bool) (c0 c1 : Cloud) (state : JournalState) (s : IsStarted header begin c0 c1 state (Ok tt)) (new : Memory) (result : Result ℕ OpenErr) where
  abbrev w : Where
  w = s.opened.w

  read_new : IsUnbegun (c0.now Journal).read → IsTrue begin → ReplaysAll header w.half w.start (reads c1.now) new result → Opens header begin (reads c0.now) new result
  read_new none is replays =
      let n = new_none state (c1.now Journal) w header s.opened.reading s.opened.none (s.unbegun none) (reads c1.now) new result refl replays in
      subst (Opens header begin (reads c0.now) new) (sym n.answer_is) (New none is n.memory_is)

  read_old : ¬ IsUnbegun (c0.now Journal).read → ReplaysAll header w.half w.start (reads c1.now) new result → Opens header begin (reads c0.now) new result
  read_old no_one replays =
      let same : reads c1.now ≡ reads c0.now = λ i area. same_reads header begin c0 c1 state s no_one area i in
      Read w.half w.start result (subst (λ (l : List ℕ). IsCurrent l w.half w.start) (same_reads header begin c0 c1 state s no_one Journal) s.opened.reading.is_current) s.opened.header_is
      (subst (λ (image : Image). ReplaysAll header w.half w.start image new result) same replays)

  by_answer : OpensIs (c0.now Journal).read header begin (Ok tt) → ReplaysAll header w.half w.start (reads c1.now) new result → Opens header begin (reads c0.now) new result
  by_answer (inl unbegun) replays = read_new unbegun.0 unbegun.1 replays
  by_answer (inr found) replays = read_old (not_unbegun (c0.now Journal).read found.0 found.1.start found.1.is_current) replays

  pub opens_ok : OnFault result (Unit {0}) (ReplaysAll header w.half w.start (reads c1.now) new result) → OnFault result (Unit {0}) (Opens header begin (reads c0.now) new result)
  opens_ok replays = on_answer result _ _ (by_answer s.answer) replays

-- ---- what is spared

pub then_stays : (c0 c1 c2 : Cloud) (P : Image → Type 0) → LeavesOnly c0 c1 P → Stays c1 c2 → LeavesOnly c0 c2 P
then_stays c0 c1 c2 P run stays = joined c0 c1 c2 P run (stayed c1 c2 P stays (at_end c0 c1 P run))

pub spares_err : (header : Header) (begin : Bool) (c0 c1 : Cloud) (state : JournalState) (error : OpenErr) → IsStarted header begin c0 c1 state (Err error) → IsImage c1.now (reads c1.now) → Spares {T = ℕ} header begin c0 c1 (Err error)
spares_err header begin c0 c1 state error s read = record {
  any_moment = s.any_moment;
  still_read = at_end c0 c1 _ s.any_moment (reads c1.now) read;
  synced = same_err (Unit {0}) ℕ error _ _ s.synced;
  begun_stays = λ no_one. same_err (Unit {0}) ℕ error _ _ (s.begun_stays no_one);
  unasked = λ none. same_err (Unit {0}) ℕ error _ _ (s.unasked none);
}

pub spares_ok : (header : Header) (begin : Bool) (c0 c1 c2 : Cloud) (state : JournalState) (result : Result ℕ OpenErr) → IsStarted header begin c0 c1 state (Ok tt) → Stays c1 c2 → IsImage c2.now (reads c2.now) → Spares header begin c0 c2 result
spares_ok header begin c0 c1 c2 state result s stays read =
    let run = then_stays c0 c1 c2 (MayBeBegun c0.now header begin) s.any_moment stays in
    record {
      any_moment = run;
      still_read = at_end c0 c2 _ run (reads c2.now) read;
      synced = of_all result _ (record { synced = s.synced.synced; first = s.synced.first; since = s.synced.since; past = stays.past ∙ s.synced.past });
      begun_stays = λ no_one. of_all result _ (none_behind c0 c1 c2 (s.begun_stays no_one) stays);
      unasked = λ none. of_all result _ (none_behind c0 c1 c2 (s.unasked none) stays);
    }

-- ---- the lists that the images stand for

module _ (header : Header) (begin : Bool) (c0 c1 : Cloud) (read : IsImage c0.now (reads c0.now))
    (unbegun : (image : Image) (h : Header) → IsUnbegun (image Journal) → StandsFor image h [])
    (started : (image : Image) (h : Header) → HasChain (image Journal) (new_of h) → StandsFor image h [])
    (only : (image : Image) (h : Header) (list : List Command) → StandsFor image h list → IsUnbegun (image Journal) → list ≡ []) where
  none_stands : (image : Image) → IsNewOrUnbegun header (image Journal) → StandsFor image header []
  none_stands image (inl none) = unbegun image header none
  none_stands image (inr new) = started image header new

  module _ (lists : List (List Command)) (now : (image : Image) → IsImage c0.now image → StandsForAnyOf header lists image) where
    become : (image : Image) → MayBeBegun c0.now header begin image → StandsForAnyOf header lists image
    become image (inl left) = now image left
    become image (inr new) =
        let some = now (reads c0.now) read in
        let none : some.0 ≡ [] = only (reads c0.now) header some.0 some.2 new.1 in
        ([], subst (Contains lists) none some.1, none_stands image new.2.area)

  pub keeps : LeavesOnly c0 c1 (MayBeBegun c0.now header begin) → KeepsLists header c0 c1
  keeps run lists now = weaker c0 c1 _ _ run (become lists now)

-- ---- what stands after Ok

module _ (header : Header) (begin : Bool) (c0 c1 c2 : Cloud) (state : JournalState) (s : IsStarted header begin c0 c1 state (Ok tt)) (stays : Stays c1 c2)
    (started : (image : Image) (h : Header) → HasChain (image Journal) (new_of h) → StandsFor image h [])
    (only : (image : Image) (h : Header) (list : List Command) → StandsFor image h list → IsUnbegun (image Journal) → list ≡ []) where
  at_area : (last : JournalState) → HasChainEnded last (c1.now Journal) s.opened.w → (area : Area) → c1.now area ≡ stable (c1.now area).read
  at_area last h Journal = h.ended.read.synced
  at_area last h Shares = s.others Shares (λ e. cc) ∙ ap (λ (x : Store). stable x.read) (sym (s.others Shares (λ e. cc)))
  at_area last h Recipes = s.others Recipes (λ e. cc) ∙ ap (λ (x : Store). stable x.read) (sym (s.others Recipes (λ e. cc)))

  pub read_whole : (last : JournalState) (new : Memory) (result : Result ℕ OpenErr) → OnOk result (HasChainEnded last (c1.now Journal) s.opened.w)
      → OnFault result (Unit {0}) (ReplaysAll header s.opened.w.half s.opened.w.start (reads c1.now) new result) → IfOk result (λ (commands : ℕ). IsReadWhole header last new commands c2)
  read_whole last new (Err e) ended replays = tt
  read_whole last new (Ok commands) ended replays = record {
    w = record s.opened.w { bodies = ended.bodies };
    header_is = s.opened.header_is;
    ended = subst (λ (a : Areas). half_states.IsJournalEnded last (a Journal) (record s.opened.w { bodies = ended.bodies })) (sym stays.now) ended.ended;
    on_disk = subst (λ (a : Areas). (area : Area) → a area ≡ stable (a area).read) (sym stays.now) (at_area last ended);
    replays = subst (λ (a : Areas). ReplaysAll header s.opened.w.half s.opened.w.start (reads a) new (Ok commands)) (sym stays.now) replays;
  }

  -- the list that the areas stand for
  stands_by : (list : List Command) → OpensIs (c0.now Journal).read header begin (Ok tt) → StandsFor (reads c0.now) header list → StandsFor (reads c2.now) header list
  stands_by list (inl unbegun) stands =
      let none : list ≡ [] = only (reads c0.now) header list stands unbegun.0 in
      let chain_new = subst (λ (a : Areas). HasChain (a Journal).read (new_of header)) (sym stays.now) (s.unbegun unbegun.0) in
      subst (StandsFor (reads c2.now) header) (sym none) (started (reads c2.now) header chain_new)
  stands_by list (inr found) stands =
      let no_one = not_unbegun (c0.now Journal).read found.0 found.1.start found.1.is_current in
      let same : reads c0.now ≡ reads c2.now = λ i area. (sym (same_reads header begin c0 c1 state s no_one area) ∙ ap (λ (a : Areas). (a area).read) (sym stays.now)) i in
      subst (λ (image : Image). StandsFor image header list) same stands

  pub stands_after : (list : List Command) (result : Result ℕ OpenErr) → StandsFor (reads c0.now) header list → OnOk result (StandsFor (reads c2.now) header list)
  stands_after list result stands = always result _ (stands_by list s.answer stands)
