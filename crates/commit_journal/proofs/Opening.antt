-- What an opening finds and leaves.
use Rattle.std.proofs.Common.{◌≡◌, ◌≢◌, ◌⊎◌, inl, inr, ℕ, ◌+◌, ◌-◌, ◌*◌, ◌<◌, ◌≤◌, Bool, true, false, IsTrue, List, [], ◌∷◌, ◌++◌, length, take, drop, Option, None, Result, Ok, Err, OnOk, refl, sym, ◌∙◌, ap, subst, arith, append-nil, length-append, length-drop}
use Rattle.std.proofs.lemmas.Bool.{false≢true}
use Rattle.journal_halves.specs.CdEdges.area.Area.{Area}
use Rattle.journal_halves.specs.CdEdges.area.Area.TheVariants.{Journal}
use Rattle.journal_halves.specs.CdEdges.Disk.{Store, Areas, Cloud, Image, MayLeave, IsImage, LeavesOnly, IsAtArea, overwritten}
use Rattle.journal_halves.specs.CdEdges.Shelf.{Stays, wrote, stable, Changes}
use Rattle.journal_halves.proofs.CdEdges.Moments.{joined, weaker, stayed, started, at_end}
use Rattle.journal_halves.proofs.CdEdges.Torn.{only}
use Rattle.journal_halves.specs.Records.{IsJournalBody, sized, chain, IsJournal, is_begun}
use Rattle.journal_halves.specs.Frames.{IsRecordAhead}
use Rattle.journal_halves.proofs.Begin.{journal_unbegun, unbegun_journal, small_unbegun, one_zero, zero_journal}
use Rattle.journal_halves.specs.JournalStart.start.Header.{Header}
use Rattle.journal_halves.specs.JournalStart.start.Start.{Start}
use Rattle.journal_halves.specs.JournalStart.Ranges.{IsHeader, IsStart}
use Rattle.journal_halves.specs.JournalStart.Spelling.{start_bytes, records_of}
use Rattle.journal_halves.specs.Halves.{half_len, half_of, is_half_begun, HasStart, IsCurrent}
use Rattle.journal_halves.specs.Journals.{Where, all_bodies, HasChain}
use Rattle.journal_halves.proofs.Current.{begun_half}
use Rattle.journal_halves.proofs.Laying.{starts}
use Rattle.journal_halves.specs.Findings.{part_of}
use Rattle.journal_halves.specs.States.{begun_at, IsHalfKept, IsAdded}
use Rattle.journal_halves.specs.States as records
use Rattle.commit_journal.specs.States.{JournalState, IsJournalReading}
use Rattle.journal_halves.specs.Beginnings.{new_of}
use Rattle.journal_halves.specs.declared.found.Found.{Found}
use Rattle.commit_journal.specs.declared.errors.OpenErr.{OpenErr}
use Rattle.commit_journal.specs.declared.errors.OpenErr.TheVariants.{Fault, NotBegun, Damaged, OtherStore}
use Rattle.commit_journal.specs.Openings.{IsNewOrUnbegun, MayBeBegun, OpensIs, IsOpened, IsOpening, HasHeader, FoundHalfIs, IsFree, IsReady}
use Rattle.journal_halves.specs.Beginnings.{IsUnbegun}
use Rattle.commit_journal.proofs.Kept.{record_off, unbegun_stays}

-- ---- a start is taken up

abbrev pub at_start : ℕ → Start → Where
at_start half start = record { half = half; start = start; bodies = [] }

pub reading_at : (state : JournalState) (store : Store) (half : ℕ) (start : Start) → store ≡ stable store.read → IsCurrent store.read half start → state.current ≡ begun_at half (length (start_bytes start) + 5) → state.start ≡ start
    → state.left ≡ records_of start.checkpoint → IsJournalReading state store (at_start half start)
reading_at state store half start synced c current same left =
    let body = start_bytes start in
    let r = record_off (half_of half store.read) body c.begun.record_is in
    let tail = r.gate ∷ r.behind in
    let half_is : state.current.half ≡ half = ap (λ (s : records.HalfState). s.half) current in
    let gate_is : state.current.gate ≡ length body + 5 = ap (λ (s : records.HalfState). s.gate) current in
    let none : state.current.ahead ≡ [] = ap (λ (s : records.HalfState). s.ahead) current in
    record {
      half = half_is;
      start = same;
      is_current = c;
      read = record {
        synced = synced;
        sizes = (r.is_body, tt);
        rest = tail;
        more = omega arith;
        spelled = ap (λ (h : ℕ). part_of h store.read) half_is ∙ r.spelled ∙ ap (λ (l : List ℕ). 1 ∷ (l ++ tail)) (sym (append-nil (sized body)));
        gate = omega (arith, gate_is, length-append body []);
        ahead = none ∙ sym (ap (λ (l : List ℕ). take (length l) tail) none);
      };
      left = omega (arith, left);
    }

pub opened_at : (state : JournalState) (store : Store) (half : ℕ) (start : Start) (asked : Header) → store ≡ stable store.read → IsCurrent store.read half start → state.current ≡ begun_at half (length (start_bytes start) + 5) → state.start ≡ start
    → state.left ≡ records_of start.checkpoint → start.header ≡ asked → IsOpened state store asked
opened_at state store half start asked synced c current same left header =
    record { w = at_start half start; header_is = header; none = refl; reading = reading_at state store half start synced c current same left }

-- ---- no half is begun

short_drop : (n : ℕ) (xs : List ℕ) → length xs ≤ 1 → length (drop n xs) ≤ 1
short_drop n xs few = omega (arith, few, length-drop n xs)

pub unbegun_small : (image : List ℕ) → length image ≤ 1 → IsUnbegun image
unbegun_small image few = record {
  first = small_unbegun (half_of 0 image) (short_drop (0 * half_len) image few);
  second = small_unbegun (half_of 1 image) (short_drop (1 * half_len) image few);
}

pub free_image : (store : Store) (len : ℕ) (image : List ℕ) → IsFree store len → MayLeave store image → IsUnbegun image
free_image store len image is left = subst IsUnbegun (sym (only store.read image (subst (λ (s : Store). MayLeave s image) is.synced left))) is.unbegun

pub free_wrote : (store : Store) (len : ℕ) (image : List ℕ) → IsFree store len → len < 2 → MayLeave (wrote store 0 (0 ∷ [])) image → IsUnbegun image
free_wrote store len image is short left =
    let left_of : MayLeave (wrote (stable store.read) 0 (0 ∷ [])) image = subst (λ (s : Store). MayLeave (wrote s 0 (0 ∷ [])) image) is.synced left in
    unbegun_small image (omega (arith, left_of.no_longer, is.len_is, short))

pub ready_already : (store : Store) (len : ℕ) → IsFree store len → 2 ≤ len → IsReady store
ready_already store len is long = record { synced = is.synced; unbegun = is.unbegun; closed = unbegun_journal store.read is.unbegun.first (omega (arith, long, is.len_is)) }

pub ready_wrote : (store last : Store) (len : ℕ) → IsFree store len → len < 2 → last ≡ stable (overwritten store.read 0 (0 ∷ [])) → IsReady last
ready_wrote store last len is short written =
    let read : last.read ≡ 0 ∷ [] = ap (λ (s : Store). s.read) written ∙ one_zero store.read (omega (arith, short, is.len_is)) in
    record {
      synced = written ∙ ap stable (sym (ap (λ (s : Store). s.read) written));
      unbegun = unbegun_small last.read (omega (arith, ap length read));
      closed = subst (λ (l : List ℕ). IsJournal [] l) (sym read) zero_journal;
    }

-- ---- half 0 is begun

pub plain_start : (header : Header) → IsHeader header → IsStart 0 (record { header = header; checkpoint = None })
plain_start header is = record { header = is; behind = refl }

pub ready_ended : (store : Store) → IsReady store → records.IsEnded (begun_at 0 0) store []
ready_ended store is = record { synced = is.synced; chain_is = is.closed; gate = refl; within = omega arith }

pub has_new : (old image : List ℕ) (header : Header) → IsUnbegun old → IsHeader header → IsHalfKept 0 old (all_bodies (new_of header)) image → HasChain image (new_of header)
has_new old image header unbegun is k = record {
  current = record {
    is_half = inl refl;
    begun = record {
      is_start = plain_start header is;
      record_is = subst (λ (l : List ℕ). IsRecordAhead l (start_bytes (new_of header).start)) (sym k.chain_is.spelled) (starts (start_bytes (new_of header).start) [] k.chain_is.gate k.chain_is.behind k.chain_is.sizes.0);
    };
    other = inl (unbegun_stays old image 1 k.other unbegun.second);
  };
  chain_is = k.chain_is;
}

pub new_or_unbegun : (old image : List ℕ) (header : Header) → IsUnbegun old → IsHeader header → IsAdded 0 old [] (start_bytes (new_of header).start) image → IsNewOrUnbegun header image
new_or_unbegun old image header unbegun is (inl k) = inl (record { first = journal_unbegun image k.chain_is; second = unbegun_stays old image 1 k.other unbegun.second })
new_or_unbegun old image header unbegun is (inr k) = inr (has_new old image header unbegun is k)

pub closed_first : (c0 c1 : Cloud) (header : Header) → LeavesOnly c0 c1 (IsAtArea c0.now Journal IsUnbegun) → LeavesOnly c0 c1 (IsAtArea c0.now Journal (IsNewOrUnbegun header))
closed_first c0 c1 header run = weaker c0 c1 _ _ run (λ image at. record { area = inl at.area; others = at.others })

pub beginning : (c0 c1 c2 : Cloud) (header : Header) → LeavesOnly c0 c1 (IsAtArea c0.now Journal IsUnbegun) → ((other : Area) → other ≢ Journal → c1.now other ≡ c0.now other) → IsReady (c1.now Journal) → IsHeader header
    → LeavesOnly c1 c2 (IsAtArea c1.now Journal (IsAdded 0 (c1.now Journal).read [] (start_bytes (new_of header).start))) → LeavesOnly c0 c2 (IsAtArea c0.now Journal (IsNewOrUnbegun header))
beginning c0 c1 c2 header first others ready is run = joined c0 c1 c2 _ (closed_first c0 c1 header first) (weaker c1 c2 _ _ run (λ image at. record {
  area = new_or_unbegun (c1.now Journal).read (image Journal) header ready.unbegun is at.area;
  others = λ other ne. subst (λ (s : Store). MayLeave s (image other)) (others other ne) (at.others other ne);
}))

pub begun_new : (store last : Store) (header : Header) (state : records.HalfState) → IsReady store → IsHeader header → state.half ≡ 0 → records.IsEnded state last (all_bodies (new_of header)) → part_of 1 last.read ≡ part_of 1 store.read
    → HasChain last.read (new_of header)
begun_new store last header state ready is half ended same =
    has_new store.read last.read header ready.unbegun is (record { chain_is = subst (λ (h : ℕ). IsJournal (all_bodies (new_of header)) (half_of h last.read)) half ended.chain_is; other = same })

-- ---- an opening that makes no write, and one that begins a journal

pub read_only : (c0 c1 : Cloud) (header : Header) (begin : Bool) → Stays c0 c1 → LeavesOnly c0 c1 (MayBeBegun c0.now header begin)
read_only c0 c1 header begin stays = stayed c0 c1 _ stays (λ image now. inl now)

pub then_began : (c0 c1 c2 : Cloud) (header : Header) (begin : Bool) → IsTrue begin → IsUnbegun (c0.now Journal).read → Stays c0 c1
    → LeavesOnly c1 c2 (IsAtArea c1.now Journal (IsNewOrUnbegun header)) → LeavesOnly c0 c2 (MayBeBegun c0.now header begin)
then_began c0 c1 c2 header begin is unbegun stays second = joined c0 c1 c2 _ (read_only c0 c1 header begin stays)
    (weaker c1 c2 _ _ second (λ image at. inr (
      is,
      unbegun,
      record {
        area = at.area;
        others = λ other ne. subst (λ (a : Areas). MayLeave (a other) (image other)) stays.now (at.others other ne);
      },
    )))

-- the same behind a sync
become : (c0 c1 : Cloud) (header : Header) (begin : Bool) → LeavesOnly c0 c1 (IsImage c0.now) → Changes c0 c1 Journal (stable (c0.now Journal).read) → (image : Image) → MayBeBegun c1.now header begin image → MayBeBegun c0.now header begin image
become c0 c1 header begin first synced image (inl left) = inl (at_end c0 c1 _ first image left)
become c0 c1 header begin first synced image (inr new) = inr (
  new.0,
  subst (λ (s : Store). IsUnbegun s.read) synced.area new.1,
  record {
    area = new.2.area;
    others = λ other ne. subst (λ (s : Store). MayLeave s (image other)) (synced.others other ne) (new.2.others other ne);
  },
)

pub synced_only : (c0 c1 : Cloud) (header : Header) (begin : Bool) → LeavesOnly c0 c1 (IsImage c0.now) → LeavesOnly c0 c1 (MayBeBegun c0.now header begin)
synced_only c0 c1 header begin run = weaker c0 c1 _ _ run (λ image left. inl left)

pub then_opened : (c0 c1 c2 : Cloud) (header : Header) (begin : Bool) → LeavesOnly c0 c1 (IsImage c0.now) → Changes c0 c1 Journal (stable (c0.now Journal).read) → LeavesOnly c1 c2 (MayBeBegun c1.now header begin) → LeavesOnly c0 c2 (MayBeBegun c0.now header begin)
then_opened c0 c1 c2 header begin first synced second = joined c0 c1 c2 _ (synced_only c0 c1 header begin first) (weaker c1 c2 _ _ second (become c0 c1 header begin first synced))

-- ---- an opening

-- a current half is begun
pub not_unbegun : (journal : List ℕ) (half : ℕ) (start : Start) → IsCurrent journal half start → IsUnbegun journal → ⊥
not_unbegun journal half start c none = elim c.is_half [
  | inl zero_is ↦ false≢true (sym none.first ∙ begun_half journal 0 start (subst (λ (h : ℕ). HasStart journal h start) zero_is c.begun))
  | inr one_is ↦ false≢true (sym none.second ∙ begun_half journal 1 start (subst (λ (h : ℕ). HasStart journal h start) one_is c.begun))
]

pub not_opened : (header : Header) (begin : Bool) (c0 c1 : Cloud) (after : JournalState) (e : OpenErr) → Stays c0 c1 → OpensIs (c0.now Journal).read header begin (Err e) → IsOpening header begin c0 c1 after (Err e)
not_opened header begin c0 c1 after e stays answer = record { any_moment = read_only c0 c1 header begin stays; answer = answer; opened = tt; unbegun = λ none. tt; alone = λ none. tt; others = tt }

pub found_taken : (header : Header) (begin : Bool) (c0 c1 : Cloud) (after : JournalState) (found : Found) (result : Result (Unit {0}) OpenErr) → Stays c0 c1 → IsCurrent (c0.now Journal).read found.half found.start
    → FoundHalfIs after (c0.now Journal) found header result → IsOpening header begin c0 c1 after result
found_taken header begin c0 c1 after found (Ok value) stays c is = record {
  any_moment = read_only c0 c1 header begin stays;
  answer = inr (found.half, is.1);
  opened = subst (λ (a : Areas). IsOpened after (a Journal) header) (sym stays.now) is.0;
  unbegun = λ none. absurd (not_unbegun (c0.now Journal).read found.half found.start c none);
  alone = λ none. absurd (not_unbegun (c0.now Journal).read found.half found.start c none);
  others = λ other ne. ap (λ (a : Areas). a other) stays.now;
}
found_taken header begin c0 c1 after found (Err (OtherStore other wanted at)) stays c is = not_opened header begin c0 c1 after (OtherStore other wanted at) stays (found.half, is.0, is.1, is.2, is.3)
found_taken header begin c0 c1 after found (Err Fault) stays c is = absurd is
found_taken header begin c0 c1 after found (Err (NotBegun len)) stays c is = absurd is
found_taken header begin c0 c1 after found (Err (Damaged at byte)) stays c is = absurd is

pub began_ok : (header : Header) (begin : Bool) (c0 c1 c2 : Cloud) (after : JournalState) → IsTrue begin → IsUnbegun (c0.now Journal).read → Stays c0 c1 → LeavesOnly c1 c2 (IsAtArea c1.now Journal (IsNewOrUnbegun header))
    → IsJournalReading after (c2.now Journal) (new_of header) → HasChain (c2.now Journal).read (new_of header) → is_half_begun 1 (c2.now Journal).read ≡ false → ((other : Area) → other ≢ Journal → c2.now other ≡ c1.now other) → IsOpening header begin c0 c2 after (Ok tt)
began_ok header begin c0 c1 c2 after is none stays run reading has one others = record {
  any_moment = then_began c0 c1 c2 header begin is none stays run;
  answer = inl (none, is);
  opened = record { w = new_of header; header_is = refl; none = refl; reading = reading };
  unbegun = λ again. has;
  alone = λ again. one;
  others = λ other ne. others other ne ∙ ap (λ (a : Areas). a other) stays.now;
}

pub began_err : (header : Header) (begin : Bool) (c0 c1 c2 : Cloud) (after : JournalState) → IsTrue begin → IsUnbegun (c0.now Journal).read → Stays c0 c1 → LeavesOnly c1 c2 (IsAtArea c1.now Journal (IsNewOrUnbegun header))
    → IsOpening header begin c0 c2 after (Err Fault)
began_err header begin c0 c1 c2 after is none stays run =
    record { any_moment = then_began c0 c1 c2 header begin is none stays run; answer = tt; opened = tt; unbegun = λ again. tt; alone = λ again. tt; others = tt }

-- the same behind a sync
others_on : {E : Type 0} (result : Result (Unit {0}) E) (c0 c1 c2 : Cloud) → ((other : Area) → other ≢ Journal → c1.now other ≡ c0.now other) → OnOk result ((other : Area) → other ≢ Journal → c2.now other ≡ c1.now other)
    → OnOk result ((other : Area) → other ≢ Journal → c2.now other ≡ c0.now other)
others_on (Ok value) c0 c1 c2 first second = λ other ne. second other ne ∙ first other ne
others_on (Err e) c0 c1 c2 first second = tt

pub sync_failed : (header : Header) (begin : Bool) (c0 c1 : Cloud) (after : JournalState) → LeavesOnly c0 c1 (IsImage c0.now) → IsOpening header begin c0 c1 after (Err Fault)
sync_failed header begin c0 c1 after run = record { any_moment = synced_only c0 c1 header begin run; answer = tt; opened = tt; unbegun = λ none. tt; alone = λ none. tt; others = tt }

pub sync_opened : (header : Header) (begin : Bool) (c0 c1 c2 : Cloud) (after : JournalState) (result : Result (Unit {0}) OpenErr) → LeavesOnly c0 c1 (IsImage c0.now) → Changes c0 c1 Journal (stable (c0.now Journal).read)
    → IsOpening header begin c1 c2 after result → IsOpening header begin c0 c2 after result
sync_opened header begin c0 c1 c2 after result run synced is =
    let same : (c1.now Journal).read ≡ (c0.now Journal).read = ap (λ (s : Store). s.read) synced.area in
    record {
      any_moment = then_opened c0 c1 c2 header begin run synced is.any_moment;
      answer = subst (λ (l : List ℕ). OpensIs l header begin result) same is.answer;
      opened = is.opened;
      unbegun = λ none. is.unbegun (subst IsUnbegun (sym same) none);
      alone = λ none. is.alone (subst IsUnbegun (sym same) none);
      others = others_on result c0 c1 c2 synced.others is.others;
    }

-- where some half is begun, an opening behind a sync leaves what is read
pub reopened : (c0 c1 c2 : Cloud) (result : Result (Unit {0}) OpenErr) → c1.now Journal ≡ stable (c0.now Journal).read → (IsUnbegun (c0.now Journal).read → ⊥)
    → ((IsUnbegun (c1.now Journal).read → ⊥) → Stays c1 c2) → OnOk result ((c2.now Journal).read ≡ (c0.now Journal).read)
reopened c0 c1 c2 (Ok value) synced some stays =
    let same : (c1.now Journal).read ≡ (c0.now Journal).read = ap (λ (s : Store). s.read) synced in
    ap (λ (a : Areas). (a Journal).read) (stays (λ none. some (subst IsUnbegun same none))).now ∙ same
reopened c0 c1 c2 (Err e) synced some stays = tt
