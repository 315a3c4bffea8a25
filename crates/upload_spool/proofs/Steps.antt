-- The steps of an opening.
use Rattle.std.proofs.Common.{◌≡◌, ◌⊎◌, inl, inr, ℕ, ◌+◌, ◌-◌, ◌*◌, ◌<◌, ◌≤◌, Bool, true, false, Option, Some, None, Result, Ok, Err, List, [], ◌∷◌, ◌++◌, length, drop, refl, sym, ap, ◌∙◌, subst, arith, length-append}
use Rattle.std.specs.Prelude.{min, slice_index, IsTrue, IfOk, IfSome}
use Rattle.std.proofs.lemmas.Bool.{false≢true}
use Rattle.std.specs.Int.{w32, to_be_bytes}
use Rattle.std.proofs.lemmas.List.{length-take}
use Rattle.grammar.specs.CdBase.ids.CloudNo.{CloudNo}
use Rattle.grammar.specs.CdBase.shape.Shape.{Shape}
use Rattle.commit_journal.specs.CdEdges.area.Area.TheVariants.{Journal, Shares}
use Rattle.commit_journal.specs.CdEdges.Disk.{Store, Areas, Cloud, Image, IsImage, LeavesOnly}
use Rattle.commit_journal.specs.CdEdges.Shelf.{Stays}
use Rattle.commit_journal.proofs.CdEdges.Moments.{told_on, weaker}
use Rattle.commit_journal.specs.JournalHalves.Records.{IsDamage, IsJournal, chain, sized}
use Rattle.commit_journal.specs.JournalHalves.Frames.{IsClosed}
use Rattle.commit_journal.proofs.JournalHalves.Chain.{chain-push, length-chain-push}
use Rattle.commit_journal.specs.JournalStart.start.Header.{Header}
use Rattle.commit_journal.specs.JournalStart.Spelling.{records_of}
use Rattle.commit_journal.specs.JournalHalves.Halves.{half_len, half_of}
use Rattle.commit_journal.specs.JournalHalves.Findings.{part_of}
use Rattle.commit_journal.specs.JournalHalves.Journals.{Where, HasChain, all_bodies, with_body}
use Rattle.commit_journal.specs.JournalHalves.Outcomes as halves
use Rattle.commit_journal.specs.Outcomes.{IsDamaged, records_place}
use Rattle.commit_journal.specs.Outcomes as journal
use Rattle.commit_journal.specs.Openings.{IsOpened, OpensIs, MayBeBegun}
use Rattle.commit_journal.specs.declared.errors.OpenErr.TheVariants as opens
use Rattle.commit_journal.specs.declared.journal.Stage.TheVariants.{AtEnd}
use Rattle.commit_journal.specs.JournalHalves.Beginnings.{IsUnbegun}
use Rattle.commit_journal.specs.States.{IsJournalReading, IsJournalEnded}
use Rattle.commit_journal.specs.States as half
use Rattle.upload_spool.specs.Opens.{Notes, Say, HasReadSpool, HasAllNotes, IsDamagedAt, IsChainDamage, IsRecordFaultAt, gate_of, with_record, first_notes, more_notes}
use Rattle.upload_spool.specs.Reading.{JobFields, job_in, lane_in}
use Rattle.upload_spool.specs.Spools.{spool_header}
use Rattle.upload_spool.specs.Steps.{IsSpoolRead, IsPending, IsAllRead, NextNoteIs, LaneIs, LaneStepIs, MoreNoted, JobIs, IsSpoolRefused, HasValueOrRefusal, AreNoted, AreRecordsKept, FoundIs, HasSpoolEnded, fields_kept, notes_of, notes_in, shown_fault, last_place}
use Rattle.upload_spool.specs.declared.opening.Records.{Records}
use Rattle.upload_spool.specs.declared.error.SpoolErr.{SpoolErr}
use Rattle.upload_spool.specs.declared.error.SpoolErr.TheVariants.{NotEmpty, Fault, Damaged, OtherStore, Rotten, NoMemory}
use Rattle.upload_spool.specs.declared.records.RecordFault.{RecordFault}
use Rattle.upload_spool.specs.declared.records.RecordFault.TheVariants as faults
use Rattle.upload_spool.proofs.Sizes.{IsWithin, judged_within, lane_facts, job_facts}
use Rattle.upload_spool.proofs.Begins.{current_begun}

-- ---- places

some_left : (left all some : ℕ) → 0 < left → left ≡ all - some → some < all
some_left left all some more is = omega (arith, more, is)

shorter : (n all taken : ℕ) → taken ≡ min n all → taken ≤ n
shorter n all taken is = omega (arith, is)

within_part : (whole front rest part limit before body : ℕ) → part ≡ whole → whole ≡ front + rest → front ≡ before + 5 + body → part ≤ limit → before + 5 + body ≤ limit
within_part whole front rest part limit before body a b d e = omega (arith, a, b, d, e)

length_place : (at gate : ℕ) → at ≡ gate + 5 → at - 4 ≡ gate + 1
length_place at gate is = omega (arith, is)

far_enough : (half before body : ℕ) → half ≤ 1 → before + 5 + body ≤ half_len → half * half_len + before + 1 + 4 + body < last_place
far_enough half before body few long = omega (arith, few, long)

one_at_most : (half : ℕ) → (half ≡ 0) ⊎ (half ≡ 1) → half ≤ 1
one_at_most half (inl zero_is) = omega (arith, zero_is)
one_at_most half (inr one_is) = omega (arith, one_is)

cut_place : (place at wrong len : ℕ) → at ≡ min (min (place + 4) last_place + wrong) last_place → wrong ≤ len → place + 4 + len < last_place → at ≡ place + 4 + wrong
cut_place place at wrong len is within few = omega (arith, is, within, few)

-- ---- what records say

pub say_more : (shape : Shape) (bodies : List (List ℕ)) (before notes : Option Notes) (body : List ℕ) (more : Notes) → Say shape before bodies notes → with_record shape notes body ≡ Ok more → Say shape before (bodies ++ body ∷ []) (Some more)
say_more shape [] before notes body more same e = (more, subst (λ (o : Option Notes). with_record shape o body ≡ Ok more) (sym same) e, refl)
say_more shape (b ∷ bodies) before notes body more say e = (say.0, say.1, say_more shape bodies (Some say.0) notes body more say.2 e)

-- ---- a chain that was read so far

spelled_at : (state : half.JournalState) (store : Store) (w : Where) (r : IsJournalReading state store w) → part_of w.half store.read ≡ chain (all_bodies w) ++ r.read.rest
spelled_at state store w r = subst (λ (h : ℕ). part_of h store.read ≡ chain (all_bodies w) ++ r.read.rest) r.half r.read.spelled

pub has_read : (shape : Shape) (state : half.JournalState) (store : Store) (notes : Option Notes) (is : IsSpoolRead shape state store notes) → HasReadSpool shape store.read is.w notes
has_read shape state store notes is = record {
  header_is = is.header_is;
  current = is.reading.is_current;
  rest = is.reading.read.rest;
  spelled = spelled_at state store is.w is.reading;
  say = is.say;
}

pub chain_damage : (state : half.JournalState) (store : Store) (w : Where) (at byte : ℕ) → IsJournalReading state store w → IsDamaged state store at byte → IsChainDamage store.read w at byte
chain_damage state store w at byte r damaged =
    let place : (state.current.half, state.current.gate) ≡ (w.half, length (chain (all_bodies w))) = λ i. (r.half i, r.read.gate i) in
    elim damaged [
      | inl damage ↦ inl (subst (λ (p : ℕ × ℕ). IsDamage (drop p.1 (part_of p.0 store.read)) (p.0 * half_len + p.1) at byte) place damage)
      | inr early ↦
          inr (
            subst (λ (p : ℕ × ℕ). IsClosed (drop p.1 (part_of p.0 store.read))) place early.0,
            some_left state.left (records_of w.start.checkpoint) (length w.bodies) early.1.more r.left,
            early.1.place ∙ (λ i. r.half i * half_len + records_place (r.start i)),
            early.1.byte_is ∙ (λ i. slice_index (to_be_bytes w32 (records_of (r.start i).checkpoint)) 0),
          )
    ]

pub next_damaged : (shape : Shape) (state : half.JournalState) (store : Store) (notes : Option Notes) (at byte : ℕ) (is : IsSpoolRead shape state store notes) → IsDamaged state store at byte → IsDamagedAt shape store.read at byte
next_damaged shape state store notes at byte is damaged = (is.w, notes, has_read shape state store notes is, inl (chain_damage state store is.w at byte is.reading damaged))

pub next_ok : (shape : Shape) (before after : half.JournalState) (store : Store) (notes : Option Notes) (more : Bool) (is : IsSpoolRead shape before store notes) → journal.NextIs before after store is.w (Ok more)
    → halves.StepIs before.current after.current (Ok more) → NextNoteIs shape after store notes (Ok more)
next_ok shape before after store notes true is next step = record {
  w = is.w;
  header_is = is.header_is;
  reading = next;
  say = is.say;
  place = step.body_at ∙ (λ i. is.reading.half i * half_len + is.reading.read.gate i + 5);
}
next_ok shape before after store notes false is next step = record { w = is.w; header_is = is.header_is; ended = next; say = is.say }

-- ---- a record that is judged

pub pending_more : (shape : Shape) (state : half.JournalState) (store : Store) (notes : Option Notes) (more : Notes) → IsPending shape state store notes → with_record shape notes state.current.body ≡ Ok more → IsSpoolRead shape state store (Some more)
pending_more shape state store notes more p e = record {
  w = with_body p.w state.current.body;
  header_is = p.header_is;
  reading = p.reading;
  say = say_more shape p.w.bodies None notes state.current.body more p.say e;
}

damage_is : (a b : SpoolErr) → a ≡ b → (at byte bt cyte : ℕ) → a ≡ Damaged at byte → b ≡ Damaged bt cyte → (at ≡ bt) × (byte ≡ cyte)
damage_is a b same at byte bt cyte e f = let h : Damaged at byte ≡ Damaged bt cyte = sym e ∙ same ∙ f in (cc, cc)

fault_place : (place at byte : ℕ) (fault : RecordFault) (body : List ℕ) → IsWithin body fault → place + 4 + length body < last_place → Damaged at byte ≡ shown_fault place fault → IsRecordFaultAt place fault at byte
fault_place place at byte faults.Short body within few e = let two = damage_is (Damaged at byte) (Damaged place 0) e at byte place 0 refl refl in two
fault_place place at byte (faults.Wrong wrong found) body within few e =
    let two = damage_is (Damaged at byte) (shown_fault place (faults.Wrong wrong found)) e at byte (min (min (place + 4) last_place + wrong) last_place) found refl refl in
    (cut_place place at wrong (length body) two.0 within few, two.1)

pub pending_wrong : (shape : Shape) (state : half.JournalState) (store : Store) (notes : Option Notes) (fault : RecordFault) (at byte : ℕ) → IsPending shape state store notes → with_record shape notes state.current.body ≡ Err fault
    → IsWithin state.current.body fault → Damaged at byte ≡ shown_fault (state.current.body_at - 4) fault → IsDamagedAt shape store.read at byte
pending_wrong shape state store notes fault at byte p e within shown =
    let body = state.current.body in let w = p.w in let r = p.reading in let rest = r.read.rest in
    let whole = spelled_at state store (with_body w body) r in
    let here : part_of w.half store.read ≡ chain (all_bodies w) ++ 1 ∷ (sized body ++ rest) = whole ∙ chain-push (all_bodies w) body rest in
    let part = part_of w.half store.read in let front = chain (all_bodies (with_body w body)) in
    let most : length part ≤ half_len = shorter half_len (length (half_of w.half store.read)) (length part) (length-take half_len (half_of w.half store.read)) in
    let long : length (chain (all_bodies w)) + 5 + length body ≤ half_len =
    within_part (length (front ++ rest)) (length front) (length rest) (length part) half_len (length (chain (all_bodies w))) (length body)
    (ap (λ (l : List ℕ). length l) whole) (length-append front rest) (length-chain-push (all_bodies w) body) most in
    let place : state.current.body_at - 4 ≡ gate_of w + 1 = length_place state.current.body_at (gate_of w) p.place in
    let near : gate_of w + 1 + 4 + length body < last_place = far_enough w.half (length (chain (all_bodies w))) (length body) (one_at_most w.half r.is_current.is_half) long in
    let read : HasReadSpool shape store.read w notes = record { header_is = p.header_is; current = r.is_current; rest = 1 ∷ (sized body ++ rest); spelled = here; say = p.say } in
    (w, notes, read, inr (body, fault, e, rest, whole, fault_place (gate_of w + 1) at byte fault body within near (shown ∙ ap (λ (n : ℕ). shown_fault n fault) place)))

pub job_wrong : (shape : Shape) (state : half.JournalState) (store : Store) (at byte : ℕ) → IsPending shape state store None
    → (fault : RecordFault) × (job_in state.current.body ≡ Err fault) × (Damaged at byte ≡ shown_fault (state.current.body_at - 4) fault) → IsDamagedAt shape store.read at byte
job_wrong shape state store at byte p x = pending_wrong shape state store None x.0 at byte p (ap first_notes x.1) (judged_within state.current.body _ x.0 x.1) x.2

pub lane_wrong : (shape : Shape) (job : JobFields) (noted : List CloudNo) (state : half.JournalState) (store : Store) (at byte : ℕ) → IsPending shape state store (notes_of job noted)
    → (fault : RecordFault) × (lane_in shape noted state.current.body ≡ Err fault) × (Damaged at byte ≡ shown_fault (state.current.body_at - 4) fault) → IsDamagedAt shape store.read at byte
lane_wrong shape job noted state store at byte p x =
    pending_wrong shape state store (notes_of job noted) x.0 at byte p (ap (more_notes (record { job = job; lanes = noted })) x.1) (judged_within state.current.body _ x.0 x.1) x.2

pub job_more : (shape : Shape) (state : half.JournalState) (store : Store) (job : JobFields) → IsPending shape state store None → job_in state.current.body ≡ Ok job → IsSpoolRead shape state store (notes_of job [])
job_more shape state store job p e = pending_more shape state store None (record { job = job; lanes = [] }) p (ap first_notes e)

pub lane_more : (shape : Shape) (job : JobFields) (noted more : List CloudNo) (lane : CloudNo) (state : half.JournalState) (store : Store) → IsPending shape state store (notes_of job noted) → lane_in shape noted state.current.body ≡ Ok lane.0
    → more ≡ noted ++ lane ∷ [] → IsSpoolRead shape state store (notes_of job more)
lane_more shape job noted more lane state store p e same =
    subst (λ (l : List CloudNo). IsSpoolRead shape state store (notes_of job l)) (sym same)
    (pending_more shape state store (notes_of job noted) (record { job = job; lanes = noted ++ lane ∷ [] }) p (ap (more_notes (record { job = job; lanes = noted })) e))

-- ---- one lane

-- a record that isn't a new lane's
pub lane_refused : (shape : Shape) (job : JobFields) (noted more : List CloudNo) (state : half.JournalState) (store : Store) → IsPending shape state store (notes_of job noted) → (e : SpoolErr)
    → LaneIs shape noted more state.current.body state.current.body_at (Err e) → LaneStepIs shape job state store more (Err e)
lane_refused shape job noted more state store p (Damaged at byte) is = lane_wrong shape job noted state store at byte p is
lane_refused shape job noted more state store p NoMemory is = tt
lane_refused shape job noted more state store p Fault is = absurd is
lane_refused shape job noted more state store p (NotEmpty area len) is = absurd is
lane_refused shape job noted more state store p (OtherStore found asked) is = absurd is
lane_refused shape job noted more state store p (Rotten named found) is = absurd is

-- a record that isn't there
pub lane_unread : (shape : Shape) (job : JobFields) (noted : List CloudNo) (state : half.JournalState) (store : Store) (e : SpoolErr) → NextNoteIs shape state store (notes_of job noted) (Err e) → LaneStepIs shape job state store noted (Err e)
lane_unread shape job noted state store (Damaged at byte) is = is
lane_unread shape job noted state store Fault is = tt
lane_unread shape job noted state store NoMemory is = absurd is
lane_unread shape job noted state store (NotEmpty area len) is = absurd is
lane_unread shape job noted state store (OtherStore found asked) is = absurd is
lane_unread shape job noted state store (Rotten named found) is = absurd is

seven : (gate after len : ℕ) → after ≡ gate + 5 + len → len ≡ 2 → after ≡ gate + 7
seven gate after len a b = omega (arith, a, b)

pub lane_step : (shape : Shape) (noted more : List CloudNo) (lane : CloudNo) (before after : half.JournalState) → lane_in shape noted after.current.body ≡ Ok lane.0 → more ≡ noted ++ lane ∷ []
    → after.current.gate ≡ before.current.gate + 5 + length after.current.body → MoreNoted shape noted more before.current.gate after.current.gate (Ok true)
lane_step shape noted more lane before after e same gate =
    let facts = lane_facts shape noted after.current.body lane.0 e in
    (lane, facts.1, same, seven before.current.gate after.current.gate (length after.current.body) gate facts.0)

-- ---- all records

pub unread : (shape : Shape) (state : half.JournalState) (store : Store) (notes : Option Notes) (e : SpoolErr) → NextNoteIs shape state store notes (Err e) → IsSpoolRefused shape store.read e
unread shape state store notes (Damaged at byte) is = is
unread shape state store notes Fault is = tt
unread shape state store notes NoMemory is = tt
unread shape state store notes (NotEmpty area len) is = is
unread shape state store notes (OtherStore found asked) is = is
unread shape state store notes (Rotten named found) is = is

pub job_refused : (shape : Shape) (state : half.JournalState) (store : Store) → IsPending shape state store None → (e : SpoolErr) → JobIs state.current.body state.current.body_at (Err e) → IsSpoolRefused shape store.read e
job_refused shape state store p (Damaged at byte) is = job_wrong shape state store at byte p is
job_refused shape state store p NoMemory is = tt
job_refused shape state store p Fault is = tt
job_refused shape state store p (NotEmpty area len) is = is
job_refused shape state store p (OtherStore found asked) is = is
job_refused shape state store p (Rotten named found) is = is

-- what holds of all lanes behind a job holds of the cloud before
pub behind_job : (shape : Shape) (mid : half.JournalState) (c0 c1 : Cloud) (job : JobFields) (Q : Store → Type 0) → Stays c0 c1 → c1.told ≡ c0.told → IsTrue c0.told → IsPending shape mid (c0.now Journal) None → job_in mid.current.body ≡ Ok job
    → (IsTrue c1.told → IsSpoolRead shape mid (c1.now Journal) (notes_of job []) → Q (c1.now Journal)) → Q (c0.now Journal)
behind_job shape mid c0 c1 job Q stays told_is told p e all =
    let read = job_more shape mid (c0.now Journal) job p e in
    let there = subst (λ (a : Areas). IsSpoolRead shape mid (a Journal) (notes_of job [])) (sym stays.now) read in
    subst (λ (a : Areas). Q (a Journal)) stays.now (all (told_on c0 c1 told_is told) there)

pub within_reach : (old mid new body len : ℕ) → mid ≡ old + 5 + body → body ≤ 1079 → new ≤ mid + 7 * len → new ≤ old + 1084 + 7 * len
within_reach old mid new body len a b d = omega (arith, a, b, d)

pub are_kept : (shape : Shape) (before mid after : half.JournalState) (records : Records) → mid.current.gate ≡ before.current.gate + 5 + length mid.current.body → job_in mid.current.body ≡ Ok (fields_kept records.job)
    → AreNoted shape mid.current.gate after.current.gate records.noted.items → after.stage ≡ AtEnd → AreRecordsKept shape before.current.gate after records
are_kept shape before mid after records gate job noted stage =
    let facts = job_facts mid.current.body (fields_kept records.job) job in
    record {
      path = facts.path;
      few = facts.len;
      distinct = noted.distinct;
      below = noted.below;
      near = within_reach before.current.gate mid.current.gate after.current.gate (length mid.current.body) (length records.noted.items) gate facts.few noted.near;
      stage = stage;
    }

-- ---- what a journal keeps

pub opened_read : (shape : Shape) (header : Header) (state : half.JournalState) (store : Store) → header ≡ spool_header shape → IsOpened state store header → IsSpoolRead shape state store None
opened_read shape header state store head o = record {
  w = o.w;
  header_is = o.header_is ∙ head;
  reading = o.reading;
  say = subst (λ (l : List (List ℕ)). Say shape None l None) (sym o.none) refl;
}

pub all_chain : (shape : Shape) (state : half.JournalState) (store : Store) (notes : Option Notes) (a : IsAllRead shape state store notes) → HasChain store.read a.w
all_chain shape state store notes a = record { current = a.ended.is_current; chain_is = subst (λ (h : ℕ). IsJournal (all_bodies a.w) (half_of h store.read)) a.ended.half a.ended.read.chain_is }

pub has_all : (shape : Shape) (state : half.JournalState) (store : Store) (notes : Option Notes) → IsAllRead shape state store notes → HasAllNotes shape store.read notes
has_all shape state store notes a = record {
  w = a.w;
  header_is = a.header_is;
  has = all_chain shape state store notes a;
  say = a.say;
}

refused_found : (shape : Shape) (journal : List ℕ) (e : SpoolErr) → IsSpoolRefused shape journal e → FoundIs shape journal (Err e)
refused_found shape journal (Damaged at byte) is = inr is
refused_found shape journal Fault is = tt
refused_found shape journal NoMemory is = tt
refused_found shape journal (NotEmpty area len) is = is
refused_found shape journal (OtherStore found asked) is = absurd is
refused_found shape journal (Rotten named found) is = is

pub gives_found : (shape : Shape) (state : half.JournalState) (store : Store) (r : Result (Option Records) SpoolErr) → HasValueOrRefusal shape store.read (λ found. IsAllRead shape state store (notes_in found)) r → FoundIs shape store.read r
gives_found shape state store (Ok None) is = inr (has_all shape state store None is)
gives_found shape state store (Ok (Some records)) is = has_all shape state store (notes_in (Some records)) is
gives_found shape state store (Err e) is = refused_found shape store.read e is

-- the journal was begun, so it reads as before
pub begun_before : (journal : List ℕ) (header : Header) → OpensIs journal header false (Ok tt) → ¬ (IsUnbegun journal)
begun_before journal header (inl new) none = false≢true new.1
begun_before journal header (inr has) none = current_begun journal has.0 has.1.start has.1.is_current none

pub found_here : (shape : Shape) (header : Header) (before after : half.JournalState) (c0 c1 : Cloud) (r : Result (Option Records) SpoolErr) → header ≡ spool_header shape → IsOpened before (c1.now Journal) header → (c1.now Journal).read ≡ (c0.now Journal).read
    → IsTrue c1.told → (IsTrue c1.told → IsSpoolRead shape before (c1.now Journal) None → HasValueOrRefusal shape (c1.now Journal).read (λ found. IsAllRead shape after (c1.now Journal) (notes_in found)) r)
    → FoundIs shape (c0.now Journal).read r
found_here shape header before after c0 c1 r head opened same told reads =
    subst (λ (l : List ℕ). FoundIs shape l r) same (gives_found shape after (c1.now Journal) r (reads told (opened_read shape header before (c1.now Journal) head opened)))

pub ended_here : (shape : Shape) (header : Header) (before after : half.JournalState) (c0 c1 c2 : Cloud) (r : Result (Option Records) SpoolErr) → header ≡ spool_header shape → IsOpened before (c1.now Journal) header
    → (c1.now Journal).read ≡ (c0.now Journal).read → c1.now Shares ≡ c0.now Shares → Stays c1 c2
    → IsTrue c1.told → (IsTrue c1.told → IsSpoolRead shape before (c1.now Journal) None → HasValueOrRefusal shape (c1.now Journal).read (λ found. IsAllRead shape after (c1.now Journal) (notes_in found)) r)
    → IfOk r (λ found. IfSome found (HasSpoolEnded shape after c0 c2))
ended_here shape header before after c0 c1 c2 (Ok None) head opened same shares stays told reads = tt
ended_here shape header before after c0 c1 c2 (Ok (Some records)) head opened same shares stays told reads =
    let all = reads told (opened_read shape header before (c1.now Journal) head opened) in
    record {
      all = subst (λ (a : Areas). IsAllRead shape after (a Journal) (notes_in (Some records))) (sym stays.now) all;
      journal = ap (λ (a : Areas). (a Journal).read) stays.now ∙ same;
      shares = ap (λ (a : Areas). a Shares) stays.now ∙ shares;
    }
ended_here shape header before after c0 c1 c2 (Err e) head opened same shares stays told reads = tt

nearer_still : (gate a b : ℕ) → gate ≤ 62 → a ≤ gate + 1084 + b → a ≤ 62 + 1084 + b
nearer_still gate a b le near = omega (arith, le, near)

pub kept_near : (shape : Shape) (gate : ℕ) (state : half.JournalState) (r : Result (Option Records) SpoolErr) → gate ≤ 62 → IfOk r (λ found. IfSome found (AreRecordsKept shape gate state)) → IfOk r (λ found. IfSome found (AreRecordsKept shape 62 state))
kept_near shape gate state (Ok None) le kept = tt
kept_near shape gate state (Ok (Some records)) le kept = record {
  path = kept.path;
  few = kept.few;
  distinct = kept.distinct;
  below = kept.below;
  near = nearer_still gate state.current.gate (7 * length records.noted.items) le kept.near;
  stage = kept.stage;
}
kept_near shape gate state (Err e) le kept = tt

not_begun : (old : Areas) (header : Header) (image : Image) → MayBeBegun old header false image → IsImage old image
not_begun old header image (inl is) = is
not_begun old header image (inr new) = absurd (false≢true new.0)

pub spared : (c0 c1 : Cloud) (header : Header) → LeavesOnly c0 c1 (MayBeBegun c0.now header false) → LeavesOnly c0 c1 (IsImage c0.now)
spared c0 c1 header run = weaker c0 c1 _ _ run (not_begun c0.now header)

pub other_store : (shape : Shape) (journal : List ℕ) (header found asked : Header) (at : ℕ) → header ≡ spool_header shape → OpensIs journal header false (Err (opens.OtherStore found asked at)) → FoundIs shape journal (Err (OtherStore found asked))
other_store shape journal header found asked at head is = (is.0, is.1, (λ same. is.2 (same ∙ sym head)), is.3 ∙ head)
