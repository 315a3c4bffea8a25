-- The state of a journal from call to call.
use Rattle.std.proofs.Common.{◌≡◌, ◌⊎◌, inl, inr, ℕ, ◌+◌, ◌-◌, ◌*◌, ◌%◌, ◌^◌, ◌<◌, ◌≤◌, Bool, true, false, List, [], ◌∷◌, ◌++◌, length, take, drop, Option, Some, None, Result, Ok, Err, OnOk, refl, sym, ◌∙◌, ap, subst, arith, append_assoc, length-append}
use Rattle.std.proofs.Math.Seq.{take-append-add}
use Rattle.std.proofs.lemmas.List.{drop_at}
use Rattle.journal_halves.specs.CdEdges.area.Area.TheVariants.{Journal}
use Rattle.journal_halves.specs.CdEdges.Disk.{Store, Cloud, LeavesOnly, IsAtArea}
use Rattle.journal_halves.proofs.CdEdges.Moments.{weaker}
use Rattle.journal_halves.specs.Records.{chain, IsJournal}
use Rattle.journal_halves.specs.Frames.{IsClosed}
use Rattle.journal_halves.specs.JournalStart.start.Header.{Header}
use Rattle.journal_halves.specs.JournalStart.start.Start.{Start}
use Rattle.journal_halves.specs.JournalStart.Ranges.{IsHeader, IsStart}
use Rattle.journal_halves.specs.JournalStart.Spelling.{epoch_of, records_of}
use Rattle.journal_halves.specs.Halves.{half_len, half_of, IsCurrent}
use Rattle.journal_halves.specs.Journals.{Where, all_bodies, with_body, used_by, HasChain, IsEither, Stands, MayFollow}
use Rattle.commit_journal.specs.Turning as writer
use Rattle.commit_journal.proofs.Turns.{used_is}
use Rattle.journal_halves.specs.Findings.{part_of}
use Rattle.journal_halves.specs.States.{IsHalfKept, IsAdded, begun_at}
use Rattle.journal_halves.specs.States as records
use Rattle.journal_halves.specs.declared.errors.RecordErr.{RecordErr}
use Rattle.journal_halves.specs.declared.errors.RecordErr.TheVariants.{Failed, Damaged}
use Rattle.journal_halves.specs.Outcomes as steps
use Rattle.commit_journal.specs.States.{JournalState, IsJournalReading, IsJournalEnded, IsLaying, next_start, next_of}
use Rattle.commit_journal.specs.Outcomes.{records_place, TookIs, NextIs}
use Rattle.commit_journal.proofs.Kept.{kept_chain, added_either, other_stays}

-- ---- reading

pub half_stays : (old new : records.HalfState) (more : Bool) → steps.StepIs old new (Ok more) → new.half ≡ old.half
half_stays old new true over = over.half
half_stays old new false same = same.0

-- the gate at which the records end
closed_gate : (before now : records.HalfState) (store : Store) (bodies : List (List ℕ)) → records.IsHalfReading before store bodies → now.half ≡ before.half → records.IsEnded now store bodies
    → IsClosed (steps.rest_of before store)
closed_gate before now store bodies r half e =
    let j = e.chain_is in
    let front = chain bodies ++ j.gate ∷ [] in
    let long : length front ≡ length (chain bodies) + 1 = omega (arith, length-append (chain bodies) (j.gate ∷ [])) in
    let m = half_len - length front in
    let sum : half_len ≡ length front + m = omega (arith, long, e.within, e.gate) in
    let late = j.gate ∷ take m j.behind in
    let whole : half_of now.half store.read ≡ front ++ j.behind = j.spelled ∙ sym (append_assoc (chain bodies) (j.gate ∷ []) j.behind) in
    let part : part_of now.half store.read ≡ chain bodies ++ late =
    ap (take half_len) whole ∙ ap (λ (n : ℕ). take n (front ++ j.behind)) sum ∙ take-append-add front j.behind m ∙ append_assoc (chain bodies) (j.gate ∷ []) (take m j.behind) in
    record {
      gate = j.gate;
      behind = take m j.behind;
      shut = j.shut;
      spelled = ap (λ (h : ℕ). drop before.gate (part_of h store.read)) (sym half) ∙ ap (λ (l : List ℕ). drop before.gate l) part
          ∙ ap (λ (n : ℕ). drop n (chain bodies ++ late)) r.gate ∙ drop_at (chain bodies) late (length (chain bodies)) refl;
    }

pub took_is : (before after : JournalState) (now : records.HalfState) (store : Store) (w : Where) (more : Bool) (result : Result Bool RecordErr) → IsJournalReading before store w → now.half ≡ before.current.half
    → steps.NextBodyIs before.current now store (all_bodies w) (Ok more) → TookIs (record before { current = now }) after more result → NextIs before after store w result
took_is before after now store w true (Ok true) is half read same =
    subst (λ (s : JournalState). IsJournalReading s store (with_body w s.current.body)) (sym same) (record {
      half = half ∙ is.half;
      start = is.start;
      is_current = is.is_current;
      read = read;
      left = omega (arith, is.left, length-append w.bodies (now.body ∷ []));
    })
took_is before after now store w false (Ok false) is half read took =
    subst (λ (s : JournalState). IsJournalEnded s store w) (sym took.1) (record {
      half = half ∙ is.half;
      start = is.start;
      is_current = is.is_current;
      read = read;
      full = omega (arith, took.0, is.left);
    })
took_is before after now store w false (Err (Damaged at byte)) is half read early =
    inr (
      closed_gate before.current now store (all_bodies w) is.read half read,
      record { more = early.more; place = early.place ∙ ap (λ (h : ℕ). h * half_len + records_place before.start) half; byte_is = early.byte_is },
    )
took_is before after now store w true (Ok false) is half read none = absurd none
took_is before after now store w true (Err e) is half read none = absurd none
took_is before after now store w false (Ok true) is half read none = absurd none
took_is before after now store w false (Err Failed) is half read none = absurd none

-- what is counted of the checkpoint's records moves no gate
pub step_is : (from : records.HalfState) (before after : JournalState) (more : Bool) (result : Result Bool RecordErr) → steps.StepIs from before.current (Ok more) → TookIs before after more result
    → steps.StepIs from after.current result
step_is from before after true (Ok true) step same = subst (λ (s : JournalState). steps.StepIs from s.current (Ok true)) (sym same) step
step_is from before after false (Ok false) step took = subst (λ (s : JournalState). steps.StepIs from s.current (Ok false)) (sym took.1) step
step_is from before after false (Err e) step took = tt
step_is from before after true (Ok false) step none = absurd none
step_is from before after true (Err e) step none = absurd none
step_is from before after false (Ok true) step none = absurd none

pub err_is : (before after : JournalState) (now : records.HalfState) (store : Store) (w : Where) (e : RecordErr) → steps.NextBodyIs before.current now store (all_bodies w) (Err e) → NextIs before after store w (Err e)
err_is before after now store w (Damaged at byte) damage = inl damage
err_is before after now store w Failed damage = tt

-- ---- a record is added

pub either_of : (state : JournalState) (store : Store) (w : Where) (body image : List ℕ) → IsJournalEnded state store w → IsAdded state.current.half store.read (all_bodies w) body image → IsEither w (with_body w body) image
either_of state store w body image is added = added_either store.read image w body is.is_current (subst (λ (h : ℕ). IsAdded h store.read (all_bodies w) body image) is.half added)

pub appending : (state : JournalState) (c0 c1 : Cloud) (w : Where) (body : List ℕ) → IsJournalEnded state (c0.now Journal) w
    → LeavesOnly c0 c1 (IsAtArea c0.now Journal (IsAdded state.current.half (c0.now Journal).read (all_bodies w) body)) → LeavesOnly c0 c1 (IsAtArea c0.now Journal (IsEither w (with_body w body)))
appending state c0 c1 w body is run = weaker c0 c1 _ _ run (λ image at. record { area = either_of state (c0.now Journal) w body (image Journal) is at.area; others = at.others })

pub apart : (state : JournalState) (c0 c1 : Cloud) (w : Where) (body : List ℕ) → IsJournalEnded state (c0.now Journal) w
    → LeavesOnly c0 c1 (IsAtArea c0.now Journal (IsAdded state.current.half (c0.now Journal).read (all_bodies w) body))
    → LeavesOnly c0 c1 (λ image. part_of (1 - w.half) (image Journal) ≡ part_of (1 - w.half) (c0.now Journal).read)
apart state c0 c1 w body is run = weaker c0 c1 _ _ run (λ image at.
    subst (λ (h : ℕ). part_of (1 - h) (image Journal) ≡ part_of (1 - h) (c0.now Journal).read) is.half
    (other_stays state.current.half (c0.now Journal).read (all_bodies w) body (image Journal) at.area))

pub ended_more : (before after : JournalState) (store last : Store) (w : Where) (body : List ℕ) → IsJournalEnded before store w → records.IsEnded after.current last (all_bodies w ++ body ∷ [])
    → part_of (1 - before.current.half) last.read ≡ part_of (1 - before.current.half) store.read → after.current.half ≡ before.current.half → after.start ≡ before.start → IsJournalEnded after last (with_body w body)
ended_more before after store last w body is read same half start =
    let more = with_body w body in
    let kept : IsHalfKept w.half store.read (all_bodies more) last.read = record {
      chain_is = subst (λ (h : ℕ). IsJournal (all_bodies more) (half_of h last.read)) (half ∙ is.half) read.chain_is;
      other = subst (λ (h : ℕ). part_of (1 - h) last.read ≡ part_of (1 - h) store.read) is.half same;
    } in
    record {
      half = half ∙ is.half;
      start = start ∙ is.start;
      is_current = (kept_chain store.read last.read more is.is_current kept).current;
      read = read;
      full = omega (arith, is.full, length-append w.bodies (body ∷ []));
    }

pub stands_of : (state : JournalState) (store : Store) (w : Where) → IsJournalEnded state store w → Stands store w
stands_of state store w is = record {
  synced = is.read.synced;
  chain_there = record { current = is.is_current; chain_is = subst (λ (h : ℕ). IsJournal (all_bodies w) (half_of h store.read)) is.half is.read.chain_is };
  sizes = is.read.chain_is.sizes;
  within = omega (arith, is.read.gate, is.read.within);
}

-- ---- a checkpoint is begun

mod_step : (a b : ℕ) → a ≡ b → (a % 3 + 1) % 3 ≡ (b + 1) % 3
mod_step a b e = omega (arith, e)

abbrev with_epoch : Header → ℕ → ℕ → ℕ → ℕ → Start
with_epoch header commands records region epoch = record {
  header = header;
  checkpoint = Some (record { epoch = epoch; commands = commands; records = records; region = region; recipes_end = 0 });
}

pub next_is : (start : Start) (header : Header) (commands records region epoch : ℕ) → epoch ≡ epoch_of start.checkpoint → with_epoch header commands records region ((epoch % 3 + 1) % 3) ≡ next_start start header commands records region
next_is start header commands records region epoch e = ap (with_epoch header commands records region) (mod_step epoch (epoch_of start.checkpoint) e)

pub other_of : (state : JournalState) (store : Store) (w : Where) (half : ℕ) → IsJournalEnded state store w → half ≡ 1 - state.current.half → half ≡ 1 - w.half
other_of state store w half is other = other ∙ ap (λ (h : ℕ). 1 - h) is.half

mod_small : (n : ℕ) → n % 3 ≤ 2
mod_small n = omega arith

pub may_follow : (state : JournalState) (store : Store) (w : Where) (half : ℕ) (header : Header) (commands records region : ℕ) → IsJournalEnded state store w → half ≡ 1 - state.current.half
    → IsHeader header → header.format ≡ 2 → commands < 2 ^ 64 → records < 2 ^ 32 → region ≤ 1 → MayFollow w half (next_start state.start header commands records region)
may_follow state store w half header commands records region is other allowed second few_commands few_records few_regions = record {
  other = other_of state store w half is other;
  is_start = record {
    header = allowed;
    behind = record {
      epoch = mod_small (epoch_of state.start.checkpoint + 1);
      commands = few_commands;
      records = few_records;
      region = few_regions;
      recipes_end = omega arith;
      without_region = λ first. absurd (omega (arith, first, second));
      without_end = λ is_second. refl;
    };
  };
  epoch = ap (λ (s : Start). (epoch_of s.checkpoint + 1) % 3) is.start;
}

pub turned : (before after : JournalState) (store last : Store) (w : Where) (half : ℕ) (header : Header) (commands records region : ℕ) → IsJournalEnded before store w → half ≡ 1 - before.current.half
    → after.current.half ≡ before.current.half → after.next ≡ next_start before.start header commands records region
    → writer.IsWriterLaying after.laid last w (writer.begun_with half (next_start before.start header commands records region)) → IsLaying after last w (next_of w header commands records region)
turned before after store last w half header commands records region is other same next laid =
    let half_is = other_of before store w half is other in
    let start_is : next_start before.start header commands records region ≡ next_start w.start header commands records region = ap (λ (s : Start). next_start s header commands records region) is.start in
    record {
      half = same ∙ is.half;
      start = next ∙ start_is;
      laid = subst (λ (v : Where). writer.IsWriterLaying after.laid last w v) (λ i. record { half = half_is i; start = start_is i; bodies = [] }) laid;
    }

-- ---- it is settled

pub settled : (before after : JournalState) (store last : Store) (w next : Where) (used : ℕ) → IsLaying before store w next → Stands last next → length next.bodies ≡ records_of next.start.checkpoint
    → used ≡ writer.used_of before.laid → after.current ≡ begun_at (1 - before.current.half) (used - 1) → after.start ≡ before.next → IsJournalEnded after last next
settled before after store last w next used is stands full used_are current start =
    let other : next.half ≡ 1 - w.half = is.laid.laid.apart.other in
    let half : after.current.half ≡ next.half = ap (λ (s : records.HalfState). s.half) current ∙ ap (λ (h : ℕ). 1 - h) is.half ∙ sym other in
    let gate : after.current.gate ≡ used - 1 = ap (λ (s : records.HalfState). s.gate) current in
    let all : used_by next ≡ used = omega (arith, used_is store w next is.laid.bytes before.laid.waiting is.laid.laid, is.laid.count, used_are) in
    record {
      half = half;
      start = start ∙ is.start;
      is_current = stands.chain_there.current;
      read = record {
        synced = stands.synced;
        chain_is = subst (λ (h : ℕ). IsJournal (all_bodies next) (half_of h last.read)) (sym half) stands.chain_there.chain_is;
        gate = omega (arith, gate, all);
        within = omega (arith, gate, all, stands.within);
      };
      full = omega (arith, full);
    }
