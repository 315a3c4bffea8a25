-- One record further.
use Rattle.std.proofs.Common.{◌≡◌, inl, inr, ℕ, ◌+◌, ◌-◌, ◌*◌, ◌<◌, Bool, true, false, List, [], ◌∷◌, ◌++◌, length, take, drop, nat_lt, Result, Ok, Err, refl, sym, ◌∙◌, ap, subst, arith, append_assoc, length-append}
use Rattle.std.proofs.Math.Seq.{take-append-add}
use Rattle.std.proofs.lemmas.List.{append_cancel_left, drop-drop, drop_at}
use Rattle.cloud_disk.specs.CdEdges.Disk.{Store}
use Rattle.cloud_disk.specs.JournalHalves.Records.{sized, chain, AreBodies}
use Rattle.cloud_disk.specs.JournalHalves.Frames.{IsClosed, IsRecordAhead}
use Rattle.cloud_disk.proofs.JournalHalves.Chain.{chain-push}
use Rattle.cloud_disk.specs.JournalStart.start.Start.{Start}
use Rattle.cloud_disk.specs.JournalStart.Spelling.{records_of}
use Rattle.cloud_disk.specs.JournalHalves.Halves.{half_len, half_of}
use Rattle.cloud_disk.specs.JournalHalves.Journals.{Where, all_bodies, with_body}
use Rattle.cloud_disk.specs.JournalHalves.Findings.{part_of}
use Rattle.cloud_disk.specs.JournalHalves.Outcomes.{gate_at, rest_of, IsRecordFurther}
use Rattle.cloud_disk.specs.JournalHalves.States as records
use Rattle.cloud_disk.specs.CommitJournal.errors.OpenErr.{OpenErr}
use Rattle.cloud_disk.specs.CommitJournal.errors.OpenErr.TheVariants.{Fault, NotBegun, Damaged, OtherStore}
use Rattle.cloud_disk.specs.CommitJournal.journal.Stage.{Stage}
use Rattle.cloud_disk.specs.CommitJournal.States.{JournalState, IsJournalReading, IsJournalEnded}
use Rattle.cloud_disk.specs.CommitJournal.Outcomes.{records_place, IsDamaged}
use Rattle.record_laws.specs.RecordChecks.CloudMemory.Memory.{Memory}
use Rattle.record_laws.specs.RecordChecks.ground.Ground.{Ground}
use Rattle.record_laws.specs.RecordChecks.taking.Taking.{Taking}
use Rattle.record_laws.specs.RecordChecks.Judging as judging
use Rattle.record_laws.specs.RecordChecks.Noting as noting
use Rattle.cloud_disk.specs.CommitJournal.Openings as halves
use Rattle.cloud_opening.specs.Exact.{Replays, Ended, Early, Taken, Refused, Broken, ReadsFor}
use Rattle.cloud_opening.specs.Steps.{From, OneAs, NextAs}

-- ---- what stands at the gate

pub bodies_left : (one more : List (List ℕ)) → AreBodies (one ++ more) → AreBodies more
bodies_left [] more all = all
bodies_left (b ∷ one) more all = bodies_left one more all.1

pub rest_at : (old : records.HalfState) (store : Store) (bodies : List (List ℕ)) (r : records.IsHalfReading old store bodies) → rest_of old store ≡ r.rest
rest_at old store bodies r = ap (λ (l : List ℕ). drop old.gate l) r.spelled ∙ ap (λ (n : ℕ). drop n (chain bodies ++ r.rest)) r.gate ∙ drop_at (chain bodies) r.rest (length (chain bodies)) refl

pub record_there : (rest body behind : List ℕ) → AreBodies (body ∷ []) → 0 < length behind → rest ≡ 1 ∷ (sized body ++ behind) → IsRecordAhead rest body
record_there rest body [] sizes some e = absurd (omega (arith, some))
record_there rest body (gate ∷ behind) sizes some e = record { gate = gate; behind = behind; is_body = sizes.0; spelled = e }

pub record_at : (old new : records.HalfState) (store : Store) (bodies : List (List ℕ)) (body : List ℕ) → records.IsHalfReading old store bodies → new.half ≡ old.half → records.IsHalfReading new store (bodies ++ body ∷ [])
    → IsRecordAhead (rest_of old store) body
record_at old new store bodies body r half f =
    let part : part_of old.half store.read ≡ part_of new.half store.read = ap (λ (h : ℕ). part_of h store.read) (sym half) in
    let whole : chain bodies ++ r.rest ≡ chain bodies ++ (1 ∷ (sized body ++ f.rest)) = sym r.spelled ∙ part ∙ f.spelled ∙ chain-push bodies body f.rest in
    record_there (rest_of old store) body f.rest (bodies_left bodies (body ∷ []) f.sizes) f.more
    (rest_at old store bodies r ∙ append_cancel_left (chain bodies) r.rest (1 ∷ (sized body ++ f.rest)) whole)

pub closed_at : (old new : records.HalfState) (store : Store) (bodies : List (List ℕ)) → records.IsHalfReading old store bodies → new.half ≡ old.half → records.IsEnded new store bodies → IsClosed (rest_of old store)
closed_at old new store bodies r half e =
    let j = e.chain_is in
    let front = chain bodies ++ j.gate ∷ [] in
    let long : length front ≡ length (chain bodies) + 1 = omega (arith, length-append (chain bodies) (j.gate ∷ [])) in
    let m = half_len - length front in
    let sum : half_len ≡ length front + m = omega (arith, long, e.within, e.gate) in
    let late = j.gate ∷ take m j.behind in
    let whole : half_of new.half store.read ≡ front ++ j.behind = j.spelled ∙ sym (append_assoc (chain bodies) (j.gate ∷ []) j.behind) in
    let part : part_of new.half store.read ≡ chain bodies ++ late =
    ap (take half_len) whole ∙ ap (λ (n : ℕ). take n (front ++ j.behind)) sum ∙ take-append-add front j.behind m ∙ append_assoc (chain bodies) (j.gate ∷ []) (take m j.behind) in
    record {
      gate = j.gate;
      behind = take m j.behind;
      shut = j.shut;
      spelled = ap (λ (h : ℕ). drop old.gate (part_of h store.read)) (sym half) ∙ ap (λ (l : List ℕ). drop old.gate l) part
          ∙ ap (λ (n : ℕ). drop n (chain bodies ++ late)) r.gate ∙ drop_at (chain bodies) late (length (chain bodies)) refl;
    }

pub restaged : (state : JournalState) (store : Store) (w : Where) (stage : Stage) → IsJournalReading state store w → IsJournalReading (record state { stage = stage }) store w
restaged state store w stage r = record { half = r.half; start = r.start; is_current = r.is_current; read = r.read; left = r.left }

-- ---- one step

module _ (g : Ground) (recipes : List ℕ) (store : Store) (old mid : JournalState) (w : Where) (before : Memory) (t : Taking) (reading : IsJournalReading old store w) where
  -- the same from an equal place
  moved : (new : Memory) (half half2 : ℕ) (start start2 : Start) (rest rest2 : List ℕ) (gate gate2 records : ℕ) (m : Memory) (u : Taking) (answer : Result ℕ OpenErr) → half ≡ half2 → start ≡ start2 → rest ≡ rest2 → gate ≡ gate2
      → Replays g half start recipes new rest gate records m u answer → Replays g half2 start2 recipes new rest2 gate2 records m u answer
  moved new half half2 start start2 rest rest2 gate gate2 records m u answer a b c d r =
      subst (λ (n : ℕ). Replays g half2 start2 recipes new rest2 n records m u answer) d
      (subst (λ (l : List ℕ). Replays g half2 start2 recipes new l gate records m u answer) c
      (subst (λ (s : Start). Replays g half2 s recipes new rest gate records m u answer) b
      (subst (λ (h : ℕ). Replays g h start recipes new rest gate records m u answer) a r)))

  inside_is : (inside : Bool) → inside ≡ nat_lt (length w.bodies) (records_of w.start.checkpoint) → inside ≡ nat_lt (length w.bodies) (records_of old.start.checkpoint)
  inside_is inside is = is ∙ ap (λ (s : Start). nat_lt (length w.bodies) (records_of s.checkpoint)) (sym reading.start)

  module _ (inside : Bool) (is : inside ≡ nat_lt (length w.bodies) (records_of w.start.checkpoint)) (further : IsJournalReading mid store (with_body w mid.current.body)) (over : IsRecordFurther old.current mid.current) where
    at_gate : IsRecordAhead (rest_of old.current store) mid.current.body
    at_gate = record_at old.current mid.current store (all_bodies w) mid.current.body reading.read over.half further.read

    pub as_taken : (stage : Stage) (m : Memory) (u : Taking) → mid.start ≡ old.start → OneAs g inside recipes before t mid.current.body_at mid.current.body m u (Ok tt)
        → NextAs g recipes store w old before t (record mid { stage = stage }) m u (Ok true)
    as_taken stage m u start one = (
      (mid.current.body, restaged mid store (with_body w mid.current.body) stage further),
      λ new answer rest. Taken (rest_of old.current store) mid.current.body one.read (gate_at old.current) (length w.bodies) before m t u answer at_gate
          (subst (λ (b : Bool). ReadsFor g b before mid.current.body recipes one.read) (inside_is inside is) one.reads_for)
          (subst (λ (b : Bool). judging.Judges g b one.read t.spent before (gate_at old.current + 5) mid.current.body (Ok m)) (inside_is inside is)
          (subst (λ (n : ℕ). judging.Judges g inside one.read t.spent before n mid.current.body (Ok m)) over.body_at one.judged.0))
          (subst (λ (n : ℕ). noting.IsNoted n mid.current.body before t u) over.body_at one.judged.1)
          (moved new mid.current.half old.current.half mid.start old.start (rest_of mid.current store) (drop (5 + length mid.current.body) (rest_of old.current store))
          (gate_at mid.current) (gate_at old.current + 5 + length mid.current.body) (length w.bodies + 1) m u answer over.half start
          (ap (λ (h : ℕ). drop mid.current.gate (part_of h store.read)) over.half ∙ ap (λ (n : ℕ). drop n (part_of old.current.half store.read)) gate_is
          ∙ sym (drop-drop (5 + length mid.current.body) old.current.gate (part_of old.current.half store.read)))
          (omega (arith, over.gate, ap (λ (h : ℕ). h * half_len) over.half)) rest),
    )
      where
        gate_is : mid.current.gate ≡ old.current.gate + (5 + length mid.current.body)
        gate_is = omega (arith, over.gate)

    pub as_refused : (new_state : JournalState) (m : Memory) (u : Taking) (error : OpenErr) → halves.OnFault {T = Unit {0}} (Err error) (Unit {0}) (OneAs g inside recipes before t mid.current.body_at mid.current.body m u (Err error))
        → NextAs g recipes store w old before t new_state m u (Err error)
    as_refused new_state m u Fault one = tt
    as_refused new_state m u (Damaged place byte) one = λ new.
        Refused (rest_of old.current store) mid.current.body one.read (gate_at old.current) (length w.bodies) before t (record { at = place; byte = byte }) at_gate
        (subst (λ (b : Bool). ReadsFor g b before mid.current.body recipes one.read) (inside_is inside is) one.reads_for)
        (subst (λ (b : Bool). judging.Judges g b one.read t.spent before (gate_at old.current + 5) mid.current.body (Err (record { at = place; byte = byte }))) (inside_is inside is)
        (subst (λ (n : ℕ). judging.Judges g inside one.read t.spent before n mid.current.body (Err (record { at = place; byte = byte }))) over.body_at one.judged))
    as_refused new_state m u (NotBegun len) one = one.judged
    as_refused new_state m u (OtherStore found asked place) one = one.judged

  pub as_ended : mid.current.half ≡ old.current.half → IsJournalEnded mid store w → NextAs g recipes store w old before t mid before t (Ok false)
  as_ended half ended = (
    ended,
    λ answer closes. Ended (rest_of old.current store) (gate_at old.current) (length w.bodies) t answer (closed_at old.current mid.current store (all_bodies w) reading.read half ended.read)
        (omega (arith, ended.full, ap (λ (s : Start). records_of s.checkpoint) reading.start)) closes,
  )

  pub as_damaged : (at byte : ℕ) → IsDamaged old store at byte → (new : Memory) → From g recipes store new old (length w.bodies) before t (Err (Damaged at byte))
  as_damaged at byte (inl damage) new = Broken (rest_of old.current store) (gate_at old.current) (length w.bodies) at byte before t damage
  as_damaged at byte (inr early) new =
      let e = early.1 in
      subst (λ (n : ℕ). From g recipes store new old (length w.bodies) before t (Err (Damaged n byte))) (sym e.place)
      (subst (λ (n : ℕ). From g recipes store new old (length w.bodies) before t (Err (Damaged (old.current.half * half_len + records_place old.start) n))) (sym e.byte_is)
      (Early (rest_of old.current store) (gate_at old.current) (length w.bodies) before t early.0
      (omega (arith, e.more, reading.left, ap (λ (s : Start). records_of s.checkpoint) reading.start))))
