-- One record further.
use Rattle.std.proofs.Common.{◌≡◌, inl, inr, ℕ, ◌+◌, ◌*◌, Bool, true, false, List, length, drop, nat_lt, Result, Ok, Err, refl, sym, ◌∙◌, ap, subst, arith}
use Rattle.std.proofs.lemmas.List.{drop-drop}
use Rattle.fresh_checkpoints.specs.CdEdges.Disk.{Store}
use Rattle.cloud_opening.specs.JournalHalves.Frames.{IsRecordAhead}
use Rattle.cloud_opening.specs.JournalStart.start.Start.{Start}
use Rattle.cloud_opening.specs.JournalStart.Spelling.{records_of}
use Rattle.fresh_checkpoints.specs.JournalHalves.Halves.{half_len}
use Rattle.fresh_checkpoints.specs.JournalHalves.Journals.{Where, all_bodies, with_body}
use Rattle.fresh_checkpoints.specs.JournalHalves.Findings.{part_of}
use Rattle.fresh_checkpoints.specs.JournalHalves.Outcomes.{gate_at, rest_of, IsRecordFurther}
use Rattle.cloud_opening.specs.CommitJournal.journal.Stage.{Stage}
use Rattle.cloud_opening.specs.CommitJournal.States.{JournalState, IsJournalReading, IsJournalEnded}
use Rattle.cloud_opening.specs.CommitJournal.Outcomes.{records_place, IsDamaged}
use Rattle.fresh_checkpoints.specs.CloudMemory.Memory.{Memory}
use Rattle.cloud_opening.specs.RecordChecks.ground.Ground.{Ground}
use Rattle.first_laws.specs.FirstRecords.Judging.{JudgesFirst}
use Rattle.cloud_opening.specs.Exact.{ReadsFor}
use Rattle.cloud_opening.proofs.Stepping.{restaged, record_at, closed_at}
use Rattle.store_migration.specs.declared.errors.OldErr.{OldErr}
use Rattle.store_migration.specs.declared.errors.OldErr.TheVariants.{Damaged}
use Rattle.store_migration.specs.declared.errors.MigrateErr.{MigrateErr}
use Rattle.store_migration.specs.declared.errors.MigrateErr.TheVariants as why
use Rattle.store_migration.specs.Answers.{OnMigrateFault}
use Rattle.store_migration.specs.Exact.{ReplaysFirst, Ended, Early, Taken, Refused, Broken}
use Rattle.store_migration.specs.Steps.{ReplaysFirstFrom, IsFirstOneAs, NextFirstAs}

module _ (g : Ground) (recipes : List ℕ) (store : Store) (old mid : JournalState) (w : Where) (before : Memory) (reading : IsJournalReading old store w) where
  -- the same from an equal place
  moved : (new : Memory) (half half2 : ℕ) (start start2 : Start) (rest rest2 : List ℕ) (gate gate2 records : ℕ) (m : Memory) (answer : Result (Unit {0}) OldErr) → half ≡ half2 → start ≡ start2 → rest ≡ rest2 → gate ≡ gate2
      → ReplaysFirst g half start recipes new rest gate records m answer → ReplaysFirst g half2 start2 recipes new rest2 gate2 records m answer
  moved new half half2 start start2 rest rest2 gate gate2 records m answer a b c d r =
      subst (λ (n : ℕ). ReplaysFirst g half2 start2 recipes new rest2 n records m answer) d
      (subst (λ (l : List ℕ). ReplaysFirst g half2 start2 recipes new l gate records m answer) c
      (subst (λ (s : Start). ReplaysFirst g half2 s recipes new rest gate records m answer) b
      (subst (λ (h : ℕ). ReplaysFirst g h start recipes new rest gate records m answer) a r)))

  inside_is : (inside : Bool) → inside ≡ nat_lt (length w.bodies) (records_of w.start.checkpoint) → inside ≡ nat_lt (length w.bodies) (records_of old.start.checkpoint)
  inside_is inside is = is ∙ ap (λ (s : Start). nat_lt (length w.bodies) (records_of s.checkpoint)) (sym reading.start)

  module _ (inside : Bool) (is : inside ≡ nat_lt (length w.bodies) (records_of w.start.checkpoint)) (further : IsJournalReading mid store (with_body w mid.current.body)) (over : IsRecordFurther old.current mid.current) where
    at_gate : IsRecordAhead (rest_of old.current store) mid.current.body
    at_gate = record_at old.current mid.current store (all_bodies w) mid.current.body reading.read over.half further.read

    pub as_taken : (stage : Stage) (m : Memory) → mid.start ≡ old.start → IsFirstOneAs g inside recipes before mid.current.body_at mid.current.body m (Ok tt)
        → NextFirstAs g recipes store w old before (record mid { stage = stage }) m (Ok true)
    as_taken stage m start one = (
      (mid.current.body, restaged mid store (with_body w mid.current.body) stage further),
      λ new answer rest. Taken (rest_of old.current store) mid.current.body one.read (gate_at old.current) (length w.bodies) before m answer at_gate
          (subst (λ (b : Bool). ReadsFor g b before mid.current.body recipes one.read) (inside_is inside is) one.reads_for)
          (subst (λ (b : Bool). JudgesFirst g b one.read before (gate_at old.current + 5) mid.current.body (Ok m)) (inside_is inside is)
          (subst (λ (n : ℕ). JudgesFirst g inside one.read before n mid.current.body (Ok m)) over.body_at one.judged))
          (moved new mid.current.half old.current.half mid.start old.start (rest_of mid.current store) (drop (5 + length mid.current.body) (rest_of old.current store))
          (gate_at mid.current) (gate_at old.current + 5 + length mid.current.body) (length w.bodies + 1) m answer over.half start
          (ap (λ (h : ℕ). drop mid.current.gate (part_of h store.read)) over.half ∙ ap (λ (n : ℕ). drop n (part_of old.current.half store.read)) gate_is
          ∙ sym (drop-drop (5 + length mid.current.body) old.current.gate (part_of old.current.half store.read)))
          (omega (arith, over.gate, ap (λ (h : ℕ). h * half_len) over.half)) rest),
    )
      where
        gate_is : mid.current.gate ≡ old.current.gate + (5 + length mid.current.body)
        gate_is = omega (arith, over.gate)

    pub as_refused : (new_state : JournalState) (m : Memory) (error : MigrateErr) → OnMigrateFault {T = Unit {0}} (Err error) (Unit {0}) (IsFirstOneAs g inside recipes before mid.current.body_at mid.current.body m (Err error))
        → NextFirstAs g recipes store w old before new_state m (Err error)
    as_refused new_state m (why.Open error) one = λ new.
        let e = one.judged.0 in
        subst (λ (x : OldErr). ReplaysFirstFrom g recipes store new old (length w.bodies) before (Err x)) (sym one.judged.2)
        (Refused (rest_of old.current store) mid.current.body one.read (gate_at old.current) (length w.bodies) before e at_gate
        (subst (λ (b : Bool). ReadsFor g b before mid.current.body recipes one.read) (inside_is inside is) one.reads_for)
        (subst (λ (b : Bool). JudgesFirst g b one.read before (gate_at old.current + 5) mid.current.body (Err e)) (inside_is inside is)
        (subst (λ (n : ℕ). JudgesFirst g inside one.read before n mid.current.body (Err e)) over.body_at one.judged.1)))
    as_refused new_state m why.Already one = one.judged
    as_refused new_state m (why.TooLarge user room used limit) one = one.judged
    as_refused new_state m why.Fault one = tt
    as_refused new_state m why.NoMemory one = one.judged

  pub as_ended : mid.current.half ≡ old.current.half → IsJournalEnded mid store w → NextFirstAs g recipes store w old before mid before (Ok false)
  as_ended half ended = (
    ended,
    Ended (rest_of old.current store) (gate_at old.current) (length w.bodies) (closed_at old.current mid.current store (all_bodies w) reading.read half ended.read)
        (omega (arith, ended.full, ap (λ (s : Start). records_of s.checkpoint) reading.start)),
    refl,
  )

  pub as_damaged : (at byte : ℕ) → IsDamaged old store at byte → (new : Memory) → ReplaysFirstFrom g recipes store new old (length w.bodies) before (Err (Damaged at byte))
  as_damaged at byte (inl damage) new = Broken (rest_of old.current store) (gate_at old.current) (length w.bodies) at byte before damage
  as_damaged at byte (inr early) new =
      let e = early.1 in
      subst (λ (n : ℕ). ReplaysFirstFrom g recipes store new old (length w.bodies) before (Err (Damaged n byte))) (sym e.place)
      (subst (λ (n : ℕ). ReplaysFirstFrom g recipes store new old (length w.bodies) before (Err (Damaged (old.current.half * half_len + records_place old.start) n))) (sym e.byte_is)
      (Early (rest_of old.current store) (gate_at old.current) (length w.bodies) before early.0
      (omega (arith, e.more, reading.left, ap (λ (s : Start). records_of s.checkpoint) reading.start))))
