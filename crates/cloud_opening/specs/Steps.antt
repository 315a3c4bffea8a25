-- How far a journal's records were taken into the memory. No public clause cites this module.
use Rattle.std.specs.Prelude.{◌≡◌, ℕ, ◌+◌, Bool, true, false, List, length, None, Result, Ok, Err}
use Rattle.cloud_disk.specs.CdEdges.Disk.{Store, Cloud, reads}
use Rattle.cloud_disk.specs.JournalStart.start.Header.{Header}
use Rattle.cloud_disk.specs.JournalHalves.Journals.{Where, with_body}
use Rattle.cloud_disk.specs.JournalHalves.Outcomes.{gate_at, rest_of}
use Rattle.cloud_disk.specs.CommitJournal.errors.OpenErr.{OpenErr}
use Rattle.cloud_disk.specs.CommitJournal.errors.OpenErr.TheVariants.{Fault, NotBegun, Damaged, OtherStore}
use Rattle.cloud_disk.specs.CommitJournal.journal.Stage.{Stage}
use Rattle.cloud_disk.specs.CommitJournal.journal.Stage.TheVariants.{Shut, Reading, AtEnd}
use Rattle.cloud_disk.specs.CommitJournal.States as journals
use Rattle.cloud_disk.specs.UserDedup.command.Command.{Command}
use Rattle.cloud_disk.specs.UserDedup.Cloud.{counted}
use Rattle.cloud_disk.specs.CloudAreas.Placing.{region_start}
use Rattle.cloud_disk.specs.CloudAreas.Standing.{Chain, region_in}
use Rattle.cloud_disk.specs.Disk.{IsRead}
use Rattle.record_laws.specs.Leaving.{IsLeftIn}
use Rattle.record_laws.specs.RecordChecks.CloudMemory.Memory.{Memory}
use Rattle.record_laws.specs.RecordChecks.CloudMemory.Fitting.{FitsRecords}
use Rattle.record_laws.specs.RecordChecks.ground.Ground.{Ground}
use Rattle.record_laws.specs.RecordChecks.taking.Taking.{Taking}
use Rattle.record_laws.specs.RecordChecks.Judging.{Judges}
use Rattle.record_laws.specs.RecordChecks.Noting.{IsNoted}
use Rattle.cloud_opening.specs.Roomy.{SpendWithin}
use Rattle.cloud_opening.specs.Exact.{ReadsFor, Closes, number_behind, Replays}

-- An answer that comes of records: no half is lacking, and no header is another.
abbrev pub IsOfRecords : {T : Type 0} → Result T OpenErr → Type 0
IsOfRecords (Ok value) = Unit {0}
IsOfRecords (Err Fault) = Unit {0}
IsOfRecords (Err (Damaged at byte)) = Unit {0}
IsOfRecords (Err (NotBegun len)) = ⊥
IsOfRecords (Err (OtherStore found asked at)) = ⊥

-- how far the journal is read after an answer
abbrev pub stage_of : Result Bool OpenErr → Stage
stage_of (Ok true) = Reading
stage_of (Ok false) = AtEnd
stage_of (Err e) = Shut

-- a fact where one record more was taken
abbrev pub OnTrue : Result Bool OpenErr → Type 0 → Type 0
OnTrue (Ok true) fact = fact
OnTrue (Ok false) fact = Unit {0}
OnTrue (Err e) fact = Unit {0}

-- What comes of the records from the gate on.
abbrev pub From : Ground → List ℕ → Store → Memory → journals.JournalState → ℕ → Memory → Taking → Result ℕ OpenErr
    → Type 0
From g recipes store new journal records old t answer =
    Replays g journal.current.half journal.start recipes new (rest_of journal.current store) (gate_at journal.current) records old t answer

-- A record is taken with these bytes where its recipe lies, as its checks say, or not.
abbrev pub BodyAs : Ground → Bool → List ℕ → Memory → Taking → ℕ → List ℕ → Memory → Taking → Result (Unit {0}) OpenErr → Type 0
BodyAs g inside read old before at body new after (Ok value) = Judges g inside read before.spent old at body (Ok new) × IsNoted at body old before after
BodyAs g inside read old before at body new after (Err Fault) = ⊥
BodyAs g inside read old before at body new after (Err (Damaged place byte)) = Judges g inside read before.spent old at body (Err (record { at = place; byte = byte }))
BodyAs g inside read old before at body new after (Err (NotBegun len)) = ⊥
BodyAs g inside read old before at body new after (Err (OtherStore found asked place)) = ⊥

-- the same with what is read there
pub record OneAs (g : Ground) (inside : Bool) (recipes : List ℕ) (old : Memory) (before : Taking) (at : ℕ) (body : List ℕ) (new : Memory) (after : Taking) (result : Result (Unit {0}) OpenErr) : Type 0 where
  pub read : List ℕ
  pub reads_for : ReadsFor g inside old body recipes read
  pub judged : BodyAs g inside read old before at body new after result

-- With one record taken the rest decides; or the gate is closed behind all of the checkpoint's records, and the bounds decide; or this is
-- the answer.
abbrev pub NextAs : Ground → List ℕ → Store → Where → journals.JournalState → Memory → Taking → journals.JournalState → Memory → Taking → Result Bool OpenErr → Type 0
NextAs g recipes store w before old t after mid u (Ok true) = ((body : List ℕ) × journals.IsJournalReading after store (with_body w body))
    × ((new : Memory) (answer : Result ℕ OpenErr) → From g recipes store new after (length w.bodies + 1) mid u answer → From g recipes store new before (length w.bodies) old t answer)
NextAs g recipes store w before old t after mid u (Ok false) = journals.IsJournalEnded after store w
    × ((answer : Result ℕ OpenErr) → Closes g mid u (number_behind before.start (length w.bodies)) answer → From g recipes store mid before (length w.bodies) old t answer)
NextAs g recipes store w before old t after mid u (Err Fault) = Unit {0}
NextAs g recipes store w before old t after mid u (Err (Damaged at byte)) = (new : Memory) → From g recipes store new before (length w.bodies) old t (Err (Damaged at byte))
NextAs g recipes store w before old t after mid u (Err (NotBegun len)) = ⊥
NextAs g recipes store w before old t after mid u (Err (OtherStore found asked place)) = ⊥

-- All records were taken, so many, and the bounds decide; or this is the answer.
abbrev pub AllRecordsAs : Ground → List ℕ → Store → Where → journals.JournalState → Memory → Taking → journals.JournalState → Memory → Taking → Result ℕ OpenErr → Type 0
AllRecordsAs g recipes store w before old t after mid u (Ok records) =
    ((bodies : List (List ℕ)) × (records ≡ length bodies)
    × journals.IsJournalEnded after store (record w { bodies = bodies }))
    × ((answer : Result ℕ OpenErr) → Closes g mid u (number_behind before.start records) answer → From g recipes store mid before 0 old t answer)
AllRecordsAs g recipes store w before old t after mid u (Err Fault) = Unit {0}
AllRecordsAs g recipes store w before old t after mid u (Err (Damaged at byte)) = (new : Memory) → From g recipes store new before 0 old t (Err (Damaged at byte))
AllRecordsAs g recipes store w before old t after mid u (Err (NotBegun len)) = ⊥
AllRecordsAs g recipes store w before old t after mid u (Err (OtherStore found asked place)) = ⊥

-- The chain was read to its end, whatever its records are.
pub record HasChainEnded (journal : journals.JournalState) (store : Store) (w : Where) : Type 0 where
  pub bodies : List (List ℕ)
  pub ended : journals.IsJournalEnded journal store (record w { bodies = bodies })

-- Where no place field was noted, no blob has moved the end; what the memory has fits records; and nobody has spent more than it may.
pub record IsTraced (g : Ground) (m : Memory) (t : Taking) : Type 0 where
  pub shares : t.shares_field ≡ None → m.shares_end ≡ region_start g.region
  pub recipes : t.recipes_field ≡ None → m.recipes_end ≡ region_start g.region
  pub fit : FitsRecords m
  pub spent : SpendWithin g.rooms m.spent

-- ---- by a list

-- What was read is a chain that says the list, and the memory is the list's.
pub record IsListFound (header : Header) (list : List Command) (journal : journals.JournalState) (m : Memory) (commands : ℕ) (cloud : Cloud) : Type 0 where
  pub c : Chain
  pub counted_is : commands ≡ counted list
  pub read : IsRead header list c journal cloud
  pub left : IsLeftIn header (reads cloud.now) (region_in c) list c.records m
