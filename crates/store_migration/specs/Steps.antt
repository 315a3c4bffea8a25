-- How far a journal's records of format 1 were taken into the memory. No public clause cites this module.
use Rattle.std.specs.Prelude.{◌≡◌, ◌⊎◌, ℕ, ◌+◌, ◌*◌, ◌<◌, ◌≤◌, Bool, true, false, List, length, slice_index, Result, Ok, Err}
use Rattle.std.specs.Int.{w64, to_be_bytes}
use Rattle.fresh_checkpoints.specs.CdBase.ids.CloudNo.{CloudNo}
use Rattle.fresh_checkpoints.specs.CdBase.shape.Shape.{Shape}
use Rattle.fresh_checkpoints.specs.CdEdges.area.Area.{Area}
use Rattle.fresh_checkpoints.specs.CdEdges.area.Area.TheVariants as areas
use Rattle.fresh_checkpoints.specs.CdEdges.Disk.{Store, Cloud, reads}
use Rattle.fresh_checkpoints.specs.CdEdges.Shelf.{stable}
use Rattle.cloud_opening.specs.JournalStart.Spelling.{recipes_end_of}
use Rattle.fresh_checkpoints.specs.JournalHalves.Halves.{half_len}
use Rattle.fresh_checkpoints.specs.JournalHalves.Journals.{Where, with_body}
use Rattle.fresh_checkpoints.specs.JournalHalves.Outcomes.{gate_at, rest_of}
use Rattle.cloud_opening.specs.CommitJournal.journal.Stage.{Stage}
use Rattle.cloud_opening.specs.CommitJournal.journal.Stage.TheVariants.{Shut, Reading, AtEnd}
use Rattle.cloud_opening.specs.CommitJournal.States as journals
use Rattle.fresh_checkpoints.specs.CloudMemory.Memory.{Memory}
use Rattle.cloud_opening.specs.RecordChecks.ground.Ground.{Ground}
use Rattle.cloud_opening.specs.Exact.{ReadsFor}
use Rattle.first_laws.specs.FirstRecords.errors.FirstErr.{FirstErr}
use Rattle.first_laws.specs.FirstRecords.Judging.{JudgesFirst}
use Rattle.first_laws.specs.Leaving.{begun_behind}
use Rattle.large_users.specs.MigrationModel.Migrating.{header_one}
use Rattle.store_migration.specs.declared.errors.OldErr.{OldErr}
use Rattle.store_migration.specs.declared.errors.OldErr.TheVariants.{Damaged}
use Rattle.store_migration.specs.declared.errors.MigrateErr.{MigrateErr}
use Rattle.store_migration.specs.declared.errors.MigrateErr.TheVariants as why
use Rattle.store_migration.specs.Exact.{users_most, end_place, old_err, ReplaysFirst, ReplaysAllFirst}

-- An answer that comes of records.
abbrev pub IsOfFirstRecords : {T : Type 0} → Result T MigrateErr → Type 0
IsOfFirstRecords (Ok value) = Unit {0}
IsOfFirstRecords (Err (why.Open error)) = Unit {0}
IsOfFirstRecords (Err why.Already) = ⊥
IsOfFirstRecords (Err (why.TooLarge user room used limit)) = ⊥
IsOfFirstRecords (Err why.Fault) = Unit {0}
IsOfFirstRecords (Err why.NoMemory) = ⊥

-- how far the journal is read after an answer
abbrev pub stage_of : Result Bool MigrateErr → Stage
stage_of (Ok true) = Reading
stage_of (Ok false) = AtEnd
stage_of (Err e) = Shut

abbrev pub stage_after : {T : Type 0} → Stage → Result T MigrateErr → Stage
stage_after stage (Ok value) = stage
stage_after stage (Err e) = Shut

-- a fact where one record more was taken
abbrev pub OnRecordTaken : Result Bool MigrateErr → Type 0 → Type 0
OnRecordTaken (Ok true) fact = fact
OnRecordTaken (Ok false) fact = Unit {0}
OnRecordTaken (Err e) fact = Unit {0}

-- What comes of the records from the gate on.
abbrev pub ReplaysFirstFrom : Ground → List ℕ → Store → Memory → journals.JournalState → ℕ → Memory
    → Result (Unit {0}) OldErr
    → Type 0
ReplaysFirstFrom g recipes store new journal records old answer =
    ReplaysFirst g journal.current.half journal.start recipes new (rest_of journal.current store) (gate_at journal.current) records old answer

-- a record's error is the answer
abbrev pub IsErrOfRecord : Ground → Bool → List ℕ → Memory → ℕ → List ℕ → OldErr → Type 0
IsErrOfRecord g inside read old at body error = (e : FirstErr) × JudgesFirst g inside read old at body (Err e) × (error ≡ old_err e)

-- A record is taken with these bytes where its recipe lies, as its checks say, or not.
abbrev pub FirstBodyAs : Ground → Bool → List ℕ → Memory → ℕ → List ℕ → Memory → Result (Unit {0}) MigrateErr → Type 0
FirstBodyAs g inside read old at body new (Ok value) = JudgesFirst g inside read old at body (Ok new)
FirstBodyAs g inside read old at body new (Err (why.Open error)) = IsErrOfRecord g inside read old at body error
FirstBodyAs g inside read old at body new (Err why.Already) = ⊥
FirstBodyAs g inside read old at body new (Err (why.TooLarge user room used limit)) = ⊥
FirstBodyAs g inside read old at body new (Err why.Fault) = ⊥
FirstBodyAs g inside read old at body new (Err why.NoMemory) = ⊥

-- the same with what is read there
pub record IsFirstOneAs (g : Ground) (inside : Bool) (recipes : List ℕ) (old : Memory) (at : ℕ) (body : List ℕ) (new : Memory) (result : Result (Unit {0}) MigrateErr) : Type 0 where
  pub read : List ℕ
  pub reads_for : ReadsFor g inside old body recipes read
  pub judged : FirstBodyAs g inside read old at body new result

-- With one record taken the rest decides; or the gate is closed behind all of the checkpoint's records; or this is the answer.
abbrev pub NextFirstAs : Ground → List ℕ → Store → Where → journals.JournalState → Memory → journals.JournalState → Memory → Result Bool MigrateErr → Type 0
NextFirstAs g recipes store w before old after mid (Ok true) = ((body : List ℕ) × journals.IsJournalReading after store (with_body w body))
    × ((new : Memory) (answer : Result (Unit {0}) OldErr) → ReplaysFirstFrom g recipes store new after (length w.bodies + 1) mid answer → ReplaysFirstFrom g recipes store new before (length w.bodies) old answer)
NextFirstAs g recipes store w before old after mid (Ok false) = journals.IsJournalEnded after store w × ReplaysFirstFrom g recipes store mid before (length w.bodies) old (Ok tt) × (mid ≡ old)
NextFirstAs g recipes store w before old after mid (Err (why.Open error)) = (new : Memory) → ReplaysFirstFrom g recipes store new before (length w.bodies) old (Err error)
NextFirstAs g recipes store w before old after mid (Err why.Already) = ⊥
NextFirstAs g recipes store w before old after mid (Err (why.TooLarge user room used limit)) = ⊥
NextFirstAs g recipes store w before old after mid (Err why.Fault) = Unit {0}
NextFirstAs g recipes store w before old after mid (Err why.NoMemory) = ⊥

-- All records were taken, or this is the answer.
abbrev pub AllFirstRecordsAs : Ground → List ℕ → Store → Where → journals.JournalState → Memory → journals.JournalState → Memory → Result (Unit {0}) MigrateErr → Type 0
AllFirstRecordsAs g recipes store w before old after mid (Ok value) =
    ((bodies : List (List ℕ)) × journals.IsJournalEnded after store (record w { bodies = bodies })) × ReplaysFirstFrom g recipes store mid before 0 old (Ok tt)
AllFirstRecordsAs g recipes store w before old after mid (Err (why.Open error)) = (new : Memory) → ReplaysFirstFrom g recipes store new before 0 old (Err error)
AllFirstRecordsAs g recipes store w before old after mid (Err why.Already) = ⊥
AllFirstRecordsAs g recipes store w before old after mid (Err (why.TooLarge user room used limit)) = ⊥
AllFirstRecordsAs g recipes store w before old after mid (Err why.Fault) = Unit {0}
AllFirstRecordsAs g recipes store w before old after mid (Err why.NoMemory) = ⊥

-- ---- all records behind a start

-- the damage of the recipes' end in the start of a half
abbrev pub past_err : ℕ → ℕ → OldErr
past_err half end = Damaged (half * half_len + end_place) (slice_index (to_be_bytes w64 end) 0)

-- What comes of all records, into a memory of no commands whose recipes end where the start says.
abbrev pub FromStart : Ground → List ℕ → Store → Memory → journals.JournalState → Result (Unit {0}) OldErr → Type 0
FromStart g recipes store new before answer = ReplaysFirstFrom g recipes store new before 0 (begun_behind users_most (recipes_end_of before.start.checkpoint)) answer

-- Recipes are to end within their area, and the records decide; or they end past it.
abbrev pub LoadsAs : Ground → ℕ → List ℕ → Store → journals.JournalState → Memory → Result (Unit {0}) MigrateErr
    → Type 0
LoadsAs g half recipes store before new (Ok value) = (recipes_end_of before.start.checkpoint ≤ g.recipes_len) × FromStart g recipes store new before (Ok tt)
LoadsAs g half recipes store before new (Err (why.Open error)) =
    ((recipes_end_of before.start.checkpoint ≤ g.recipes_len) × FromStart g recipes store new before (Err error))
    ⊎ ((g.recipes_len < recipes_end_of before.start.checkpoint) × (error ≡ past_err half (recipes_end_of before.start.checkpoint)))
LoadsAs g half recipes store before new (Err why.Already) = ⊥
LoadsAs g half recipes store before new (Err (why.TooLarge user room used limit)) = ⊥
LoadsAs g half recipes store before new (Err why.Fault) = Unit {0}
LoadsAs g half recipes store before new (Err why.NoMemory) = ⊥

-- The journal was read to its end: its current half has a chain with the header of format 1, by whose start recipes end within their area, and
-- the memory is what its records leave.
pub record HasReadAll (shape : Shape) (cloud_no : CloudNo) (journal : journals.JournalState) (m : Memory) (cloud : Cloud) : Type 0 where
  pub w : Where
  pub header_is : w.start.header ≡ header_one shape cloud_no
  pub ended : journals.IsJournalEnded journal (cloud.now areas.Journal) w
  pub within : recipes_end_of w.start.checkpoint ≤ length (cloud.now areas.Recipes).read
  pub replays : ReplaysAllFirst (header_one shape cloud_no) w.half w.start (reads cloud.now) m (Ok tt)

-- The same, and all of each area is on the disk.
pub record IsReadWholeOne (shape : Shape) (cloud_no : CloudNo) (journal : journals.JournalState) (m : Memory) (cloud : Cloud) : Type 0 where
  pub w : Where
  pub header_is : w.start.header ≡ header_one shape cloud_no
  pub ended : journals.IsJournalEnded journal (cloud.now areas.Journal) w
  pub on_disk : (area : Area) → cloud.now area ≡ stable (cloud.now area).read
  pub within : recipes_end_of w.start.checkpoint ≤ length (cloud.now areas.Recipes).read
  pub replays : ReplaysAllFirst (header_one shape cloud_no) w.half w.start (reads cloud.now) m (Ok tt)
