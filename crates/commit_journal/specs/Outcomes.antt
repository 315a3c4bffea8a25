-- What the calls of a journal answer, and what they leave of a told cloud.
use Rattle.std.specs.Prelude.{◌≡◌, ◌≢◌, ◌⊎◌, ℕ, ◌+◌, ◌-◌, ◌*◌, ◌<◌, ◌≤◌, Bool, true, false, IsTrue, List, [], ◌∷◌, ◌==◌, slice_index, if◌then◌else◌, Result, Ok, Err, OnOk, is_ok}
use Rattle.std.specs.Int.{w32, to_be_bytes}
use Rattle.journal_halves.specs.CdEdges.area.Area.TheVariants.{Journal}
use Rattle.journal_halves.specs.CdEdges.Disk.{Store, Cloud, LeavesOnly, IsAtArea}
use Rattle.journal_halves.specs.Records.{IsDamage}
use Rattle.journal_halves.specs.Frames.{IsClosed}
use Rattle.journal_halves.specs.JournalStart.start.Header.{Header}
use Rattle.journal_halves.specs.JournalStart.start.Start.{Start}
use Rattle.journal_halves.specs.JournalStart.Spelling.{records_of}
use Rattle.journal_halves.specs.Halves.{half_len}
use Rattle.journal_halves.specs.Findings.{part_of}
use Rattle.journal_halves.specs.Journals.{Where, HasChain, IsEither, with_body}
use Rattle.journal_halves.specs.declared.errors.RecordErr.{RecordErr}
use Rattle.journal_halves.specs.declared.errors.RecordErr.TheVariants.{Failed, Damaged}
use Rattle.journal_halves.specs.Outcomes.{gate_at, rest_of}
use Rattle.commit_journal.specs.declared.journal.Stage.{Stage}
use Rattle.commit_journal.specs.declared.journal.Stage.TheVariants.{Shut, Reading, AtEnd}
use Rattle.commit_journal.specs.States.{JournalState, IsJournalReading, IsJournalEnded, IsLaying, next_of}

-- ---- reading

-- the first place of the number of records in a start's record
abbrev pub records_place : Start → ℕ
records_place start = if start.header.format == 1 then 29 else 57

-- The chain closes before all records of its checkpoint: the first place of their number in the start, and its byte.
pub record EndsEarly (state : JournalState) (at byte : ℕ) : Type 0 where
  pub more : 0 < state.left
  pub place : at ≡ state.current.half * half_len + records_place state.start
  pub byte_is : byte ≡ slice_index (to_be_bytes w32 (records_of state.start.checkpoint)) 0

-- a record is damaged, or the gate is closed and the chain ends early
abbrev pub IsDamaged : JournalState → Store → ℕ → ℕ → Type 0
IsDamaged state store at byte = IsDamage (rest_of state.current store) (gate_at state.current) at byte ⊎ (IsClosed (rest_of state.current store) × EndsEarly state at byte)

-- one record was read, or the gate is closed: what follows
abbrev pub TookIs : JournalState → JournalState → Bool → Result Bool RecordErr → Type 0
TookIs old new true (Ok true) = new ≡ record old { left = old.left - 1 }
TookIs old new false (Ok false) = (old.left ≡ 0) × (new ≡ record old { stage = AtEnd })
TookIs old new false (Err (Damaged at byte)) = EndsEarly old at byte
TookIs old new true (Ok false) = ⊥
TookIs old new true (Err e) = ⊥
TookIs old new false (Ok true) = ⊥
TookIs old new false (Err Failed) = ⊥

-- The next record is added to those that were read; or the gate is closed, behind all records of the checkpoint; or there
-- is damage.
abbrev pub NextIs : JournalState → JournalState → Store → Where → Result Bool RecordErr → Type 0
NextIs old new store w (Ok true) = IsJournalReading new store (with_body w new.current.body)
NextIs old new store w (Ok false) = IsJournalEnded new store w
NextIs old new store w (Err (Damaged at byte)) = IsDamaged old store at byte
NextIs old new store w (Err Failed) = Unit {0}

-- how far the journal is read after an answer
abbrev pub stage_of : Result Bool RecordErr → Stage
stage_of (Ok true) = Reading
stage_of (Ok false) = AtEnd
stage_of (Err e) = Shut

-- the stage after a call that is Ok, and after one that isn't
abbrev pub stage_after : {T E : Type 0} → Stage → Result T E → Stage
stage_after stage (Ok value) = stage
stage_after stage (Err e) = Shut

-- whatever chain was read so far
abbrev pub ReadsNextOfChain : JournalState → JournalState → Cloud → Result Bool RecordErr → Type 0
ReadsNextOfChain before after old result = IsTrue old.told → (w : Where) → IsJournalReading before (old.now Journal) w → NextIs before after (old.now Journal) w result

-- ---- writing

-- Whatever chain the journal has: each image since has it, or it with this record.
abbrev pub KeepsChainOrAdds : JournalState → List ℕ → Cloud → Cloud → Type 0
KeepsChainOrAdds state body old new = IsTrue old.told → (w : Where) → IsJournalEnded state (old.now Journal) w
    → LeavesOnly old new (IsAtArea old.now Journal (IsEither w (with_body w body)))

-- Whatever chain the journal has: each image since has the places of the other half as they were.
abbrev pub KeepsOtherHalf : JournalState → Cloud → Cloud → Type 0
KeepsOtherHalf state old new = IsTrue old.told → (w : Where) → IsJournalEnded state (old.now Journal) w
    → LeavesOnly old new (λ image. part_of (1 - w.half) (image Journal) ≡ part_of (1 - w.half) (old.now Journal).read)

abbrev pub HasAddedToChain : {T E : Type 0} → JournalState → JournalState → List ℕ → Cloud → Cloud → Result T E → Type 0
HasAddedToChain before after body old new result = IsTrue old.told → (w : Where)
    → IsJournalEnded before (old.now Journal) w
    → OnOk result (IsJournalEnded after (new.now Journal) (with_body w body))

-- Whatever chain the journal has: each image since has it.
abbrev pub KeepsChain : JournalState → Cloud → Cloud → Type 0
KeepsChain state old new = IsTrue old.told → (w : Where) → IsJournalEnded state (old.now Journal) w
    → LeavesOnly old new (IsAtArea old.now Journal (λ image. HasChain image w))

abbrev pub HasTurned : {T E : Type 0} → JournalState → JournalState → Header → ℕ → ℕ → ℕ → Cloud → Cloud → Result T E
    → Type 0
HasTurned before after header commands records region old new result = IsTrue old.told → (w : Where) → IsJournalEnded before (old.now Journal) w
    → OnOk result (IsLaying after (new.now Journal) w (next_of w header commands records region))

-- Whatever chain has a checkpoint laid behind it: each image since has that chain.
abbrev pub KeepsLaid : JournalState → Cloud → Cloud → Type 0
KeepsLaid state old new = IsTrue old.told → (w next : Where) → IsLaying state (old.now Journal) w next
    → LeavesOnly old new (IsAtArea old.now Journal (λ image. HasChain image w))

abbrev pub HasLaid : {T E : Type 0} → JournalState → JournalState → List ℕ → Cloud → Cloud → Result T E → Type 0
HasLaid before after body old new result = IsTrue old.told → (w next : Where) → IsLaying before (old.now Journal) w next
    → OnOk result (IsLaying after (new.now Journal) w (with_body next body))

-- Each image since has that chain, or the checkpoint's.
abbrev pub KeepsChainOrSettles : JournalState → Cloud → Cloud → Type 0
KeepsChainOrSettles state old new = IsTrue old.told → (w next : Where) → IsLaying state (old.now Journal) w next
    → LeavesOnly old new (IsAtArea old.now Journal (IsEither w next))

abbrev pub HasJournalSettled : {T E : Type 0} → JournalState → JournalState → Cloud → Cloud → Result T E → Type 0
HasJournalSettled before after old new result = IsTrue old.told → (w next : Where)
    → IsLaying before (old.now Journal) w next
    → OnOk result (IsJournalEnded after (new.now Journal) next)
