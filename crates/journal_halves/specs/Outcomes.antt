-- What the calls on the records of a half answer, and what they leave.
use Rattle.std.specs.Prelude.{◌≡◌, ◌≢◌, ◌⊎◌, ℕ, ◌+◌, ◌-◌, ◌*◌, ◌≤◌, Bool, true, false, IsTrue, List, [], ◌∷◌, ◌++◌, length, take, drop, slice_index, Result, Ok, Err}
use Rattle.cd_edges.specs.declared.area.Area.{Area}
use Rattle.cd_edges.specs.declared.area.Area.TheVariants.{Journal}
use Rattle.cd_edges.specs.Disk.{Store, Cloud, LeavesOnly, IsAtArea}
use Rattle.journal_halves.specs.Records.{IsJournalBody, IsDamage}
use Rattle.journal_halves.specs.Frames.{IsClosed, IsRecordAhead}
use Rattle.journal_halves.specs.Halves.{half_len}
use Rattle.journal_halves.specs.Findings.{part_of}
use Rattle.journal_halves.specs.declared.errors.RecordErr.{RecordErr}
use Rattle.journal_halves.specs.declared.errors.RecordErr.TheVariants.{Failed, Damaged}
use Rattle.journal_halves.specs.States.{HalfState, IsHalfReading, IsEnded, IsAdded}

-- what was read ahead are the first bytes of the rest
abbrev pub IsWindow : HalfState → List ℕ → Type 0
IsWindow state rest = state.ahead ≡ take (length state.ahead) rest

-- the place of the gate in the area
abbrev pub gate_at : HalfState → ℕ
gate_at state = state.half * half_len + state.gate

-- what the half has from the gate on
abbrev pub rest_of : HalfState → Store → List ℕ
rest_of state store = drop state.gate (part_of state.half store.read)

-- One record further.
pub record IsRecordFurther (old new : HalfState) : Type 0 where
  pub is_body : IsJournalBody new.body
  pub half : new.half ≡ old.half
  pub gate : new.gate ≡ old.gate + 5 + length new.body
  pub body_at : new.body_at ≡ gate_at old + 5

-- What a step does whatever is known of the area: it goes over a record with a body, or it stays at the gate.
abbrev pub StepIs : HalfState → HalfState → Result Bool RecordErr → Type 0
StepIs old new (Ok true) = IsRecordFurther old new
StepIs old new (Ok false) = (new.half ≡ old.half) × (new.gate ≡ old.gate)
StepIs old new (Err e) = Unit {0}

-- what stands at the gate before these bytes
abbrev pub TakenIs : HalfState → HalfState → List ℕ → Result Bool RecordErr → Type 0
TakenIs old new rest (Ok true) = IsRecordAhead rest new.body × IsRecordFurther old new × IsWindow new (drop (5 + length new.body) rest)
TakenIs old new rest (Ok false) = IsClosed rest × (new ≡ old)
TakenIs old new rest (Err (Damaged at byte)) = IsDamage rest (gate_at old) at byte
TakenIs old new rest (Err Failed) = ⊥

-- The next record is added to those that were read; or the gate is closed; or the record there is damaged, or cut off by
-- the end of the half or of the area.
abbrev pub NextBodyIs : HalfState → HalfState → Store → List (List ℕ) → Result Bool RecordErr → Type 0
NextBodyIs old new store bodies (Ok true) = IsHalfReading new store (bodies ++ new.body ∷ [])
NextBodyIs old new store bodies (Ok false) = IsEnded new store bodies
NextBodyIs old new store bodies (Err (Damaged at byte)) = IsDamage (rest_of old store) (gate_at old) at byte
NextBodyIs old new store bodies (Err Failed) = Unit {0}

-- one fact where a device call failed, and another for every other answer
abbrev pub OnFailed : {T : Type 0} → Result T RecordErr → Type 0 → Type 0 → Type 0
OnFailed (Ok value) failed other = other
OnFailed (Err Failed) failed other = failed
OnFailed (Err (Damaged at byte)) failed other = other

-- No device call failed.
abbrev pub IsHandled : Result Bool RecordErr → Type 0
IsHandled (Ok value) = Unit {0}
IsHandled (Err (Damaged at byte)) = Unit {0}
IsHandled (Err Failed) = ⊥

-- the damage of what was read from an open gate on: the gate's place and 1 where it is all there is, else the next place
abbrev pub DamageIs : List ℕ → ℕ → RecordErr → Type 0
DamageIs ahead gate (Damaged at byte) = ((length ahead ≤ 1) × (at ≡ gate) × (byte ≡ 1)) ⊎ ((2 ≤ length ahead) × (at ≡ gate + 1) × (byte ≡ slice_index ahead 1))
DamageIs ahead gate Failed = ⊥

-- ---- a told cloud

-- the areas but the journal are as they were
abbrev pub AllButJournalStay : Cloud → Cloud → Type 0
AllButJournalStay old new = (other : Area) → other ≢ Journal → new.now other ≡ old.now other

-- Whatever records the half has: each image since has them, or them and this one, and the other half as it was.
abbrev pub KeepsHalfOrAdds : HalfState → List ℕ → Cloud → Cloud → Type 0
KeepsHalfOrAdds state body old new = IsTrue old.told → (bodies : List (List ℕ)) → IsEnded state (old.now Journal) bodies
    → LeavesOnly old new (IsAtArea old.now Journal (IsAdded state.half (old.now Journal).read bodies body))

-- Whatever records the half had: it has this one behind them, all on the disk, and the other half is as it was.
abbrev pub HasAdded : HalfState → HalfState → List ℕ → Cloud → Cloud → Type 0
HasAdded before after body old new = IsTrue old.told → (bodies : List (List ℕ)) → IsEnded before (old.now Journal) bodies
    → IsEnded after (new.now Journal) (bodies ++ body ∷ [])
    × (part_of (1 - before.half) (new.now Journal).read ≡ part_of (1 - before.half) (old.now Journal).read)

-- Whatever records were read of the half: the next step is what stands at the gate.
abbrev pub ReadsNext : HalfState → HalfState → Cloud → Result Bool RecordErr → Type 0
ReadsNext before after old result = IsTrue old.told → (bodies : List (List ℕ)) → IsHalfReading before (old.now Journal) bodies
    → NextBodyIs before after (old.now Journal) bodies result
