-- What the steps of a call need and leave. No public clause cites this module.
use Rattle.std.specs.Prelude.{ℕ, ◌+◌, ◌<◌, ◌≤◌, Bool, List, length, count_by, Result, Ok, Err}
use Rattle.std.specs.FinMap.{len}
use Rattle.message_fields.specs.CdBase.rooms.Room.TheVariants.{Fps, Owners}
use Rattle.record_checks.specs.RecordBody.body.KeptItem.{KeptItem}
use Rattle.record_checks.specs.RecordBody.Spelling.{Body}
use Rattle.record_checks.specs.RecordBody.body.PutItem.{PutItem}
use Rattle.record_checks.specs.CloudMemory.Memory.{Memory}
use Rattle.record_checks.specs.CloudMemory.cloud.CloudMemory.{CloudMemory}
use Rattle.record_checks.specs.declared.ground.Ground.{Ground}
use Rattle.record_checks.specs.Steps.{has_place}
use Rattle.first_records.specs.declared.errors.Fault.{Fault}
use Rattle.first_records.specs.declared.errors.Fault.TheVariants.{Field, Passes}
use Rattle.first_records.specs.Judging.{JudgesSaid}
use Rattle.first_records.specs.Limits.{limit_of, HasFirstRooms}

-- an answer and what is left, as the record's judgement
abbrev pub FirstJudgedAs : Ground → Bool → List ℕ → Memory → Body → Result Unit Fault → Memory → Type 0
FirstJudgedAs g inside read old b (Ok u) new = JudgesSaid g inside read old b (Ok new)
FirstJudgedAs g inside read old b (Err fault) new = JudgesSaid g inside read old b (Err fault)

-- the field that fails is one of a body of so many bytes
abbrev pub IsFaultWithin : ℕ → Fault → Type 0
IsFaultWithin len (Field place) = place < len
IsFaultWithin len (Passes room) = Unit {0}

-- The indexes have room for these items of a Put.
pub record HasItemsRoom (cloud : CloudMemory) (items : List PutItem) : Type 0 where
  pub rooms : HasFirstRooms cloud
  pub owners : len cloud.shares.owners + length items ≤ limit_of Owners
  pub fps : len cloud.shares.places + count_by has_place items ≤ limit_of Fps

-- and for these of a Kept
pub record HasKeptsRoom (cloud : CloudMemory) (items : List KeptItem) : Type 0 where
  pub rooms : HasFirstRooms cloud
  pub fps : len cloud.shares.places + length items ≤ limit_of Fps
