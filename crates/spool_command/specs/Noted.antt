-- The lanes of a kept job over ports, one after another, each noted when its version is entered.
use Rattle.std.specs.Prelude.{◌≡◌, ◌≢◌, ◌⊎◌, ℕ, IsTrue, List, [], ◌∷◌, ◌++◌, drop, map, All, Result, Ok, Err}
use Rattle.upload_spool.specs.CdBase.ids.CloudNo.{CloudNo}
use Rattle.upload_spool.specs.CdBase.shape.Shape.{Shape}
use Rattle.upload_spool.specs.CdEdges.Disk.{Cloud, Image, IsImage, LeavesOnly}
use Rattle.upload_spool.specs.CdEdges.Ports.{Telling}
use Rattle.upload_spool.specs.UploadJob.news.LaneNews.{LaneNews}
use Rattle.upload_spool.specs.UploadJob.Lane.{LaneState, Done}
use Rattle.upload_spool.specs.UploadJob.Lanes.{LaneView, with_state}
use Rattle.upload_spool.specs.UploadJob.Upload.{FileVersion}
use Rattle.backup_command.specs.LaneSteps.Runs.{lane_at}
use Rattle.backup_command.specs.LaneSteps.error.StepErr.{StepErr}
use Rattle.backup_command.specs.Transcript.line.Line.{Line}
use Rattle.upload_spool.specs.declared.error.SpoolErr.{SpoolErr}
use Rattle.upload_spool.specs.declared.error.SpoolErr.TheVariants as spool_errors
use Rattle.upload_spool.specs.Spools.{SpoolFor, IsNotedOr}
use Rattle.upload_spool.specs.States.{SpoolState, IsSpool}
use Rattle.backup_command.specs.declared.halt.Halt.{Halt}
use Rattle.backup_command.specs.declared.halt.Halt.TheVariants as halts
use Rattle.backup_command.specs.Texts.{text_of, step_line, lane_lines}
use Rattle.backup_command.specs.Said.{SaysNothing}
use Rattle.backup_command.specs.Lanes.{LaneCame, LaneLost, Tells, TellsUpTo}
use Rattle.spool_command.specs.declared.interruption.Interruption.{Interruption}
use Rattle.spool_command.specs.declared.interruption.Interruption.TheVariants.{Ports, Shelf, Memory}

-- ---- causes

abbrev pub halted_as : Halt → Interruption
halted_as halts.Lost = Ports
halted_as halts.NoMemory = Memory

-- why a note failed
abbrev pub interruption_of : SpoolErr → Interruption
interruption_of spool_errors.NoMemory = Memory
interruption_of spool_errors.Fault = Shelf
interruption_of (spool_errors.NotEmpty area len) = Shelf
interruption_of (spool_errors.Damaged at byte) = Shelf
interruption_of (spool_errors.OtherStore found asked) = Shelf
interruption_of (spool_errors.Rotten named found) = Shelf

abbrev pub IfPorts : {T : Type 0} → Result T Interruption → Type 0 → Type 0
IfPorts (Err Ports) P = P
IfPorts result P = Unit {0}

abbrev pub IfShelf : {T : Type 0} → Result T Interruption → Type 0 → Type 0
IfShelf (Err Shelf) P = P
IfShelf result P = Unit {0}

-- ---- one lane

-- the lane wasn't noted
abbrev pub IsUnnoted : List CloudNo → CloudNo → Type 0
IsUnnoted noted lane = All (λ (other : CloudNo). other.0 ≢ lane.0) noted

-- A lane that stands so is noted behind those before, exactly where its version is entered and it wasn't noted.
abbrev pub NotesLane : List CloudNo → CloudNo → LaneState → List CloudNo → Type 0
NotesLane noted lane state all =
    ((state ≡ Done) × IsUnnoted noted lane × (all ≡ noted ++ lane ∷ [])) ⊎ (¬ ((state ≡ Done) × IsUnnoted noted lane) × (all ≡ noted))

-- what a note answers of a lane that stands so
abbrev pub NoteIs : SpoolState → SpoolState → CloudNo → LaneState → Result (Unit {0}) Interruption → Type 0
NoteIs before after lane state (Ok u) = NotesLane before.noted lane state after.noted
NoteIs before after lane state (Err Shelf) = (state ≡ Done) × IsUnnoted before.noted lane
NoteIs before after lane state (Err Memory) = after.noted ≡ before.noted
NoteIs before after lane state (Err Ports) = ⊥

-- ---- what is kept

-- the spool of a version with lanes that were noted, behind those first ones and in front of all
pub record IsAlong (shape : Shape) (v : FileVersion) (noted all : List CloudNo) (image : Image) : Type 0 where
  pub more : List CloudNo
  pub later : List CloudNo
  pub all_is : all ≡ noted ++ (more ++ later)
  pub spool : SpoolFor image shape v (noted ++ more)

-- What is kept in the end: the spool has all these lanes; or, where the shelf failed, it has those before the last or all.
abbrev pub NowKeeps : {T : Type 0} → SpoolState → FileVersion → List CloudNo → Cloud → Result T Interruption → Type 0
NowKeeps state v all cloud (Ok value) = IsSpool state v all cloud
NowKeeps state v all cloud (Err Ports) = IsSpool state v all cloud
NowKeeps state v all cloud (Err Memory) = IsSpool state v all cloud
NowKeeps state v all cloud (Err Shelf) =
    (front : List CloudNo) × (lane : CloudNo) × (all ≡ front ++ lane ∷ [])
    × ((image : Image) → IsImage cloud.now image → IsNotedOr state.shape v front lane image)

-- Where a version was kept with the lanes that the spool noted: each image since has the lanes so far, and so it is kept now.
pub record KeepsSpool {T : Type 0} (before after : SpoolState) (all : List CloudNo) (old new : Cloud) (result : Result T Interruption)
    (v : FileVersion) : Type 0 where
  pub any_moment : LeavesOnly old new (IsAlong before.shape v before.noted all)
  pub now : NowKeeps after v all new result

abbrev pub KeepsAll : {T : Type 0} → SpoolState → SpoolState → List CloudNo → Cloud → Cloud → Result T Interruption
    → Type 0
KeepsAll before after all old new result =
    IsTrue old.told → (v : FileVersion) → IsSpool before v before.noted old
    → KeepsSpool before after all old new result v

-- the same of one note
abbrev pub KeepsNote : SpoolState → SpoolState → CloudNo → Cloud → Cloud → Result (Unit {0}) Interruption → Type 0
KeepsNote before after lane old new (Ok u) = KeepsAll {T = Unit {0}} before after after.noted old new (Ok u)
KeepsNote before after lane old new (Err Memory) = KeepsAll {T = Unit {0}} before after after.noted old new (Err Memory)
KeepsNote before after lane old new (Err Shelf) = KeepsAll {T = Unit {0}} before after (before.noted ++ lane ∷ []) old new (Err Shelf)
KeepsNote before after lane old new (Err Ports) = ⊥

-- ---- lanes by their ports

-- The lanes of these clouds, each on its port, one after another: each came to its end, with these lines, and was noted
-- where its version was entered, before the next was asked. Or the ports failed in one, or the shelf in the note of one:
-- the lines are those so far, and nothing was asked of the clouds behind it. Or memory ran out: no lane more was noted, and
-- nothing was asked of the clouds behind the next.
pub data LanesNoted (behind now : Telling) : List (CloudNo × ℕ) → List LaneView → List CloudNo
    → Result (Unit {0}) Interruption → List Line → List LaneView → List CloudNo → Type 0 where
  AllNoted : (views : List LaneView) (noted : List CloudNo) → LanesNoted behind now [] views noted (Ok tt) [] views noted
  OneNoted : (line : CloudNo × ℕ) (rest : List (CloudNo × ℕ)) (views after : List LaneView)
      (noted mid all : List CloudNo) (came : Result (Unit {0}) StepErr) (news : List LaneNews) (state : LaneState)
      (result : Result (Unit {0}) Interruption) (more : List Line)
      → LaneCame (Tells behind now line.1) (lane_at views line.0.0) came news state
      → NotesLane noted line.0 state mid
      → LanesNoted behind now rest (with_state views line.0.0 state) mid result more after all
      → LanesNoted behind now (line ∷ rest) views noted result (lane_lines line.0.0 came news ++ more) after all
  PortsFailed : (line : CloudNo × ℕ) (rest : List (CloudNo × ℕ)) (views : List LaneView) (noted : List CloudNo)
      (news : List LaneNews) (lost : LaneLost (TellsUpTo behind now line.1) (lane_at views line.0.0) news)
      → All (λ (other : CloudNo × ℕ). Tells behind now other.1 SaysNothing) rest
      → LanesNoted behind now (line ∷ rest) views noted (Err Ports) (map (step_line line.0.0) news)
      (with_state views line.0.0 lost.at.lane.state) noted
  ShelfFailed : (line : CloudNo × ℕ) (rest : List (CloudNo × ℕ)) (views : List LaneView) (noted : List CloudNo)
      (came : Result (Unit {0}) StepErr) (news : List LaneNews) (state : LaneState)
      → LaneCame (Tells behind now line.1) (lane_at views line.0.0) came news state
      → state ≡ Done → IsUnnoted noted line.0
      → All (λ (other : CloudNo × ℕ). Tells behind now other.1 SaysNothing) rest
      → LanesNoted behind now (line ∷ rest) views noted (Err Shelf) (lane_lines line.0.0 came news)
      (with_state views line.0.0 state) (noted ++ line.0 ∷ [])
  MemoryLacked : (lines : List (CloudNo × ℕ)) (views after : List LaneView) (noted : List CloudNo)
      → All (λ (other : CloudNo × ℕ). Tells behind now other.1 SaysNothing) (drop 1 lines)
      → LanesNoted behind now lines views noted (Err Memory) [] after noted

-- the lines stand behind what was there, but where memory ran out
abbrev pub WroteLaneLines : {T : Type 0} → Result T Interruption → List ℕ → List ℕ → List Line → Type 0
WroteLaneLines (Ok u) before text answers = text ≡ before ++ text_of answers
WroteLaneLines (Err Ports) before text answers = text ≡ before ++ text_of answers
WroteLaneLines (Err Shelf) before text answers = text ≡ before ++ text_of answers
WroteLaneLines (Err Memory) before text answers = Unit {0}

-- What the lanes of these clouds came to, with their lines behind what was there, and what is kept.
pub record NotedWent (behind now : Telling) (lines : List (CloudNo × ℕ)) (views : List LaneView)
    (result : Result (Unit {0}) Interruption) (after : List LaneView) (before text : List ℕ) (old new : SpoolState)
    (cloud left : Cloud) : Type 0 where
  pub answers : List Line
  pub all : List CloudNo
  pub go : LanesNoted behind now lines views old.noted result answers after all
  pub wrote : WroteLaneLines result before text answers
  pub grows : (more : List CloudNo) × (all ≡ old.noted ++ more)
  pub shape : new.shape ≡ old.shape
  pub keeps : KeepsAll old new all cloud left result
