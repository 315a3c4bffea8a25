-- How each part of a line ends, and so the replay.
use Rattle.std.specs.Prelude.{◌≡◌, ℕ, ◌+◌, List, Option, Result, Ok, Err}
use Rattle.share_server.specs.CdBase.shape.Shape.{Shape}
use Rattle.share_server.specs.CdEdges.Causes.{Rose}
use Rattle.share_server.specs.CdEdges.Disk.{Cloud}
use Rattle.two_worlds.specs.UploadJob.Lanes.{LaneView}
use Rattle.script_lines.specs.LocalLink.link.LocalLink.{LocalLink}
use Rattle.two_worlds.specs.Session.Fault.{Fault}
use Rattle.two_worlds.specs.Session.Lines.{ReaderState}
use Rattle.two_worlds.specs.Session.reading.ScriptErr.{ScriptErr}
use Rattle.two_worlds.specs.Session.reading.ScriptErr.TheVariants as script_errors
use Rattle.two_worlds.specs.Session.event.Event.{Event}
use Rattle.two_worlds.specs.Transcript.line.Line.{Line}
use Rattle.two_worlds.specs.Session.Scripts.{ScriptPlace, IsWrong}
use Rattle.two_worlds.specs.Session.Texts.{text_of}
use Rattle.script_lines.specs.SessionModel.Vault.{Setting, Vault}
use Rattle.script_lines.specs.declared.error.CarryErr.{CarryErr}
use Rattle.script_lines.specs.declared.error.CarryErr.TheVariants as carry_errors
use Rattle.script_lines.specs.At.{IsAtVault}
use Rattle.script_lines.specs.Does.{Goes, IsCutOff}
use Rattle.script_lines.specs.Replacing.{IsShelfFault}
use Rattle.replay_core.specs.declared.end.ReplayEnd.{ReplayEnd}
use Rattle.replay_core.specs.declared.end.ReplayEnd.TheVariants as ends
use Rattle.replay_core.specs.Opening.{IsThere}
use Rattle.replay_core.specs.Going.{AppendsFront}

-- ---- reading a line

-- what a line says, or where it is wrong
abbrev pub SaysEvent : Result Event Fault → Result Event ScriptErr → Type 0
SaysEvent said (Ok event) = said ≡ Ok event
SaysEvent said (Err script_errors.NoMemory) = Unit {0}
SaysEvent said (Err (script_errors.At at found)) = said ≡ Err (record { at = at; found = found })

-- how a replay ends as it reads a line behind so many
abbrev pub EndsReading : Shape → ℕ → ℕ → ReaderState → Option (List ℕ) → ℕ → ℕ → ReplayEnd → Type 0
EndsReading shape jobs events reader left before now (ends.Script line at found) =
    (line ≡ events + 2)
    × ((place : ScriptPlace) → IsThere reader left jobs place → IsWrong shape place (record { at = at; found = found }))
EndsReading shape jobs events reader left before now ends.SourceFault = Rose before now
EndsReading shape jobs events reader left before now ends.NoMemory = Unit {0}
EndsReading shape jobs events reader left before now end = ⊥

-- ---- answering it

-- how a replay ends as it writes the line of these bytes
abbrev pub EndsWriting : List ℕ → Option (List ℕ) → Option (List ℕ) → ℕ → ℕ → ReplayEnd → Type 0
EndsWriting bytes before now faults_before faults_now ends.SinkFault =
    AppendsFront bytes before now × Rose faults_before faults_now
EndsWriting bytes before now faults_before faults_now ends.NoMemory = now ≡ before
EndsWriting bytes before now faults_before faults_now end = ⊥

-- the line was carried out, and of the text of its answers this is so
abbrev pub AnswersLine : {V : Type 0} → (V → ℕ → Cloud) → Event → LocalLink V → List (List LaneView) → LocalLink V
    → List (List LaneView) → (List ℕ → Type 0) → Type 0
AnswersLine clouds event old jobs new jobs_now OfText =
    (s : Setting) (v : Vault) → IsAtVault clouds s old jobs v
    → (answers : List Line) × Goes clouds s event old new jobs_now v answers × OfText (text_of answers)

-- the end of a replay whose line was cut by this error
abbrev pub end_of_carry : CarryErr → ReplayEnd
end_of_carry (carry_errors.ShelfFault cloud) = ends.ShelfFault cloud
end_of_carry carry_errors.NoMemory = ends.NoMemory

-- how a replay ends as it answers a line
abbrev pub EndsAnswering : {V : Type 0} → (V → ℕ → Cloud) → Event → LocalLink V → List (List LaneView) → LocalLink V
    → List (List LaneView) → Option (List ℕ) → Option (List ℕ) → ℕ → ℕ → ReplayEnd → Type 0
EndsAnswering clouds event old jobs new jobs_now before now faults_before faults_now ends.SinkFault =
    AnswersLine clouds event old jobs new jobs_now (λ text. AppendsFront text before now)
    × Rose faults_before faults_now
EndsAnswering clouds event old jobs new jobs_now before now faults_before faults_now ends.NoMemory =
    IsCutOff clouds event old jobs new × (now ≡ before)
EndsAnswering clouds event old jobs new jobs_now before now faults_before faults_now (ends.ShelfFault cloud) =
    IsShelfFault clouds event old jobs new (carry_errors.ShelfFault cloud)
    × (now ≡ before) × (faults_now ≡ faults_before)
EndsAnswering clouds event old jobs new jobs_now before now faults_before faults_now end = ⊥
