-- The parts of a deletion, in front of the writing.
use Rattle.std.specs.Prelude.{◌≡◌, ℕ, Bool, true, false, IsTrue, ◌↔◌, ◌&&◌, List, ◌++◌, All, Result, Ok, Err}
use Rattle.deletions.specs.CdBase.ids.CloudNo.{CloudNo}
use Rattle.ports_link.specs.CdEdges.Causes.{Rose}
use Rattle.ports_link.specs.CdEdges.Ports.{Telling}
use Rattle.deletions.specs.Transcript.Transcript.{line_text}
use Rattle.deletions.specs.Transcript.line.Line.{Line}
use Rattle.ports_link.specs.declared.judging.AskedClouds.TheVariants as asked
use Rattle.ports_link.specs.declared.meeting.MeetErr.{MeetErr}
use Rattle.ports_link.specs.declared.meeting.MeetErr.TheVariants as unmet
use Rattle.ports_link.specs.Meeting.{MeetsAll}
use Rattle.delete_command.specs.declared.asking.AskHalt.{AskHalt}
use Rattle.delete_command.specs.declared.asking.AskHalt.TheVariants as halts
use Rattle.delete_command.specs.declared.carrying.DeleteErr.{DeleteErr}
use Rattle.delete_command.specs.declared.carrying.DeleteErr.TheVariants as errors
use Rattle.delete_command.specs.Asks.{HasAskedEach, IsAskedOnPort, IsRequestUnheard}
use Rattle.delete_command.specs.Deleted.{HasAskedToDelete, DeleteCall}
use Rattle.delete_command.specs.Lines.{IsGone, text_of}

-- the ports failed
abbrev pub IfAskLost : {A : Type 0} → Result A AskHalt → Type 0 → Type 0
IfAskLost (Err halts.Lost) P = P
IfAskLost result P = Unit {0}

-- one cloud was asked, with its line behind what was there, and whether the version is gone
abbrev pub OneWent : List ℕ → Telling → CloudNo × ℕ → Result Bool AskHalt → List ℕ → List ℕ → Telling → Type 0
OneWent request t at (Ok gone) before text u =
    (line : Line) × IsAskedOnPort request t at line u × (IsTrue gone ↔ IsGone line) × (text ≡ before ++ line_text line)
OneWent request t at (Err halts.Lost) before text u = IsRequestUnheard t at.1 u × (text ≡ before)
OneWent request t at (Err halts.NoMemory) before text u = Unit {0}

-- these clouds were asked, with their lines behind what was there, and whether the version is gone at all
abbrev pub Went : List ℕ → Telling → List (CloudNo × ℕ) → Result Bool AskHalt → List ℕ → List ℕ → Telling → Type 0
Went request t clouds (Ok gone) before text u =
    (answers : List Line) × HasAskedEach request t clouds true answers u × (IsTrue gone ↔ All IsGone answers)
    × (text ≡ before ++ text_of answers)
Went request t clouds (Err halts.Lost) before text u =
    (answers : List Line) × HasAskedEach request t clouds false answers u × (text ≡ before ++ text_of answers)
Went request t clouds (Err halts.NoMemory) before text u = Unit {0}

-- what came of one and then of the others
abbrev pub both : Bool → Result Bool AskHalt → Result Bool AskHalt
both first (Ok more) = Ok (first && more)
both first (Err halt) = Err halt

-- what came of a deletion, by what came of the clouds that were met
abbrev pub of_asked : Result Bool AskHalt → Result Bool DeleteErr
of_asked (Ok gone) = Ok gone
of_asked (Err halts.Lost) = Err errors.Lost
of_asked (Err halts.NoMemory) = Err errors.NoMemory

-- The clouds weren't met, for this reason.
abbrev pub Unmet : DeleteCall → MeetErr → Type 0
Unmet call why = MeetsAll asked.Backup call.addresses call.before call.after (Err why)

-- What came of a deletion, with the text that is due.
abbrev pub CarriesDeletion : DeleteCall → Result Bool DeleteErr → List ℕ → Type 0
CarriesDeletion call (Ok gone) text =
    (answers : List Line) × HasAskedToDelete call true answers × (IsTrue gone ↔ All IsGone answers)
    × (text ≡ text_of answers)
CarriesDeletion call (Err (errors.Refused why)) text = Unmet call (unmet.Refused why)
CarriesDeletion call (Err errors.Undialled) text = Unmet call unmet.Undialled
    × Rose call.faults_before call.faults_after
CarriesDeletion call (Err errors.Unheard) text = Unmet call unmet.Lost × Rose call.faults_before call.faults_after
CarriesDeletion call (Err errors.Lost) text =
    (answers : List Line) × HasAskedToDelete call false answers × (text ≡ text_of answers)
    × Rose call.faults_before call.faults_after
CarriesDeletion call (Err errors.NoMemory) text = Unit {0}
