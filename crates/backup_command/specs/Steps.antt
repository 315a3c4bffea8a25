-- The parts of a backup.
use Rattle.std.specs.Prelude.{◌≡◌, ℕ, Bool, IsTrue, ◌↔◌, List, ◌∷◌, ◌++◌, length, map, All, Some, Result, Ok, Err}
use Rattle.std.specs.List.{Contains}
use Rattle.transcript.specs.CdBase.ids.CloudNo.{CloudNo}
use Rattle.transcript.specs.CdBase.shape.Shape.{Shape}
use Rattle.transcript.specs.CdEdges.Causes.{Rose}
use Rattle.transcript.specs.CdEdges.Ports.{Telling, OthersStay}
use Rattle.ports_link.specs.UserDedup.Link.{Talk}
use Rattle.lane_steps.specs.UploadJob.news.LaneNews.{LaneNews}
use Rattle.lane_steps.specs.UploadJob.Lane.{LaneState}
use Rattle.lane_steps.specs.UploadJob.Lanes.{LaneView, with_state, lanes_begun}
use Rattle.lane_steps.specs.Runs.{lane_at}
use Rattle.lane_steps.specs.declared.error.StepErr.{StepErr}
use Rattle.lane_steps.specs.declared.error.StepErr.TheVariants as errors
use Rattle.transcript.specs.declared.line.Line.{Line}
use Rattle.transcript.specs.declared.line.Line.TheVariants as lines
use Rattle.ports_link.specs.declared.link.PortsLink.{PortsLink}
use Rattle.ports_link.specs.Lines.{line_of}
use Rattle.ports_link.specs.Tells.{BringsReplies, HasTalk}
use Rattle.ports_link.specs.declared.judging.AskedClouds.TheVariants as asked
use Rattle.ports_link.specs.declared.greeting.Greeted.{Greeted}
use Rattle.ports_link.specs.declared.meeting.MeetErr.TheVariants as unmet
use Rattle.ports_link.specs.declared.refused.Refused.{Refused}
use Rattle.ports_link.specs.Dialled.{ArePortsApart}
use Rattle.ports_link.specs.Hellos.{HaveTalks, clouds_of}
pub use Rattle.ports_link.specs.Hellos.{ports_of}
use Rattle.ports_link.specs.Meeting.{MeetsAll}
use Rattle.backup_command.specs.declared.halt.Halt.{Halt}
use Rattle.backup_command.specs.declared.halt.Halt.TheVariants as halts
use Rattle.backup_command.specs.declared.carrying.BackupErr.{BackupErr}
use Rattle.backup_command.specs.declared.carrying.BackupErr.TheVariants as carry_errors
use Rattle.backup_command.specs.Texts.{text_of, step_line, lane_lines, due_lines}
use Rattle.backup_command.specs.Said.{greeted}
use Rattle.backup_command.specs.Lanes.{LaneCame, LaneLost, LanesGoOnPorts, Tells, TellsUpTo, numbered}
use Rattle.backup_command.specs.BackedUp.{BackupCall, version_of, Met, AreDone}

-- ---- a lane's lines

-- The lines of a lane that came to its end, or up to a failure of the ports, stand behind what was there.
abbrev pub PutsLaneLines : ℕ → Result (Unit {0}) StepErr → List LaneNews → Result (Unit {0}) Halt → List ℕ → List ℕ
    → Type 0
PutsLaneLines cloud (Ok u) news (Ok v) before now = now ≡ before ++ text_of (lane_lines cloud (Ok tt) news)
PutsLaneLines cloud (Err (errors.Strange kind)) news (Ok v) before now =
    now ≡ before ++ text_of (lane_lines cloud (Err (errors.Strange kind)) news)
PutsLaneLines cloud (Err errors.Lost) news (Err halts.Lost) before now = now
    ≡ before ++ text_of (map (step_line cloud) news)
PutsLaneLines cloud came news (Err halts.NoMemory) before now = Unit {0}
PutsLaneLines cloud came news result before now = ⊥

-- ---- a link over ports

-- What asks of one cloud leave: the ports, the port of each cloud, and what is told of other ports.
pub record KeepsOtherPorts {P : Type 0} (tells : P → Telling) (cloud : ℕ) (old new : PortsLink P) : Type 0 where
  pub same_reference : new.ports.ghost_name ≡ old.ports.ghost_name
  pub told : (tells new.ports.now).told ≡ (tells old.ports.now).told
  pub lines : (other : ℕ) → (line_of new.lines.items.items other).port ≡ (line_of old.lines.items.items other).port
  pub others : IsTrue (tells old.ports.now).told → (port : ℕ) → (line_of old.lines.items.items cloud).port ≡ Some port
      → OthersStay (tells old.ports.now) (tells new.ports.now) port

-- what was said with a cloud
abbrev pub Talked : {P : Type 0} → (P → Telling) → PortsLink P → ℕ → Talk → Type 0
Talked {P} tells link = HasTalk (tells link.ports.now) link.lines.items.items

-- With this cloud nothing was said behind its Hello.
pub record IsCloudReady {P : Type 0} (behind : Telling) (tells : P → Telling) (link : PortsLink P) (line : CloudNo × ℕ)
    : Type 0 where
  pub port : (line_of link.lines.items.items line.0.0).port ≡ Some line.1
  pub talk : IsTrue behind.told → (coming : List (List ℕ)) × BringsReplies (behind.port line.1).to_come coming
      × HasTalk (tells link.ports.now) link.lines.items.items line.0.0 (greeted coming)

-- With none of these clouds anything was said behind its Hello. No two of them are one, and no two of their ports.
pub record AreReady {P : Type 0} (behind : Telling) (tells : P → Telling) (link : PortsLink P)
    (lines : List (CloudNo × ℕ)) : Type 0 where
  pub told : (tells link.ports.now).told ≡ behind.told
  pub clouds : ArePortsApart (clouds_of lines)
  pub ports : IsTrue behind.told → ArePortsApart (ports_of lines)
  pub each : All (IsCloudReady behind tells link) lines

-- ---- lanes over the link

-- What the lane of a cloud came to, with its lines behind what was there.
abbrev pub LaneGoesOnPort : Telling → Telling → CloudNo × ℕ → List LaneView → Result (Unit {0}) Halt → List LaneView
    → List ℕ → List ℕ → Type 0
LaneGoesOnPort behind now line views (Ok u) after before text =
    (came : Result (Unit {0}) StepErr) × (news : List LaneNews) × (state : LaneState)
    × LaneCame (Tells behind now line.1) (lane_at views line.0.0) came news state
    × (after ≡ with_state views line.0.0 state) × (text ≡ before ++ text_of (lane_lines line.0.0 came news))
LaneGoesOnPort behind now line views (Err halts.Lost) after before text =
    (news : List LaneNews) × (lost : LaneLost (TellsUpTo behind now line.1) (lane_at views line.0.0) news)
    × (after ≡ with_state views line.0.0 lost.at.lane.state)
    × (text ≡ before ++ text_of (map (step_line line.0.0) news))
LaneGoesOnPort behind now line views (Err halts.NoMemory) after before text = Unit {0}

-- the lines stand behind what was there, but where memory ran out
abbrev pub Wrote : Result (Unit {0}) Halt → List ℕ → List ℕ → List Line → Type 0
Wrote (Ok u) before text answers = text ≡ before ++ text_of answers
Wrote (Err halts.Lost) before text answers = text ≡ before ++ text_of answers
Wrote (Err halts.NoMemory) before text answers = Unit {0}

-- what the lanes of these clouds came to, with their lines behind what was there
pub record LanesWent (behind now : Telling) (lines : List (CloudNo × ℕ)) (views : List LaneView)
    (result : Result (Unit {0}) Halt) (after : List LaneView) (before text : List ℕ) : Type 0 where
  pub answers : List Line
  pub go : LanesGoOnPorts behind now lines views result answers after
  pub wrote : Wrote result before text answers

-- the ports failed
abbrev pub IfLost : Result (Unit {0}) Halt → Type 0 → Type 0
IfLost (Err halts.Lost) P = P
IfLost result P = Unit {0}

-- These ports were dialled for clouds 0, 1 and so on, and each of them was asked Hello, and nothing else.
pub record AreGreetedOn (behind : Telling) (dialled : List ℕ) (lines : List (CloudNo × ℕ)) : Type 0 where
  pub lines_are : lines ≡ numbered 0 dialled
  pub apart : IsTrue behind.told → ArePortsApart dialled
  pub talks : IsTrue behind.told → HaveTalks behind lines

-- The clouds are 0, 1 and so on, all of the shape.
abbrev pub IsNumbered : Greeted → Type 0
IsNumbered it = (dialled : List ℕ) × (it.lines.items ≡ numbered 0 dialled) × (length dialled ≡ it.shape.n)

-- ---- all of it, in front of the writing

-- Each lane came to its end, with these lines. No port but the clouds' changed behind the Hellos.
pub record CameThrough (call : BackupCall) (file : List ℕ) (result : Result (Unit {0}) Halt) (steps : List Line)
    (after : List LaneView) : Type 0 where
  pub dialled : List ℕ
  pub shape : Shape
  pub behind : Telling
  pub met : Met call dialled shape behind
  pub lanes : LanesGoOnPorts behind call.after (numbered 0 dialled)
      (lanes_begun shape (version_of call file)) result steps
      after
  pub others : IsTrue behind.told → (port : ℕ) → ¬ (Contains dialled port) → call.after.port port ≡ behind.port port

-- the ports failed in a lane, and the text has the lines so far
pub record StoppedShort (call : BackupCall) (file text : List ℕ) : Type 0 where
  pub steps : List Line
  pub after : List LaneView
  pub came : CameThrough call file (Err halts.Lost) steps after
  pub text_is : text ≡ text_of (lines.Job 1 ∷ steps)

-- What became of a file at clouds that were greeted, with the text that is due.
abbrev pub BringsFile : BackupCall → List ℕ → Shape → Telling → List ℕ → Result Bool BackupErr → List ℕ → Type 0
BringsFile call file shape behind dialled (Ok stored) text =
    (steps : List Line) × (after : List LaneView)
    × LanesGoOnPorts behind call.after (numbered 0 dialled) (lanes_begun shape (version_of call file))
    (Ok tt) steps after
    × (IsTrue stored ↔ AreDone after) × (text ≡ text_of (due_lines steps stored))
BringsFile call file shape behind dialled (Err carry_errors.Lost) text =
    (steps : List Line) × (after : List LaneView)
    × LanesGoOnPorts behind call.after (numbered 0 dialled) (lanes_begun shape (version_of call file))
    (Err halts.Lost) steps
    after
    × (text ≡ text_of (lines.Job 1 ∷ steps))
BringsFile call file shape behind dialled (Err carry_errors.NoMemory) text = Unit {0}
BringsFile call file shape behind dialled (Err carry_errors.Undialled) text = ⊥
BringsFile call file shape behind dialled (Err carry_errors.Unheard) text = ⊥
BringsFile call file shape behind dialled (Err (carry_errors.Refused why)) text = ⊥

-- the ports failed in a lane
abbrev pub IsCarryLost : Result Bool BackupErr → Type 0
IsCarryLost (Err carry_errors.Lost) = Unit {0}
IsCarryLost result = ⊥

-- an address couldn't be dialled
abbrev pub DialStopped : BackupCall → Type 0
DialStopped call = MeetsAll asked.Backup call.addresses call.before call.after (Err unmet.Undialled)

-- the ports failed in a Hello
abbrev pub HelloStopped : BackupCall → Type 0
HelloStopped call = MeetsAll asked.Backup call.addresses call.before call.after (Err unmet.Lost)

-- a reply to Hello was refused
abbrev pub BackupHelloRefused : BackupCall → Refused → Type 0
BackupHelloRefused call why = MeetsAll asked.Backup call.addresses call.before call.after (Err (unmet.Refused why))

-- What became of a file that was read, with the text that is due.
abbrev pub Carries : BackupCall → List ℕ → Result Bool BackupErr → List ℕ → Type 0
Carries call file (Ok stored) text =
    (steps : List Line) × (after : List LaneView) × CameThrough call file (Ok tt) steps after
    × (IsTrue stored ↔ AreDone after) × (text ≡ text_of (due_lines steps stored))
Carries call file (Err (carry_errors.Refused why)) text = BackupHelloRefused call why
Carries call file (Err carry_errors.Undialled) text = DialStopped call × Rose call.faults_before call.faults_after
Carries call file (Err carry_errors.Unheard) text = HelloStopped call × Rose call.faults_before call.faults_after
Carries call file (Err carry_errors.Lost) text = StoppedShort call file text × Rose call.faults_before call.faults_after
Carries call file (Err carry_errors.NoMemory) text = Unit {0}
