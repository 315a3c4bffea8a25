-- What backing up over ports promises.
use Rattle.std.specs.Prelude.{◌≡◌, ℕ, Bool, IsTrue, ◌↔◌, List, [], ◌∷◌, length, All, Some, Result, Ok, Err}
use Rattle.std.specs.List.{Contains}
use Rattle.std.specs.Prelude.{if◌then◌else◌}
use Rattle.transcript.specs.CdBase.ids.UserId.{UserId}
use Rattle.transcript.specs.CdBase.ids.Version.{Version}
use Rattle.transcript.specs.CdBase.shape.Shape.{Shape}
use Rattle.transcript.specs.CdEdges.Causes.{Rose}
use Rattle.transcript.specs.CdEdges.Ports.{Telling}
use Rattle.lane_steps.specs.Recipe.Spelling.{file_limit}
use Rattle.lane_steps.specs.UploadJob.Lane.{Done}
use Rattle.lane_steps.specs.UploadJob.Lanes.{LaneView, lanes_begun}
use Rattle.lane_steps.specs.UploadJob.Upload.{FileVersion}
use Rattle.transcript.specs.declared.ending.Ending.TheVariants as endings
use Rattle.transcript.specs.declared.line.Line.{Line}
use Rattle.transcript.specs.declared.line.Line.TheVariants as lines
use Rattle.transcript.specs.Endings.{ending_text}
use Rattle.ports_link.specs.declared.judging.AskedClouds.TheVariants as asked
use Rattle.ports_link.specs.declared.judging.Greeting.{Greeting}
use Rattle.ports_link.specs.declared.meeting.MeetErr.TheVariants as unmet
use Rattle.ports_link.specs.declared.refused.Refused.{Refused}
use Rattle.ports_link.specs.Dialled.{AreDialled}
use Rattle.ports_link.specs.Meeting.{Meets, MeetsAll}
use Rattle.ports_link.specs.Refusals.{refused_text}
use Rattle.backup_command.specs.declared.halt.Halt.{Halt}
use Rattle.backup_command.specs.declared.halt.Halt.TheVariants as halts
use Rattle.backup_command.specs.Lanes.{LanesGoOnPorts, numbered}
use Rattle.backup_command.specs.Reading.{Input, IsFileRead, IsFileTooLong}
use Rattle.backup_command.specs.Texts.{text_of, due_lines}
use Rattle.backup_command.specs.Writing.{Output, IsSilent, HasWrittenOrCause}

-- Which version of a file is backed up, to how many addresses; what the ports tell before and after it, and how often
-- they had failed and have failed.
pub record BackupCall : Type 0 where
  pub user : UserId
  pub path : List ℕ
  pub version : Version
  pub addresses : ℕ
  pub before : Telling
  pub after : Telling
  pub faults_before : ℕ
  pub faults_after : ℕ

abbrev pub version_of : BackupCall → List ℕ → FileVersion
version_of call file = record { user = call.user; path = call.path; number = call.version; file = file }

-- ---- before the clouds

-- Memory ran out, and nothing is written.
pub record IsLacking (status : ℕ) (out : Output) : Type 0 where
  pub status_is : status ≡ 6
  pub silent : IsSilent out

-- no port was touched
pub record IsUntouched (call : BackupCall) : Type 0 where
  pub tells : call.after ≡ call.before
  pub faults : call.faults_after ≡ call.faults_before

-- The source failed. Nothing is written, and no port was touched.
pub record IsFileUnread (status : ℕ) (call : BackupCall) (input : Input) (out : Output) : Type 0 where
  pub status_is : status ≡ 3
  pub rose : Rose input.faults_before input.faults_after
  pub silent : IsSilent out
  pub untouched : IsUntouched call

-- The source has too many bytes: the line names the place of the first of them, and it. No port was touched.
pub record IsOverlong (status : ℕ) (call : BackupCall) (input : Input) (out : Output) : Type 0 where
  pub byte : ℕ
  pub too_long : IsFileTooLong input byte
  pub writes : HasWrittenOrCause (ending_text (endings.Script 1 file_limit (Some byte))) 2 out status
  pub untouched : IsUntouched call

-- ---- up to the Hellos

-- An address couldn't be dialled. Each before it was, in order, and was asked Hello before the next was dialled, and its
-- reply was as asked. Nothing is written.
pub record IsUndialled (status : ℕ) (call : BackupCall) (out : Output) : Type 0 where
  pub status_is : status ≡ 9
  pub rose : Rose call.faults_before call.faults_after
  pub silent : IsSilent out
  pub meets : MeetsAll asked.Backup call.addresses call.before call.after (Err unmet.Undialled)

-- The ports failed in a Hello, and no address behind it was dialled. Nothing is written.
pub record IsHelloUnheard (status : ℕ) (call : BackupCall) (out : Output) : Type 0 where
  pub status_is : status ≡ 9
  pub rose : Rose call.faults_before call.faults_after
  pub silent : IsSilent out
  pub meets : MeetsAll asked.Backup call.addresses call.before call.after (Err unmet.Lost)

-- Addresses were dialled, in order, and each asked Hello before the next was dialled, up to the first whose reply isn't
-- as asked; none behind it was dialled. The line says which, and what came.
pub record IsBackupRefused (status : ℕ) (call : BackupCall) (out : Output) : Type 0 where
  pub why : Refused
  pub writes : HasWrittenOrCause (refused_text why) 8 out status
  pub meets : MeetsAll asked.Backup call.addresses call.before call.after (Err (unmet.Refused why))

-- ---- the lanes

-- Each address was dialled, in order, and asked Hello before the next was dialled: each reply was as asked, so that cloud
-- i of the store is reached on the port that was dialled for address i.
pub record Met (call : BackupCall) (dialled : List ℕ) (shape : Shape) (behind : Telling) : Type 0 where
  pub many : length dialled ≡ call.addresses
  pub greetings : List Greeting
  pub meets : Meets asked.Backup call.addresses [] call.before dialled (Ok greetings) behind
  pub shape_is : All (λ (g : Greeting). (g.n ≡ shape.n) × (g.k ≡ shape.k)) greetings
  pub all : length dialled ≡ shape.n
  pub told : behind.told ≡ call.before.told

-- The lanes of the job of the source's bytes went so, in order, each on the port of its cloud: their lines are these,
-- and they stand so in the end. No port but the clouds' changed behind the Hellos.
pub record HasBroughtLanes (call : BackupCall) (input : Input) (result : Result (Unit {0}) Halt) (steps : List Line)
    (after : List LaneView) : Type 0 where
  pub file : List ℕ
  pub read : IsFileRead input file
  pub dialled : List ℕ
  pub shape : Shape
  pub behind : Telling
  pub met : Met call dialled shape behind
  pub lanes : LanesGoOnPorts behind call.after (numbered 0 dialled)
      (lanes_begun shape (version_of call file)) result steps
      after
  pub others : IsTrue behind.told → (port : ℕ) → ¬ (Contains dialled port) → call.after.port port ≡ behind.port port

-- whether the version is entered at each cloud
abbrev pub AreDone : List LaneView → Type 0
AreDone views = All (λ (lane : LaneView). lane.state ≡ Done) views

-- Each lane came to its end. The lines are the job's, those of the lanes, and whether it is stored: 0 exactly where
-- each lane's version is entered.
pub record IsThrough (status : ℕ) (call : BackupCall) (input : Input) (out : Output) : Type 0 where
  pub steps : List Line
  pub after : List LaneView
  pub brought : HasBroughtLanes call input (Ok tt) steps after
  pub stored : Bool
  pub stored_is : IsTrue stored ↔ AreDone after
  pub writes : HasWrittenOrCause (text_of (due_lines steps stored)) (if stored then 0 else 8) out status

-- The ports failed in a lane. The lines are the job's and those of the replies before.
pub record IsBackupLost (status : ℕ) (call : BackupCall) (input : Input) (out : Output) : Type 0 where
  pub rose : Rose call.faults_before call.faults_after
  pub steps : List Line
  pub after : List LaneView
  pub brought : HasBroughtLanes call input (Err halts.Lost) steps after
  pub writes : HasWrittenOrCause (text_of (lines.Job 1 ∷ steps)) 9 out status

-- The whole promise, by the way it ended.
pub data IsBackedUp (status : ℕ) (call : BackupCall) (input : Input) (out : Output) : Type 0 where
  OutOfMemory : IsLacking status out → IsBackedUp status call input out
  SourceFailed : IsFileUnread status call input out → IsBackedUp status call input out
  SourceTooLong : IsOverlong status call input out → IsBackedUp status call input out
  DialFailed : IsUndialled status call out → IsBackedUp status call input out
  HelloFailed : IsHelloUnheard status call out → IsBackedUp status call input out
  HelloRefused : IsBackupRefused status call out → IsBackedUp status call input out
  WentThrough : IsThrough status call input out → IsBackedUp status call input out
  LaneFailed : IsBackupLost status call input out → IsBackedUp status call input out

-- ---- beside it

-- Some ports were dialled, and every other port is as it was.
abbrev pub BackupDialsOnly : Telling → Telling → Type 0
BackupDialsOnly before after = (dialled : List ℕ) × AreDialled before after dialled
