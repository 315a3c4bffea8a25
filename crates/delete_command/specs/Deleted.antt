-- What a deletion over ports promises.
use Rattle.std.specs.Prelude.{◌≡◌, ◌⊎◌, ℕ, Bool, true, false, IsTrue, ◌↔◌, List, All, Ok, Err, if◌then◌else◌}
use Rattle.deletions.specs.CdBase.ids.UserId.{UserId}
use Rattle.deletions.specs.CdBase.ids.Version.{Version}
use Rattle.deletions.specs.CdBase.shape.Shape.{Shape}
use Rattle.deletions.specs.CaontRs.Package.{tag}
use Rattle.ports_link.specs.CdEdges.Causes.{Rose}
use Rattle.ports_link.specs.CdEdges.Ports.{Telling}
use Rattle.deletions.specs.Messages.request.Request.TheVariants as requests
use Rattle.deletions.specs.Messages.Requests.{request_bytes}
use Rattle.deletions.specs.Transcript.line.Line.{Line}
use Rattle.ports_link.specs.declared.greeting.Greeted.{Greeted}
use Rattle.ports_link.specs.declared.judging.AskedClouds.TheVariants as asked
use Rattle.ports_link.specs.declared.meeting.MeetErr.{MeetErr}
use Rattle.ports_link.specs.declared.meeting.MeetErr.TheVariants as unmet
use Rattle.ports_link.specs.declared.refused.Refused.{Refused}
use Rattle.ports_link.specs.Hellos.{hello}
use Rattle.ports_link.specs.Meeting.{MeetsAll}
use Rattle.ports_link.specs.Refusals.{refused_text}
use Rattle.ports_link.specs.Sending.{SendsOnly}
use Rattle.delete_command.specs.Asks.{HasAskedEach}
use Rattle.delete_command.specs.Lines.{text_of, IsGone}
use Rattle.delete_command.specs.Writing.{DeleteOutput, IsDeleteSilent, HasWrittenReplies}

-- Which version of a file is deleted, at how many addresses; what the ports tell before and after it, and how often they
-- had failed and have failed.
pub record DeleteCall : Type 0 where
  pub user : UserId
  pub path : List ℕ
  pub version : Version
  pub addresses : ℕ
  pub before : Telling
  pub after : Telling
  pub faults_before : ℕ
  pub faults_after : ℕ

-- the content of the request: a Delete of the version, by the tag that its path has in a store of this shape
abbrev pub delete_bytes : DeleteCall → Shape → List ℕ
delete_bytes call shape = request_bytes (requests.Delete call.user (record { 0 = tag shape call.path }) call.version)

-- Hello, or the Delete of this version by the tag that its path has in some shape
abbrev pub IsAskToDelete : UserId → List ℕ → Version → List ℕ → Type 0
IsAskToDelete user path version content = (content ≡ hello)
    ⊎ ((shape : Shape) × (content ≡ request_bytes (requests.Delete user (record { 0 = tag shape path }) version)))

-- On no port anything was sent but such frames, or pieces of them.
abbrev pub OnlyDeletes : UserId → List ℕ → Version → Telling → Telling → Type 0
OnlyDeletes user path version = SendsOnly (IsAskToDelete user path version)

-- Each address was dialled, in order, and asked Hello before the next was dialled, and each reply was as asked: they are
-- the n clouds of a shape, in order. Then each cloud was asked the Delete, in order, and these are the lines of the
-- replies, of all of them or up to a failure of the ports.
pub record HasAskedToDelete (call : DeleteCall) (all : Bool) (answers : List Line) : Type 0 where
  pub greeted : Greeted
  pub behind : Telling
  pub meets : MeetsAll asked.Backup call.addresses call.before behind (Ok greeted)
  pub told : behind.told ≡ call.before.told
  pub asks : HasAskedEach (delete_bytes call greeted.shape) behind greeted.lines.items all answers call.after

-- Memory ran out, and nothing is written.
pub record IsDeleteLacking (status : ℕ) (out : DeleteOutput) : Type 0 where
  pub status_is : status ≡ 6
  pub silent : IsDeleteSilent out

-- The ports failed in a dial or in a Hello, and no address behind it was dialled. Nothing is written.
pub record IsDeleteUnmet (status : ℕ) (call : DeleteCall) (out : DeleteOutput) (why : MeetErr) : Type 0 where
  pub status_is : status ≡ 9
  pub rose : Rose call.faults_before call.faults_after
  pub silent : IsDeleteSilent out
  pub meets : MeetsAll asked.Backup call.addresses call.before call.after (Err why)

-- A reply to Hello isn't as asked, and no address behind it was dialled. The line says which, and what came.
pub record IsDeleteRefused (status : ℕ) (call : DeleteCall) (out : DeleteOutput) : Type 0 where
  pub why : Refused
  pub writes : HasWrittenReplies (refused_text why) 8 out status
  pub meets : MeetsAll asked.Backup call.addresses call.before call.after (Err (unmet.Refused why))

-- Each cloud replied, and the lines are those of the replies: 0 exactly where the version is gone at each.
pub record IsDeleteThrough (status : ℕ) (call : DeleteCall) (out : DeleteOutput) : Type 0 where
  pub answers : List Line
  pub asked : HasAskedToDelete call true answers
  pub gone : Bool
  pub gone_is : IsTrue gone ↔ All IsGone answers
  pub writes : HasWrittenReplies (text_of answers) (if gone then 0 else 8) out status

-- The ports failed in an ask. The lines are those of the replies before.
pub record IsDeleteLost (status : ℕ) (call : DeleteCall) (out : DeleteOutput) : Type 0 where
  pub rose : Rose call.faults_before call.faults_after
  pub answers : List Line
  pub asked : HasAskedToDelete call false answers
  pub writes : HasWrittenReplies (text_of answers) 9 out status

-- The whole promise, by the way it ended.
pub data IsDeleted (status : ℕ) (call : DeleteCall) (out : DeleteOutput) : Type 0 where
  OutOfMemory : IsDeleteLacking status out → IsDeleted status call out
  DialFailed : IsDeleteUnmet status call out unmet.Undialled → IsDeleted status call out
  HelloFailed : IsDeleteUnmet status call out unmet.Lost → IsDeleted status call out
  HelloRefused : IsDeleteRefused status call out → IsDeleted status call out
  WentThrough : IsDeleteThrough status call out → IsDeleted status call out
  AskFailed : IsDeleteLost status call out → IsDeleted status call out
