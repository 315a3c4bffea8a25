-- The line of what a cloud replies to a Delete.
use Rattle.std.specs.Prelude.{◌≡◌, ℕ, List, Option, Some, None}
use Rattle.transcript.specs.CdBase.ids.CloudNo.{CloudNo}
use Rattle.transcript.specs.CdBase.ids.Tag.{Tag}
use Rattle.transcript.specs.CdBase.ids.UserId.{UserId}
use Rattle.transcript.specs.CdBase.ids.Version.{Version}
use Rattle.messages.specs.declared.request.Request.TheVariants as requests
use Rattle.messages.specs.declared.reply.Reply.{Reply}
use Rattle.messages.specs.declared.reply.Reply.TheVariants as replies
use Rattle.messages.specs.Answering.{IsReplyTo}
use Rattle.messages.specs.Replies.{IsReply}
use Rattle.messages.specs.ReplyViews.{kind_in}
use Rattle.transcript.specs.declared.line.Line.{Line}
use Rattle.transcript.specs.declared.line.Line.TheVariants as lines

-- what a reply to a Delete says, as a line; nothing where it is none to a Delete
abbrev pub line_of : CloudNo → Reply → Option Line
line_of cloud replies.Deleted = Some (lines.Deleted cloud)
line_of cloud replies.Missing = Some (lines.Missing cloud)
line_of cloud (replies.Full room used need limit) = Some (lines.Full cloud room used need limit)
line_of cloud replies.Fault = Some (lines.Fault cloud)
line_of cloud (replies.Damaged at byte) = Some (lines.Damaged cloud at byte)
line_of cloud (replies.Rotten named found) = Some (lines.Rotten cloud named found)
line_of cloud replies.NoMemory = Some (lines.NoMemory cloud)
line_of cloud reply = None

-- no server that keeps to the rules replies this to a Delete
abbrev pub IsStrange : List ℕ → Type 0
IsStrange content =
    (reply : Reply) → IsReply content reply → (user : UserId) (tag : Tag) (version : Version)
    → ¬ IsReplyTo 0 (requests.Delete user tag version) reply

-- The line of what came: of the reply to a Delete that it is, or that it is none, with its first byte, 0 where it is empty.
pub data HasLine (cloud : CloudNo) (content : List ℕ) : Line → Type 0 where
  Says : (reply : Reply) (line : Line) → IsReply content reply → line_of cloud reply ≡ Some line
      → HasLine cloud content line
  Strange : IsStrange content → HasLine cloud content (lines.Strange cloud (kind_in content))

-- what reading a content gives: the line of the reply to a Delete that it is, or nothing
abbrev pub ReadsDeleteReply : CloudNo → List ℕ → Option Line → Type 0
ReadsDeleteReply cloud content (Some line) = (reply : Reply) × IsReply content reply × (line_of cloud reply ≡ Some line)
ReadsDeleteReply cloud content None = (reply : Reply) → IsReply content reply → line_of cloud reply ≡ None
