-- The line of what came.
use Rattle.std.proofs.Common.{◌≡◌, ℕ, List, Some, None, sym, ap, ◌∙◌}
use Rattle.std.specs.Prelude.{◌↔◌, Result, Ok}
use Rattle.transcript.specs.CdBase.ids.CloudNo.{CloudNo}
use Rattle.transcript.specs.CdBase.ids.Tag.{Tag}
use Rattle.transcript.specs.CdBase.ids.UserId.{UserId}
use Rattle.transcript.specs.CdBase.ids.Version.{Version}
use Rattle.messages.specs.declared.request.Request.TheVariants as requests
use Rattle.messages.specs.declared.reply.Reply.{Reply}
use Rattle.messages.specs.declared.reply.Reply.TheVariants as replies
use Rattle.messages.specs.Answering.{IsReplyTo}
use Rattle.messages.specs.Replies.{IsReply}
use Rattle.messages.specs.ReplyReading.{reply_at}
use Rattle.transcript.specs.declared.line.Line.{Line}
use Rattle.deletions.specs.Replies.{IsStrange, ReadsDeleteReply, line_of}

-- what has no line is no reply to a Delete
no_reply_to : (cloud : CloudNo) (reply : Reply) (user : UserId) (tag : Tag) (version : Version)
    → line_of cloud reply ≡ None → ¬ IsReplyTo 0 (requests.Delete user tag version) reply
no_reply_to cloud (replies.Hello n k c format) user tag version none to = to
no_reply_to cloud (replies.Known flags) user tag version none to = to
no_reply_to cloud (replies.Stored new) user tag version none to = to
no_reply_to cloud replies.Committed user tag version none to = to
no_reply_to cloud replies.Exists user tag version none to = to
no_reply_to cloud (replies.Lacking place) user tag version none to = to
no_reply_to cloud (replies.Recipe bytes) user tag version none to = to
no_reply_to cloud replies.Missing user tag version none to = cc
no_reply_to cloud (replies.Shares shares) user tag version none to = to
no_reply_to cloud (replies.NotYours place) user tag version none to = to
no_reply_to cloud (replies.Entries entries) user tag version none to = to
no_reply_to cloud (replies.Full room used need limit) user tag version none to = cc
no_reply_to cloud replies.Fault user tag version none to = cc
no_reply_to cloud (replies.Damaged at byte) user tag version none to = cc
no_reply_to cloud (replies.Rotten named found) user tag version none to = cc
no_reply_to cloud (replies.Malformed at) user tag version none to = to
no_reply_to cloud replies.NoMemory user tag version none to = cc
no_reply_to cloud replies.Deleted user tag version none to = cc

pub strange : (cloud : CloudNo) (content : List ℕ) → ReadsDeleteReply cloud content None → IsStrange content
strange cloud content none reply is user tag version = no_reply_to cloud reply user tag version (none reply is)

-- a content is one reply at most
pub one_reply : (content : List ℕ) → ((r : Reply) → (reply_at content ≡ Ok r) ↔ IsReply content r)
    → (reply other : Reply) → IsReply content reply → IsReply content other → reply ≡ other
one_reply content law reply other one two =
    let a : Result Reply ℕ = Ok reply in
    let b : Result Reply ℕ = Ok other in
    let e : a ≡ b = sym ((law reply).1 one) ∙ (law other).1 two in
    cc

-- so its line is one
pub one_line : (cloud : CloudNo) (reply other : Reply) (line told : Line) → reply ≡ other
    → line_of cloud other ≡ Some line → line_of cloud reply ≡ Some told → line ≡ told
one_line cloud reply other line told same one two =
    let a = Some line in
    let b = Some told in
    let e : a ≡ b = sym one ∙ (ap (line_of cloud) (sym same) ∙ two) in
    cc

-- a reply that has a line is not said to have none
pub no_line : (cloud : CloudNo) (content : List ℕ) (reply : Reply) (told : Line) → ReadsDeleteReply cloud content None
    → IsReply content reply → line_of cloud reply ≡ Some told → ⊥
no_line cloud content reply told none is has = let e : None ≡ Some told = sym (none reply is) ∙ has in cc
