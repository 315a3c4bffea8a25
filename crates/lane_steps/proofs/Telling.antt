-- What a reply tells, and which news stop a lane.
use Rattle.std.proofs.Common.{◌≡◌, Bool, false, Option, Some, None, refl, ap, ◌∙◌}
use Rattle.upload_job.specs.Messages.reply.Reply.{Reply}
use Rattle.upload_job.specs.Messages.reply.Reply.TheVariants as replies
use Rattle.upload_job.specs.declared.news.LaneNews.{LaneNews}
use Rattle.upload_job.specs.Upload.{Work}
use Rattle.upload_job.specs.Lane.{LaneState, Asking, Sending, Committing, Done, Refused, news_of, IsAnswer}
use Rattle.lane_steps.specs.Runs.{is_lacking, stops_at}
use Rattle.lane_steps.specs.Steps.{stops_by, tells_lack}

-- a reply that the lane's request may have tells something
pub news_given : (w : Work) (state : LaneState) (reply : Reply) → IsAnswer w state reply → (told : LaneNews) × (news_of state reply ≡ Some told)
news_given w (Asking batch rest) (replies.Known flags) answers = (_, refl)
news_given w (Asking batch rest) replies.Fault answers = (_, refl)
news_given w (Asking batch rest) (replies.Damaged at byte) answers = (_, refl)
news_given w (Asking batch rest) replies.NoMemory answers = (_, refl)
news_given w (Asking batch rest) reply answers = absurd answers
news_given w (Sending batch flags rest) (replies.Stored new) answers = (_, refl)
news_given w (Sending batch flags rest) (replies.Full room used need limit) answers = (_, refl)
news_given w (Sending batch flags rest) replies.Fault answers = (_, refl)
news_given w (Sending batch flags rest) (replies.Damaged at byte) answers = (_, refl)
news_given w (Sending batch flags rest) replies.NoMemory answers = (_, refl)
news_given w (Sending batch flags rest) reply answers = absurd answers
news_given w Committing replies.Committed answers = (_, refl)
news_given w Committing replies.Exists answers = (_, refl)
news_given w Committing (replies.Lacking place) answers = (_, refl)
news_given w Committing (replies.Full room used need limit) answers = (_, refl)
news_given w Committing (replies.Rotten named found) answers = (_, refl)
news_given w Committing replies.Fault answers = (_, refl)
news_given w Committing (replies.Damaged at byte) answers = (_, refl)
news_given w Committing replies.NoMemory answers = (_, refl)
news_given w Committing reply answers = absurd answers
news_given w Done reply answers = absurd answers
news_given w Refused reply answers = absurd answers

abbrev stops_some : Bool → Option LaneNews → Bool
stops_some lacked None = false
stops_some lacked (Some told) = stops_by lacked told

abbrev lacks_some : Option LaneNews → Bool
lacks_some None = false
lacks_some (Some told) = tells_lack told

stops_same : (lacked : Bool) (state : LaneState) (reply : Reply) → stops_at lacked reply ≡ stops_some lacked (news_of state reply)
stops_same lacked (Asking batch rest) replies.Fault = refl
stops_same lacked (Asking batch rest) reply = refl
stops_same lacked (Sending batch flags rest) replies.Fault = refl
stops_same lacked (Sending batch flags rest) reply = refl
stops_same lacked Committing replies.Fault = refl
stops_same lacked Committing reply = refl
stops_same lacked Done replies.Fault = refl
stops_same lacked Done reply = refl
stops_same lacked Refused replies.Fault = refl
stops_same lacked Refused reply = refl

lacks_same : (state : LaneState) (reply : Reply) → is_lacking reply ≡ lacks_some (news_of state reply)
lacks_same (Asking batch rest) replies.Fault = refl
lacks_same (Asking batch rest) reply = refl
lacks_same (Sending batch flags rest) replies.Fault = refl
lacks_same (Sending batch flags rest) reply = refl
lacks_same Committing replies.Fault = refl
lacks_same Committing reply = refl
lacks_same Done replies.Fault = refl
lacks_same Done reply = refl
lacks_same Refused replies.Fault = refl
lacks_same Refused reply = refl

pub stops_told : (lacked : Bool) (state : LaneState) (reply : Reply) (told : LaneNews) → news_of state reply ≡ Some told → stops_at lacked reply ≡ stops_by lacked told
stops_told lacked state reply told e = stops_same lacked state reply ∙ ap (stops_some lacked) e

pub lacks_told : (state : LaneState) (reply : Reply) (told : LaneNews) → news_of state reply ≡ Some told → is_lacking reply ≡ tells_lack told
lacks_told state reply told e = lacks_same state reply ∙ ap lacks_some e
