-- Which content answers a lane.
use Rattle.std.proofs.Common.{ℕ, ◌<◌, ◌≤◌, List, length, Some, None, Result, Option, refl, sym, ap, ◌∙◌, subst, arith, length-append}
use Rattle.user_dedup.specs.CdBase.ids.Tag.{Tag}
use Rattle.user_dedup.specs.CdBase.ids.Version.{Version}
use Rattle.user_dedup.specs.Messages.reply.Reply.{Reply}
use Rattle.user_dedup.specs.Messages.reply.Reply.TheVariants as replies
use Rattle.user_dedup.specs.Messages.Replies.{reply_bytes, FitsReply}
use Rattle.upload_job.specs.declared.lane.Step.{Step}
use Rattle.upload_job.specs.declared.turn.Turn.{Turn}
use Rattle.upload_job.specs.declared.news.LaneNews.{LaneNews}
use Rattle.upload_job.specs.declared.news.LaneErr.{LaneErr}
use Rattle.upload_job.specs.Upload.{Work}
use Rattle.upload_job.specs.Lane.{LaneState, Asking, Sending, Committing, Done, Refused, IsAnswer}
use Rattle.upload_job.specs.Lanes.{LaneView, IsReplyToLane, AnswersLane}
use Rattle.upload_job.specs.Index.{IsOneReply, IsNoReply, StepIsByReply, TurnsBy, next_in}

no_recipe : (w : Work) (state : LaneState) (bytes : List ℕ) → IsAnswer w state (replies.Recipe bytes) → ⊥
no_recipe w (Asking batch rest) bytes h = h
no_recipe w (Sending batch flags rest) bytes h = h
no_recipe w Committing bytes h = h
no_recipe w Done bytes h = h
no_recipe w Refused bytes h = h

no_shares : (w : Work) (state : LaneState) (shares : List (List ℕ)) → IsAnswer w state (replies.Shares shares) → ⊥
no_shares w (Asking batch rest) shares h = h
no_shares w (Sending batch flags rest) shares h = h
no_shares w Committing shares h = h
no_shares w Done shares h = h
no_shares w Refused shares h = h

no_entries : (w : Work) (state : LaneState) (entries : List (Tag × Version)) → IsAnswer w state (replies.Entries entries) → ⊥
no_entries w (Asking batch rest) entries h = h
no_entries w (Sending batch flags rest) entries h = h
no_entries w Committing entries h = h
no_entries w Done entries h = h
no_entries w Refused entries h = h

short : (w : Work) (state : LaneState) (reply : Reply) → FitsReply reply → IsAnswer w state reply → length (reply_bytes reply) ≤ 300
short w state (replies.Hello n k cloud format) fits h = omega arith
short w state (replies.Known flags) fits h = let few = fits.0.1 in omega arith
short w state (replies.Stored new) fits h = omega arith
short w state replies.Committed fits h = omega arith
short w state replies.Exists fits h = omega arith
short w state (replies.Lacking place) fits h = omega arith
short w state (replies.Recipe bytes) fits h = absurd (no_recipe w state bytes h)
short w state replies.Missing fits h = omega arith
short w state (replies.Shares shares) fits h = absurd (no_shares w state shares h)
short w state (replies.NotYours place) fits h = omega arith
short w state (replies.Entries entries) fits h = absurd (no_entries w state entries h)
short w state replies.Deleted fits h = omega arith
short w state (replies.Full room used need limit) fits h = omega arith
short w state replies.Fault fits h = omega arith
short w state (replies.Damaged at byte) fits h = omega arith
short w state (replies.Rotten named found) fits h = let len = length-append named.0 found.0 in let a = fits.0 in let b = fits.1 in omega arith
short w state (replies.Malformed at) fits h = omega arith
short w state replies.NoMemory fits h = omega arith

pub long_is_none : (content : List ℕ) → 4194304 < length content → IsNoReply content
long_is_none content long = λ lane reply says.
    let len = ap length says.is.spelled in
    let few = short lane.work lane.state reply says.is.fits says.answers in
    omega arith

-- what no step was made of is strange
pub strange_step : (lane : LaneView) (content : List ℕ) (reply : Reply) → IsOneReply content reply → (IsAnswer lane.work lane.state reply → ⊥) → (other : Reply) → IsReplyToLane lane content other → ⊥
strange_step lane content reply read none other says = none (subst (IsAnswer lane.work lane.state) (read.one other says.is) says.answers)

refused_turn : (w : Work) (all : List (List ℕ)) (state : LaneState) (content : List ℕ) (turn : Turn) → ((other : Reply) → IsReplyToLane (record { work = w; state = state }) content other → ⊥) → TurnsBy content None turn
    → AnswersLane (record { work = w; state = state }) content turn.result (next_in all state turn.next)
refused_turn w all state content turn none by =
    subst (λ (r : Result LaneNews LaneErr). AnswersLane (record { work = w; state = state }) content r (next_in all state turn.next)) (sym by.0)
    (record { none = none; first = refl; refused = ap (next_in all state) by.1 })

-- a step that was made by the reply
pub turn_by_step : (w : Work) (all : List (List ℕ)) (state : LaneState) (content : List ℕ) (reply : Reply) (step : Option Step) (turn : Turn) → IsOneReply content reply → StepIsByReply w all state reply step → TurnsBy content step turn
    → AnswersLane (record { work = w; state = state }) content turn.result (next_in all state turn.next)
turn_by_step w all state content reply None turn read step by = refused_turn w all state content turn (strange_step (record { work = w; state = state }) content reply read step) by
turn_by_step w all state content reply (Some made) turn read step by =
    subst (λ (r : Result LaneNews LaneErr). AnswersLane (record { work = w; state = state }) content r (next_in all state turn.next)) (sym by.0)
    (reply, record { says = record { is = read.is; answers = step.0 }; told = step.1.0; moves = ap (next_in all state) by.1 ∙ step.1.1 })

pub turn_by_none : (w : Work) (all : List (List ℕ)) (state : LaneState) (content : List ℕ) (turn : Turn) → IsNoReply content → TurnsBy content None turn
    → AnswersLane (record { work = w; state = state }) content turn.result (next_in all state turn.next)
turn_by_none w all state content turn none by = refused_turn w all state content turn (none (record { work = w; state = state })) by
