-- What a lane asks is of what it has to bring.
use Rattle.std.proofs.Common.{◌≡◌, ℕ, zero, suc, Bool, true, false, cond, eqb, List, [], ◌∷◌, ◌++◌, map, get_or, Some, None, refl, sym, ap, ◌∙◌, subst, append_assoc, Ok, Err}
use Rattle.std.specs.Prelude.{Result}
use Rattle.std.specs.List.{list_all, range_with_len}
use Rattle.transcript.specs.CdBase.shape.Shape.{Shape}
use Rattle.ports_link.specs.Messages.request.Request.{Request}
use Rattle.ports_link.specs.Messages.request.Request.TheVariants as requests
use Rattle.ports_link.specs.Messages.reply.Reply.{Reply}
use Rattle.ports_link.specs.Messages.reply.Reply.TheVariants as replies
use Rattle.ports_link.specs.Messages.Requests.{request_bytes}
use Rattle.lane_steps.specs.UserDedup.Cloud.{fingerprint}
use Rattle.lane_steps.specs.UploadJob.news.LaneNews.{LaneNews}
use Rattle.lane_steps.specs.UploadJob.news.LaneErr.{LaneErr}
use Rattle.lane_steps.specs.UploadJob.news.LaneErr.TheVariants as errors
use Rattle.lane_steps.specs.UploadJob.Lane.{LaneState, Asking, Sending, Committing, Done, Refused, onward, unflagged, lane_request, lane_after}
use Rattle.lane_steps.specs.UploadJob.Lanes.{LaneView, AnswersLane, AnswersAt, begun}
use Rattle.lane_steps.specs.UploadJob.Upload.{Work, FileVersion, work_of}
use Rattle.lane_steps.specs.Reached.{IsReached, Begun, Answered}
use Rattle.lane_steps.specs.Runs.{lane_at, no_lane}
use Rattle.backup_command.specs.Sends.{IsRequestOf, AsksForBatch, BringsOfBatch, EntersVersion, IsAskOf}
use Rattle.lane_steps.proofs.UploadJob.Laning.{works}

-- the batches that are still to bring are the last ones
abbrev StillBrings : Work → List (List (List ℕ)) → Type 0
StillBrings w batches = (front : List (List (List ℕ))) × (w.batches ≡ front ++ batches)

-- the lane stands at one of its own batches
abbrev pub IsAtOwn : Work → LaneState → Type 0
IsAtOwn w (Asking batch rest) = StillBrings w (batch ∷ rest)
IsAtOwn w (Sending batch flags rest) = StillBrings w (batch ∷ rest)
IsAtOwn w Committing = Unit {0}
IsAtOwn w Done = Unit {0}
IsAtOwn w Refused = Unit {0}

some_same : (a b : Request) → Some a ≡ Some b → a ≡ b
some_same a b e = cc

pub own_request : (w : Work) (state : LaneState) (request : Request) → IsAtOwn w state → lane_request w state ≡ Some request → IsRequestOf w request
own_request w (Asking batch rest) request own e =
    subst (IsRequestOf w) (some_same (requests.Query w.user (map fingerprint batch)) request e) (AsksForBatch own.0 rest batch own.1)
own_request w (Sending batch flags rest) request own e =
    subst (IsRequestOf w) (some_same (requests.Put w.user (unflagged batch flags)) request e) (BringsOfBatch own.0 rest batch flags own.1)
own_request w Committing request own e = subst (IsRequestOf w) (some_same (requests.Commit w.user w.tag w.version w.recipe) request e) EntersVersion
own_request w Done request own e = absurd (let f : None ≡ Some request = e in cc)
own_request w Refused request own e = absurd (let f : None ≡ Some request = e in cc)

pub own_ask : (w : Work) (state : LaneState) (request : Request) → IsAtOwn w state → lane_request w state ≡ Some request → IsAskOf w (request_bytes request)
own_ask w state request own e = record { request = request; own = own_request w state request own e; is = refl }

-- ---- from one state to the next

onward_own : (w : Work) (batches : List (List (List ℕ))) → StillBrings w batches → IsAtOwn w (onward batches)
onward_own w [] still = tt
onward_own w (batch ∷ rest) still = still

next_own : (w : Work) (batch : List (List ℕ)) (rest : List (List (List ℕ))) → StillBrings w (batch ∷ rest) → IsAtOwn w (onward rest)
next_own w batch rest still = onward_own w rest (still.0 ++ batch ∷ [], still.1 ∙ sym (append_assoc still.0 (batch ∷ []) rest))

past_by : (w : Work) (batch : List (List ℕ)) (flags : List ℕ) (rest : List (List (List ℕ))) (b : Bool) → StillBrings w (batch ∷ rest)
    → IsAtOwn w (cond b (onward rest) (Sending batch flags rest))
past_by w batch flags rest true still = next_own w batch rest still
past_by w batch flags rest false still = still

begun_own : (w : Work) → IsAtOwn w (onward w.batches)
begun_own w = onward_own w w.batches ([], refl)

pub after_own : (w : Work) (state : LaneState) (reply : Reply) → IsAtOwn w state → IsAtOwn w (lane_after w state reply)
after_own w state replies.Fault own = own
after_own w state replies.NoMemory own = own
after_own w (Asking batch rest) (replies.Known flags) own = past_by w batch flags rest (list_all (λ (flag : ℕ). eqb flag 1) flags) own
after_own w (Sending batch flags rest) (replies.Known known) own = tt
after_own w Committing (replies.Known flags) own = tt
after_own w Done (replies.Known flags) own = tt
after_own w Refused (replies.Known flags) own = tt
after_own w (Asking batch rest) (replies.Stored new) own = tt
after_own w (Sending batch flags rest) (replies.Stored new) own = next_own w batch rest own
after_own w Committing (replies.Stored new) own = tt
after_own w Done (replies.Stored new) own = tt
after_own w Refused (replies.Stored new) own = tt
after_own w (Asking batch rest) replies.Committed own = tt
after_own w (Sending batch flags rest) replies.Committed own = tt
after_own w Committing replies.Committed own = tt
after_own w Done replies.Committed own = tt
after_own w Refused replies.Committed own = tt
after_own w (Asking batch rest) (replies.Lacking place) own = tt
after_own w (Sending batch flags rest) (replies.Lacking place) own = tt
after_own w Committing (replies.Lacking place) own = begun_own w
after_own w Done (replies.Lacking place) own = tt
after_own w Refused (replies.Lacking place) own = tt
after_own w state (replies.Hello n k cloud format) own = tt
after_own w state replies.Exists own = tt
after_own w state (replies.Recipe bytes) own = tt
after_own w state replies.Missing own = tt
after_own w state (replies.Shares shares) own = tt
after_own w state (replies.NotYours place) own = tt
after_own w state (replies.Entries entries) own = tt
after_own w state replies.Deleted own = tt
after_own w state (replies.Full room used need limit) own = tt
after_own w state (replies.Damaged at byte) own = tt
after_own w state (replies.Rotten named found) own = tt
after_own w state (replies.Malformed at) own = tt

-- ---- each lane to which a job comes

abbrev pub AreAtOwn : List LaneView → Type 0
AreAtOwn lanes = (i : ℕ) → IsAtOwn (lane_at lanes i).work (lane_at lanes i).state

each_begun : (shape : Shape) (v : FileVersion) (clouds : List ℕ) → AreAtOwn (map (λ (cloud : ℕ). begun (work_of shape v cloud)) clouds)
each_begun shape v [] i = tt
each_begun shape v (cloud ∷ clouds) zero = begun_own (work_of shape v cloud)
each_begun shape v (cloud ∷ clouds) (suc i) = each_begun shape v clouds i

answered_own : (lane : LaneView) (content : List ℕ) (result : Result LaneNews LaneErr) (state : LaneState) → IsAtOwn lane.work lane.state
    → AnswersLane lane content result state → IsAtOwn lane.work state
answered_own lane content (Ok news) state own answers = subst (IsAtOwn lane.work) (sym answers.1.moves) (after_own lane.work lane.state answers.0 own)
answered_own lane content (Err (errors.Strange kind)) state own answers = subst (IsAtOwn lane.work) (sym answers.refused) tt
answered_own lane content (Err errors.NoMemory) state own answers = let same : state ≡ lane.state = answers in subst (IsAtOwn lane.work) (sym same) own

with_first : (lane : LaneView) (lanes : List LaneView) → IsAtOwn lane.work lane.state → AreAtOwn lanes → AreAtOwn (lane ∷ lanes)
with_first lane lanes first rest zero = first
with_first lane lanes first rest (suc i) = rest i

each_answered : (old new : List LaneView) (i : ℕ) (content : List ℕ) (result : Result LaneNews LaneErr) → AreAtOwn old → AnswersAt old i content result new → AreAtOwn new
each_answered [] new i content result own answers = absurd answers
each_answered (lane ∷ lanes) new zero content result own answers =
    subst AreAtOwn (sym answers.2) (with_first (record { work = lane.work; state = answers.0 }) lanes
    (answered_own lane content result answers.0 (own zero) answers.1) (λ j. own (suc j)))
each_answered (lane ∷ lanes) new (suc i) content result own answers =
    subst AreAtOwn (sym answers.2) (with_first lane answers.0 (own zero) (each_answered lanes answers.0 i content result (λ k. own (suc k)) answers.1))

pub reached_own : (shape : Shape) (lanes : List LaneView) → IsReached shape lanes → AreAtOwn lanes
reached_own shape _ (Begun v named few user number) = each_begun shape v (range_with_len 0 shape.n)
reached_own shape _ (Answered old new i content result reached answers) = each_answered old new i content result (reached_own shape old reached) answers

-- ---- what the lanes have to bring

work_is : (lanes : List LaneView) (i : ℕ) → (lane_at lanes i).work ≡ get_or (works lanes) i no_lane.work
work_is [] i = refl
work_is (lane ∷ lanes) zero = refl
work_is (lane ∷ lanes) (suc i) = work_is lanes i

pub same_work : (one two : List LaneView) (i : ℕ) → works one ≡ works two → (lane_at one i).work ≡ (lane_at two i).work
same_work one two i same = work_is one i ∙ ap (λ (l : List Work). get_or l i no_lane.work) same ∙ sym (work_is two i)
