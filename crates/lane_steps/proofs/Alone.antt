-- A job for one cloud alone: its lane is as any other, and the others ask for nothing.
use Rattle.std.proofs.Common.{◌≡◌, ◌⊎◌, inl, inr, ℕ, zero, suc, ◌<◌, ◌≤◌, ◌^◌, Bool, true, false, cond, eqb, List, [], ◌∷◌, length, map, Some, None, Result, Ok, Err, refl, sym, ◌∙◌, ap, subst}
use Rattle.std.specs.List.{AllByRecursion, range_with_len}
use Rattle.grammar.specs.CdBase.Limits.{IsPath}
use Rattle.grammar.specs.CdBase.shape.Shape.{Shape}
use Rattle.upload_job.specs.Messages.request.Request.{Request}
use Rattle.upload_job.specs.declared.news.LaneNews.{LaneNews}
use Rattle.upload_job.specs.declared.news.LaneErr.{LaneErr}
use Rattle.upload_job.specs.declared.news.LaneErr.TheVariants as errors
use Rattle.upload_job.specs.Upload.{FileVersion, Work, work_of}
use Rattle.upload_job.specs.Lane.{LaneState, Refused, lane_request, IsAnswer}
use Rattle.upload_job.specs.Lanes.{LaneView, begun, idle, request_at, AnswersLane, AnswersAt}
use Rattle.lane_steps.specs.Reached.{IsReachedAlone, BegunAlone, AnsweredAlone, IsOnItsWay, ForAll, ForOne}
use Rattle.lane_steps.specs.Runs.{lane_at, request_of}
use Rattle.lane_steps.proofs.Sent.{IsSent}
use Rattle.lane_steps.proofs.Lanes.{IsLane, asks, onward_can, answered}
use Rattle.lane_steps.proofs.Reaching.{can_bring, is_sent}
use Rattle.lane_steps.proofs.Works.{Counts, begun_counts, counts_items}

-- a refused lane stays so
refused_stays : (w : Work) (state now : LaneState) (content : List ℕ) (result : Result LaneNews LaneErr) → state ≡ Refused → AnswersLane (record { work = w; state = state }) content result now → now ≡ Refused
refused_stays w state now content (Ok news) is answers = absurd (subst (λ (s : LaneState). IsAnswer w s answers.0) is answers.1.says.answers)
refused_stays w state now content (Err (errors.Strange kind)) is answers = answers.refused
refused_stays w state now content (Err errors.NoMemory) is answers = let same : now ≡ state = answers in same ∙ is

-- what holds of each lane of a new job, and stays whatever the replies, holds of a lane that has a request
module _ (shape : Shape) (P : LaneView → Type 0)
    (stays : (lane : LaneView) (content : List ℕ) (result : Result LaneNews LaneErr) (state : LaneState) → P lane → AnswersLane lane content result state → P (record { work = lane.work; state = state }))
    (starts : (v : FileVersion) (cloud : ℕ) → IsPath v.path → length v.file ≤ 67108864 → v.user.0 < 2 ^ 32 → v.number.0 < 2 ^ 64 → P (begun (work_of shape v cloud))) where
  abbrev OrRefused : LaneView → Type 0
  OrRefused lane = P lane ⊎ (lane.state ≡ Refused)

  one_answered : (lane : LaneView) (content : List ℕ) (result : Result LaneNews LaneErr) (state : LaneState) → OrRefused lane → AnswersLane lane content result state → OrRefused (record { work = lane.work; state = state })
  one_answered lane content result state (inl is) answers = inl (stays lane content result state is answers)
  one_answered lane content result state (inr refused) answers = inr (refused_stays lane.work lane.state state content result refused answers)

  all_answered : (old new : List LaneView) (i : ℕ) (content : List ℕ) (result : Result LaneNews LaneErr) → AllByRecursion OrRefused old → AnswersAt old i content result new → AllByRecursion OrRefused new
  all_answered [] new i content result all answers = absurd answers
  all_answered (lane ∷ lanes) new zero content result all answers = subst (AllByRecursion OrRefused) (sym answers.2) (one_answered lane content result answers.0 all.0 answers.1, all.1)
  all_answered (lane ∷ lanes) new (suc i) content result all answers = subst (AllByRecursion OrRefused) (sym answers.2) (all.0, all_answered lanes answers.0 i content result all.1 answers.1)

  one_begun : (v : FileVersion) (other : ℕ) (b : Bool) → P (begun (work_of shape v other)) → OrRefused (cond b (begun (work_of shape v other)) (idle shape v))
  one_begun v other true is = inl is
  one_begun v other false is = inr refl

  all_begun : (v : FileVersion) (cloud : ℕ) (clouds : List ℕ) → ((other : ℕ) → P (begun (work_of shape v other))) → AllByRecursion OrRefused (map (λ (other : ℕ). cond (eqb other cloud) (begun (work_of shape v other)) (idle shape v)) clouds)
  all_begun v cloud [] are = tt
  all_begun v cloud (other ∷ clouds) are = (one_begun v other (eqb other cloud) (are other), all_begun v cloud clouds are)

  all_are : (lanes : List LaneView) → IsReachedAlone shape lanes → AllByRecursion OrRefused lanes
  all_are _ (BegunAlone v cloud named few user number) = all_begun v cloud (range_with_len 0 shape.n) (λ other. starts v other named few user number)
  all_are _ (AnsweredAlone old new i content result reached answers) = all_answered old new i content result (all_are old reached) answers

  asked_one : (lane : LaneView) (request : Request) → OrRefused lane → request_of lane ≡ Some request → P lane
  asked_one lane request (inl is) e = is
  asked_one lane request (inr refused) e = absurd (let f : None ≡ Some request = sym (ap (lane_request lane.work) refused) ∙ e in cc)

  pub asked_is : (lanes : List LaneView) (i : ℕ) (request : Request) → AllByRecursion OrRefused lanes → request_at lanes i ≡ Some request → (request_of (lane_at lanes i) ≡ Some request) × P (lane_at lanes i)
  asked_is [] i request all e = absurd (let f : None ≡ Some request = e in cc)
  asked_is (lane ∷ lanes) zero request all e = (e, asked_one lane request all.0 e)
  asked_is (lane ∷ lanes) (suc i) request all e = asked_is lanes i request all.1 e

  pub asked_alone : (lanes : List LaneView) (i : ℕ) (request : Request) → IsReachedAlone shape lanes → request_at lanes i ≡ Some request → (request_of (lane_at lanes i) ≡ Some request) × P (lane_at lanes i)
  asked_alone lanes i request reached e = asked_is lanes i request (all_are lanes reached) e

lane_stays : (shape : Shape) (lane : LaneView) (content : List ℕ) (result : Result LaneNews LaneErr) (state : LaneState) → IsLane shape lane → AnswersLane lane content result state → IsLane shape (record { work = lane.work; state = state })
lane_stays shape lane content result state is answers = record { work = is.work; state = answered shape lane content result state is answers }

lane_starts : (shape : Shape) (v : FileVersion) (cloud : ℕ) → IsPath v.path → length v.file ≤ 67108864 → v.user.0 < 2 ^ 32 → v.number.0 < 2 ^ 64 → IsLane shape (begun (work_of shape v cloud))
lane_starts shape v cloud named few user number =
    let can = can_bring shape v cloud named few user number in
    record { work = can; state = onward_can (work_of shape v cloud).batches can.batches }

-- what a lane asks, its cloud reads
pub any_sent : (shape : Shape) (lanes : List LaneView) (i : ℕ) (request : Request) → IsOnItsWay shape lanes → request_at lanes i ≡ Some request → IsSent shape request
any_sent shape lanes i request (ForAll reached) e = is_sent shape lanes i request reached e
any_sent shape lanes i request (ForOne alone) e =
    let lane = lane_at lanes i in
    let asked = asked_alone shape (IsLane shape) (lane_stays shape) (lane_starts shape) lanes i request alone e in
    asks shape lane.work lane.state request asked.1.work asked.1.state asked.0

-- the recipe of a lane names as many items as the lane counts
pub any_counts : (shape : Shape) (lanes : List LaneView) (i : ℕ) (request : Request) → IsOnItsWay shape lanes → request_at lanes i ≡ Some request → Counts shape (lane_at lanes i)
any_counts shape lanes i request (ForAll reached) e = counts_items shape lanes i request reached e
any_counts shape lanes i request (ForOne alone) e =
    (asked_alone shape (Counts shape) (λ lane content result state is answers. is) (λ v cloud named few user number. begun_counts shape v cloud named few) lanes i request alone e).1
