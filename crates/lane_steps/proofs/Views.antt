-- One lane of a job.
use Rattle.std.proofs.Common.{◌≡◌, ℕ, zero, suc, ◌<◌, List, [], ◌∷◌, length, Result, refl, ap, ◌∙◌, arith}
use Rattle.upload_job.specs.declared.news.LaneNews.{LaneNews}
use Rattle.upload_job.specs.declared.news.LaneErr.{LaneErr}
use Rattle.upload_job.specs.Lane.{LaneState}
use Rattle.upload_job.specs.Lanes.{LaneView, request_at, with_state, AnswersLane, AnswersAt}
use Rattle.lane_steps.specs.Runs.{request_of, lane_at}

pub request_here : (views : List LaneView) (i : ℕ) → request_at views i ≡ request_of (lane_at views i)
request_here [] i = refl
request_here (lane ∷ views) zero = refl
request_here (lane ∷ views) (suc i) = request_here views i

pub answers_here : (views : List LaneView) (i : ℕ) (content : List ℕ) (result : Result LaneNews LaneErr) (new : List LaneView) → AnswersAt views i content result new
    → (state : LaneState) × AnswersLane (lane_at views i) content result state × (new ≡ with_state views i state)
answers_here [] i content result new answers = absurd answers
answers_here (lane ∷ views) zero content result new answers = (answers.0, answers.1, answers.2)
answers_here (lane ∷ views) (suc i) content result new answers =
    let rest = answers_here views i content result answers.0 answers.1 in
    (rest.0, rest.1, answers.2 ∙ ap (λ (l : List LaneView). lane ∷ l) rest.2)

pub length_with : (views : List LaneView) (i : ℕ) (state : LaneState) → length (with_state views i state) ≡ length views
length_with [] i state = refl
length_with (lane ∷ views) zero state = refl
length_with (lane ∷ views) (suc i) state = let e = length_with views i state in omega arith

pub lane_with : (views : List LaneView) (i : ℕ) (state : LaneState) → i < length views → lane_at (with_state views i state) i ≡ record { work = (lane_at views i).work; state = state }
lane_with [] i state lt = absurd (omega arith)
lane_with (lane ∷ views) zero state lt = refl
lane_with (lane ∷ views) (suc i) state lt = lane_with views i state (omega arith)

pub with_twice : (views : List LaneView) (i : ℕ) (one two : LaneState) → with_state (with_state views i one) i two ≡ with_state views i two
with_twice [] i one two = refl
with_twice (lane ∷ views) zero one two = refl
with_twice (lane ∷ views) (suc i) one two = ap (λ (l : List LaneView). lane ∷ l) (with_twice views i one two)

-- where it stands already
pub with_same : (views : List LaneView) (i : ℕ) → with_state views i (lane_at views i).state ≡ views
with_same [] i = refl
with_same (lane ∷ views) zero = refl
with_same (lane ∷ views) (suc i) = ap (λ (l : List LaneView). lane ∷ l) (with_same views i)
