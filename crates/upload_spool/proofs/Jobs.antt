-- Whose job some lanes are, and which of them have entered their version.
use Rattle.std.proofs.Common.{◌≡◌, ℕ, zero, suc, List, [], ◌∷◌, map, Result, refl, ap, ◌∙◌}
use Rattle.std.specs.List.{range_with_len}
use Rattle.grammar.specs.CdBase.shape.Shape.{Shape}
use Rattle.upload_job.specs.declared.news.LaneNews.{LaneNews}
use Rattle.upload_job.specs.declared.news.LaneErr.{LaneErr}
use Rattle.upload_job.specs.Lane.{Done}
use Rattle.upload_job.specs.Upload.{FileVersion, Work, work_of}
use Rattle.upload_job.specs.Lanes.{LaneView, begun, lanes_begun, lanes_resumed, with_state, entered_at, AnswersAt}
use Rattle.upload_job.proofs.Laning.{works, state_works}
use Rattle.upload_spool.specs.States.{IsJobOf}

begun_works : (shape : Shape) (v : FileVersion) (clouds : List ℕ) → works (map (λ (cloud : ℕ). begun (work_of shape v cloud)) clouds) ≡ map (work_of shape v) clouds
begun_works shape v [] = refl
begun_works shape v (cloud ∷ clouds) = ap (λ (l : List Work). work_of shape v cloud ∷ l) (begun_works shape v clouds)

entered_works : (lanes : List LaneView) (clouds : List ℕ) → works (entered_at lanes clouds) ≡ works lanes
entered_works lanes [] = refl
entered_works lanes (cloud ∷ clouds) = entered_works (with_state lanes cloud Done) clouds ∙ state_works lanes cloud Done

answered_works : (old new : List LaneView) (i : ℕ) (content : List ℕ) (result : Result LaneNews LaneErr) → AnswersAt old i content result new → works new ≡ works old
answered_works [] new i content result answers = absurd answers
answered_works (lane ∷ lanes) new zero content result answers = ap works answers.2
answered_works (lane ∷ lanes) new (suc i) content result answers = ap works answers.2 ∙ ap (λ (l : List Work). lane.work ∷ l) (answered_works lanes answers.0 i content result answers.1)

pub job_begun : (shape : Shape) (v : FileVersion) → IsJobOf shape v (lanes_begun shape v)
job_begun shape v = begun_works shape v (range_with_len 0 shape.n)

pub job_resumed : (shape : Shape) (v : FileVersion) (committed : List ℕ) → IsJobOf shape v (lanes_resumed shape v committed)
job_resumed shape v committed = entered_works (lanes_begun shape v) committed ∙ job_begun shape v

pub job_answered : (shape : Shape) (v : FileVersion) (old new : List LaneView) (i : ℕ) (content : List ℕ) (result : Result LaneNews LaneErr) → IsJobOf shape v old → AnswersAt old i content result new
    → IsJobOf shape v new
job_answered shape v old new i content result is answers = answered_works old new i content result answers ∙ is
