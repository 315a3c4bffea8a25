-- What the lanes of a job bring stays, whatever the replies; and the recipe of a lane names as many items as the lane counts.
use Rattle.std.proofs.Common.{◌≡◌, ℕ, zero, suc, ◌≤◌, List, [], ◌∷◌, length, map, Some, None, Result, sym, ap, ◌∙◌, subst}
use Rattle.std.specs.List.{AllByRecursion, range_with_len}
use Rattle.std.proofs.lemmas.List.{length-map}
use Rattle.grammar.specs.CdBase.Limits.{IsPath}
use Rattle.grammar.specs.CdBase.shape.Shape.{Shape}
use Rattle.upload_job.specs.CaontRs.Package.{share}
use Rattle.upload_job.specs.FileRecipe.FileRecipe.{secrets}
use Rattle.upload_job.specs.Messages.request.Request.{Request}
use Rattle.upload_job.specs.UserDedup.Cloud.{fingerprint}
use Rattle.upload_job.specs.UserDedup.Requests.{fps_of}
use Rattle.upload_job.specs.declared.news.LaneNews.{LaneNews}
use Rattle.upload_job.specs.declared.news.LaneErr.{LaneErr}
use Rattle.upload_job.specs.Upload.{FileVersion, shares_for, work_of}
use Rattle.upload_job.specs.Lanes.{LaneView, begun, request_at, AnswersAt}
use Rattle.upload_job.proofs.Naming.{fps_named}
use Rattle.lane_steps.specs.Reached.{IsReached, Begun, Answered}
use Rattle.lane_steps.specs.Runs.{lane_at}

abbrev pub Counts : Shape → LaneView → Type 0
Counts shape lane = length (fps_of shape lane.work.recipe) ≡ lane.work.items

pub begun_counts : (shape : Shape) (v : FileVersion) (cloud : ℕ) → IsPath v.path → length v.file ≤ 67108864 → Counts shape (begun (work_of shape v cloud))
begun_counts shape v cloud named few =
    ap length (fps_named shape cloud v.path v.file named few) ∙ length-map (shares_for shape cloud v.file) fingerprint ∙ length-map (secrets v.file) (share shape cloud)

all_begun : (shape : Shape) (v : FileVersion) (clouds : List ℕ) → IsPath v.path → length v.file ≤ 67108864 → AllByRecursion (Counts shape) (map (λ (cloud : ℕ). begun (work_of shape v cloud)) clouds)
all_begun shape v [] named few = tt
all_begun shape v (cloud ∷ clouds) named few = (begun_counts shape v cloud named few, all_begun shape v clouds named few)

all_answered : (shape : Shape) (old new : List LaneView) (i : ℕ) (content : List ℕ) (result : Result LaneNews LaneErr) → AllByRecursion (Counts shape) old → AnswersAt old i content result new → AllByRecursion (Counts shape) new
all_answered shape [] new i content result all answers = absurd answers
all_answered shape (lane ∷ lanes) new zero content result all answers = subst (AllByRecursion (Counts shape)) (sym answers.2) (all.0, all.1)
all_answered shape (lane ∷ lanes) new (suc i) content result all answers =
    subst (AllByRecursion (Counts shape)) (sym answers.2) (all.0, all_answered shape lanes answers.0 i content result all.1 answers.1)

all_count : (shape : Shape) (lanes : List LaneView) → IsReached shape lanes → AllByRecursion (Counts shape) lanes
all_count shape _ (Begun v named few user number) = all_begun shape v (range_with_len 0 shape.n) named few
all_count shape _ (Answered old new i content result reached answers) = all_answered shape old new i content result (all_count shape old reached) answers

count_at : (shape : Shape) (lanes : List LaneView) (i : ℕ) (request : Request) → AllByRecursion (Counts shape) lanes → request_at lanes i ≡ Some request → Counts shape (lane_at lanes i)
count_at shape [] i request all e = absurd (let f : None ≡ Some request = e in cc)
count_at shape (lane ∷ lanes) zero request all e = all.0
count_at shape (lane ∷ lanes) (suc i) request all e = count_at shape lanes i request all.1 e

pub counts_items : (shape : Shape) (lanes : List LaneView) (i : ℕ) (request : Request) → IsReached shape lanes → request_at lanes i ≡ Some request → Counts shape (lane_at lanes i)
counts_items shape lanes i request reached e = count_at shape lanes i request (all_count shape lanes reached) e
