-- A job that was just begun.
use Rattle.std.proofs.Common.{◌≡◌, ◌^◌, ◌<◌, ◌≤◌, List, [], ◌∷◌, ◌++◌, length, sym, subst}
use Rattle.std.proofs.lemmas.List.Elements.{All-nil, All-cons, All-append}
use Rattle.recipe.specs.CdBase.Limits.{IsPath}
use Rattle.recipe.specs.CdBase.shape.Shape.{Shape}
use Rattle.recipe.specs.Spelling.{file_limit}
use Rattle.session_model.specs.UploadJob.Upload.{FileVersion}
use Rattle.session_model.specs.UploadJob.Lanes.{LaneView, lanes_begun}
use Rattle.session_jobs.specs.LaneSteps.Reached.{IsReached, Begun}
use Rattle.script_lines.specs.Jobs.{AreReached}

pub job_begun : (shape : Shape) (v : FileVersion) (jobs later : List (List LaneView)) (lanes : List LaneView) → AreReached shape jobs → IsPath v.path → length v.file ≤ file_limit → v.user.0 < 2 ^ 32 → v.number.0 < 2 ^ 64
    → lanes ≡ lanes_begun shape v → later ≡ jobs ++ lanes ∷ [] → AreReached shape later
job_begun shape v jobs later lanes are named few user number made put =
    subst (AreReached shape) (sym put) (All-append (IsReached shape) jobs (lanes ∷ []) are (All-cons (IsReached shape) lanes [] (subst (IsReached shape) (sym made) (Begun v named few user number)) (All-nil (IsReached shape))))
