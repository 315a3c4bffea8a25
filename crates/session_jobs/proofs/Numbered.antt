-- A job of a list, by its number.
use Rattle.std.proofs.Common.{◌≡◌, ℕ, ◌-◌, ◌<◌, Bool, List, [], length, sym, ap, ◌∙◌, subst, arith}
use Rattle.std.specs.Prelude.{◌↔◌, IsTrue, All, slice_index_or}
use Rattle.std.proofs.lemmas.List.{get_or_default}
use Rattle.lane_steps.specs.UploadJob.Lane.{Done}
use Rattle.lane_steps.specs.UploadJob.Lanes.{LaneView}
use Rattle.session.specs.Spelling.{IsJob}
use Rattle.session_jobs.specs.Jobs.{job_lanes}

pub place_in : (jobs : List (List LaneView)) (job : ℕ) → IsJob (length jobs) job → job - 1 < length jobs
place_in jobs job is = let one = is.0 in let last = is.1 in omega arith

-- what holds of the lanes at its place holds of the job's lanes
pub stored_at : (jobs inside : List (List LaneView)) (job : ℕ) (lanes : List LaneView) (b : Bool) → inside ≡ jobs → lanes ≡ slice_index_or inside (job - 1) lanes → IsJob (length jobs) job
    → IsTrue b ↔ All (λ (lane : LaneView). lane.state ≡ Done) lanes → IsTrue b ↔ All (λ (lane : LaneView). lane.state ≡ Done) (job_lanes jobs job)
stored_at jobs inside job lanes b view is number both =
    let lt = subst (λ (l : List (List LaneView)). job - 1 < length l) (sym view) (place_in jobs job number) in
    subst (λ (l : List LaneView). IsTrue b ↔ All (λ (lane : LaneView). lane.state ≡ Done) l)
    (is ∙ get_or_default inside (job - 1) lanes [] lt ∙ ap (λ (l : List (List LaneView)). slice_index_or l (job - 1) []) view) both
