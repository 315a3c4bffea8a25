-- The jobs of a session by their numbers, as lists of lanes.
use Rattle.std.specs.Prelude.{ℕ, ◌-◌, List, [], All, slice_index_or, slice_set}
use Rattle.lane_steps.specs.CdBase.shape.Shape.{Shape}
use Rattle.lane_steps.specs.UploadJob.Lanes.{LaneView}
use Rattle.lane_steps.specs.Reached.{IsReached}

-- the lanes of the job of this number, counted from 1
abbrev pub job_lanes : List (List LaneView) → ℕ → List LaneView
job_lanes jobs job = slice_index_or jobs (job - 1) []

-- the jobs, that of this number with other lanes
abbrev pub with_job : List (List LaneView) → ℕ → List LaneView → List (List LaneView)
with_job jobs job lanes = slice_set jobs (job - 1) lanes

-- each job is one that took replies, in a store of this shape
abbrev pub AreReached : Shape → List (List LaneView) → Type 0
AreReached shape jobs = All (IsReached shape) jobs
