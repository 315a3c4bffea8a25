-- The lanes to which a job comes: those of some version of a file, and then one reply after the other.
use Rattle.std.specs.Prelude.{ℕ, ◌<◌, ◌≤◌, ◌^◌, List, length, Result}
use Rattle.grammar.specs.CdBase.Limits.{IsPath}
use Rattle.grammar.specs.CdBase.shape.Shape.{Shape}
use Rattle.upload_job.specs.Recipe.Spelling.{file_limit}
use Rattle.upload_job.specs.declared.news.LaneNews.{LaneNews}
use Rattle.upload_job.specs.declared.news.LaneErr.{LaneErr}
use Rattle.upload_job.specs.Upload.{FileVersion}
use Rattle.upload_job.specs.Lanes.{LaneView, lanes_begun, lane_begun, AnswersAt}

-- The lanes are those of a job that was made of a version of a file and then took some contents as replies, whatever they are.
pub data IsReached (shape : Shape) : List LaneView → Type 0 where
  Begun : (v : FileVersion) → IsPath v.path → length v.file ≤ file_limit → v.user.0 < 2 ^ 32 → v.number.0 < 2 ^ 64
      → IsReached shape (lanes_begun shape v)
  Answered : (old new : List LaneView) (lane : ℕ) (content : List ℕ) (result : Result LaneNews LaneErr) → IsReached shape old
      → AnswersAt old lane content result new
      → IsReached shape new

-- The same of a job that was made for one cloud alone.
pub data IsReachedAlone (shape : Shape) : List LaneView → Type 0 where
  BegunAlone : (v : FileVersion) (cloud : ℕ) → IsPath v.path → length v.file ≤ file_limit → v.user.0 < 2 ^ 32 → v.number.0 < 2 ^ 64
      → IsReachedAlone shape (lane_begun shape v cloud)
  AnsweredAlone : (old new : List LaneView) (lane : ℕ) (content : List ℕ) (result : Result LaneNews LaneErr) → IsReachedAlone shape old
      → AnswersAt old lane content result new
      → IsReachedAlone shape new

-- The lanes are those of a job for all clouds, or for one alone.
pub data IsOnItsWay (shape : Shape) (lanes : List LaneView) : Type 0 where
  ForAll : IsReached shape lanes → IsOnItsWay shape lanes
  ForOne : IsReachedAlone shape lanes → IsOnItsWay shape lanes
