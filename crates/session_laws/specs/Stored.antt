-- A finish that nothing hinders stores its job's version.
use Rattle.std.specs.Prelude.{◌≡◌, ◌≢◌, ℕ, ◌<◌, IsTrue, true, List, ◌∷◌, ◌++◌}
use Rattle.std.specs.List.{Contains}
use Rattle.session_model.specs.CdEdges.Causes.{Rose}
use Rattle.lane_steps.specs.UploadJob.Lane.{Refused}
use Rattle.lane_steps.specs.UploadJob.Lanes.{LaneView}
use Rattle.session_model.specs.Session.event.Event.TheVariants as events
use Rattle.session_model.specs.Transcript.line.Line.{Line}
use Rattle.session_model.specs.Transcript.line.Line.TheVariants as lines
use Rattle.session_model.specs.Transcript.news.News.TheVariants as news
use Rattle.session_model.specs.Vault.{Setting, lanes_of}
use Rattle.session_model.specs.Run.{Answered}
use Rattle.session_model.specs.Headline.{Session}

-- the line says that a cloud refused the version: it has another one there, or a room of the user's is full
abbrev pub SaysRefused : Line → Type 0
SaysRefused (lines.Step job cloud news.Exists) = Unit {0}
SaysRefused (lines.Step job cloud (news.Full room used need limit)) = Unit {0}
SaysRefused line = ⊥

-- The store's clouds are told, no count of faults of theirs rises at this line, no lane of the job was refused before it, and no line of
-- its answer says that one is.
pub record IsUnhindered (s : Setting) (job : ℕ) (a : Answered) : Type 0 where
  pub told : (cloud : ℕ) → cloud < s.shape.n → IsTrue (s.told cloud)
  pub still : (cloud : ℕ) → cloud < s.shape.n → ¬ Rose (a.before.peers cloud).faults (a.after.peers cloud).faults
  pub going : (lane : LaneView) → Contains (lanes_of a.before.jobs job) lane → lane.state ≢ Refused
  pub free : (line : Line) → Contains a.answers line → ¬ SaysRefused line

-- Each finish that nothing hinders ends with the answer that the version is stored.
abbrev pub StoresAll : Session → Type 0
StoresAll run =
    (earlier later : List Answered) (a : Answered) (job : ℕ)
    → run.history ≡ earlier ++ a ∷ later → a.event ≡ events.Finish job → IsUnhindered run.setting job a
    → Contains a.answers (lines.End job true)
