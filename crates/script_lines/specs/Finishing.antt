-- The lanes of a finish, one after another.
use Rattle.std.specs.Prelude.{◌≡◌, ℕ, Bool, List, [], ◌∷◌, ◌++◌, map, Result, Ok, Err}
use Rattle.session_model.specs.CdEdges.Disk.{Cloud}
use Rattle.session_model.specs.UserDedup.Exec.{Peer}
use Rattle.session_model.specs.UploadJob.news.LaneNews.{LaneNews}
use Rattle.session_model.specs.UploadJob.Lanes.{LaneView}
use Rattle.session_jobs.specs.LaneSteps.error.StepErr.{StepErr}
use Rattle.session_jobs.specs.LaneSteps.error.StepErr.TheVariants as step_errors
use Rattle.session_model.specs.LocalLink.link.LocalLink.{LocalLink}
use Rattle.session_model.specs.Transcript.line.Line.{Line}
use Rattle.session_model.specs.Transcript.line.Line.TheVariants as lines
use Rattle.session_model.specs.Transcript.news.News.TheVariants as news
use Rattle.session_model.specs.Vault.{Setting, Vault}
use Rattle.session_model.specs.Steps.{Moment, cloud_no, step_line, FinishLanes}
use Rattle.session_model.specs.Cut.{FinishCut}
use Rattle.session_model.specs.Session.Texts.{text_of}
use Rattle.script_lines.specs.At.{IsAtVault}
use Rattle.script_lines.specs.Does.{Images, IsLeftByCut}
use Rattle.script_lines.specs.Stepping.{stored_if}

-- the lines of a lane that went on to its end, or until it made no step
abbrev pub lane_lines : ℕ → ℕ → Result (Unit {0}) StepErr → List LaneNews → Bool → List Line
lane_lines job cloud (Ok u) told stored = map (step_line job cloud) told ++ stored_if job stored
lane_lines job cloud (Err step_errors.Lost) told stored =
    map (step_line job cloud) told ++ lines.Lost job (cloud_no cloud) ∷ []
lane_lines job cloud (Err (step_errors.Strange kind)) told stored =
    map (step_line job cloud) told ++ lines.Step job (cloud_no cloud) (news.Strange kind) ∷ []
lane_lines job cloud (Err step_errors.NoMemory) told stored = []

-- it didn't stop for want of memory
abbrev pub IsBrought : Result (Unit {0}) StepErr → Type 0
IsBrought (Err step_errors.NoMemory) = ⊥
IsBrought came = Unit {0}

-- These lanes of the job went on to their ends, and their lines stand behind what was there.
pub record Finished {V : Type 0} (clouds : V → ℕ → Cloud) (s : Setting) (job : ℕ) (lanes : List ℕ)
    (old new : LocalLink V) (jobs : List (List LaneView)) (v : Vault) (before text : List ℕ) : Type 0 where
  pub answers : List Line
  pub moments : List Moment
  pub after : Vault
  pub lanes_run : FinishLanes s job lanes v answers moments after
  pub is_at : IsAtVault clouds s new jobs after
  pub text_is : text ≡ before ++ text_of answers
  pub images : Images clouds s old new moments after.peers

-- Some of them did, and the next one for a while.
pub record FinishedPart {V : Type 0} (clouds : V → ℕ → Cloud) (s : Setting) (job : ℕ) (lanes : List ℕ)
    (old new : LocalLink V) (v : Vault) : Type 0 where
  pub moments : List Moment
  pub last : ℕ → Peer
  pub cut : FinishCut s job lanes v moments last
  pub left : IsLeftByCut clouds s new last
  pub images : Images clouds s old new moments last

-- Of each setting and vault at which link and jobs are: so it was.
abbrev pub FinishesLanes : {V : Type 0} → (V → ℕ → Cloud) → ℕ → (Setting → List ℕ) → LocalLink V
    → List (List LaneView) → LocalLink V → List (List LaneView) → List ℕ → List ℕ → Type 0
FinishesLanes clouds job lanes old old_jobs new new_jobs before text =
    (s : Setting) (v : Vault) → IsAtVault clouds s old old_jobs v
    → Finished clouds s job (lanes s) old new new_jobs v before text

abbrev pub CutsLanes : {V : Type 0} → (V → ℕ → Cloud) → ℕ → (Setting → List ℕ) → LocalLink V → List (List LaneView)
    → LocalLink V → Type 0
CutsLanes clouds job lanes old old_jobs new =
    (s : Setting) (v : Vault) → IsAtVault clouds s old old_jobs v → FinishedPart clouds s job (lanes s) old new v
