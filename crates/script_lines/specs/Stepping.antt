-- What one line says of what came of it.
use Rattle.std.specs.Prelude.{◌≡◌, ℕ, Bool, List, [], ◌∷◌, Option, Some, None, Result, Ok, Err, if◌then◌else◌}
use Rattle.session_model.specs.CommitJournal.errors.OpenErr.{OpenErr}
use Rattle.session_model.specs.CommitJournal.errors.OpenErr.TheVariants as errors
use Rattle.session_model.specs.ShareServer.Refusals.{IsNamedDamage}
use Rattle.session_model.specs.UploadJob.news.LaneNews.{LaneNews}
use Rattle.session_jobs.specs.LaneSteps.error.StepErr.{StepErr}
use Rattle.session_jobs.specs.LaneSteps.error.StepErr.TheVariants as step_errors
use Rattle.session_model.specs.Transcript.line.Line.{Line}
use Rattle.session_model.specs.Transcript.line.Line.TheVariants as lines
use Rattle.session_model.specs.Transcript.news.News.TheVariants as news
use Rattle.session_model.specs.Steps.{cloud_no, step_line, no_step}

-- the line of a job that is stored
abbrev pub stored_if : ℕ → Bool → List Line
stored_if job stored = if stored then lines.JobStored job ∷ [] else []

-- the lines of a step that came to this, and where it made the job a stored one the line of that
abbrev pub step_lines : ℕ → ℕ → Result (Option LaneNews) StepErr → Bool → List Line
step_lines job cloud (Ok None) stored = no_step job cloud
step_lines job cloud (Ok (Some told)) stored = step_line job cloud told ∷ stored_if job stored
step_lines job cloud (Err step_errors.Lost) stored = lines.Lost job (cloud_no cloud) ∷ []
step_lines job cloud (Err (step_errors.Strange kind)) stored =
    lines.Step job (cloud_no cloud) (news.Strange kind) ∷ []
step_lines job cloud (Err step_errors.NoMemory) stored = []

-- the step didn't end for want of memory
abbrev pub IsTold : Result (Option LaneNews) StepErr → Type 0
IsTold (Err step_errors.NoMemory) = ⊥
IsTold came = Unit {0}

-- the line of an opening that ended so
abbrev pub IsOpeningLine : ℕ → Result ℕ OpenErr → Line → Type 0
IsOpeningLine cloud (Ok commands) line = line ≡ lines.Restarted (cloud_no cloud) commands
IsOpeningLine cloud (Err errors.Fault) line = line ≡ lines.Fault (cloud_no cloud)
IsOpeningLine cloud (Err error) line =
    (at : ℕ) × (byte : ℕ) × (line ≡ lines.Damaged (cloud_no cloud) at byte) × IsNamedDamage error at byte
