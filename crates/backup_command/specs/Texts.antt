-- The lines of a backup. Its one job is the first.
use Rattle.std.specs.Prelude.{ℕ, Bool, true, false, List, [], ◌∷◌, ◌++◌, map, Result, Err, if◌then◌else◌}
use Rattle.std.specs.List.{flat_map}
use Rattle.transcript.specs.CdBase.ids.CloudNo.{CloudNo}
use Rattle.lane_steps.specs.UploadJob.news.LaneNews.{LaneNews}
use Rattle.lane_steps.specs.UploadJob.news.LaneNews.TheVariants as told
use Rattle.lane_steps.specs.declared.error.StepErr.{StepErr}
use Rattle.lane_steps.specs.declared.error.StepErr.TheVariants as errors
use Rattle.transcript.specs.declared.line.Line.{Line}
use Rattle.transcript.specs.declared.line.Line.TheVariants as lines
use Rattle.transcript.specs.declared.news.News.{News}
use Rattle.transcript.specs.declared.news.News.TheVariants as news
use Rattle.transcript.specs.Transcript.{line_text}

-- the text of lines, one after another
abbrev pub text_of : List Line → List ℕ
text_of all = flat_map line_text all

abbrev pub cloud_no : ℕ → CloudNo
cloud_no cloud = record { 0 = cloud }

-- what a reply tells, as a line says it
abbrev pub as_told : LaneNews → News
as_told (told.Known known asked) = news.Known known asked
as_told (told.Stored new sent) = news.Stored new sent
as_told told.Committed = news.Committed
as_told told.Exists = news.Exists
as_told (told.Lacking place) = news.Lacking place
as_told (told.Full room used need limit) = news.Full room used need limit
as_told told.Fault = news.Fault
as_told (told.Damaged at byte) = news.Damaged at byte
as_told (told.Rotten named found) = news.Rotten named found
as_told told.NoMemory = news.NoMemory

abbrev pub step_line : ℕ → LaneNews → Line
step_line cloud it = lines.Step 1 (cloud_no cloud) (as_told it)

-- the lines of a lane: what each reply told, and behind them that one was strange, where one was
abbrev pub lane_lines : ℕ → Result (Unit {0}) StepErr → List LaneNews → List Line
lane_lines cloud (Err (errors.Strange kind)) all =
    map (step_line cloud) all ++ lines.Step 1 (cloud_no cloud) (news.Strange kind) ∷ []
lane_lines cloud came all = map (step_line cloud) all

-- the last lines
abbrev pub end_lines : Bool → List Line
end_lines stored = if stored then lines.JobStored 1 ∷ lines.End 1 true ∷ [] else lines.End 1 false ∷ []

-- all lines, by those of the lanes, and whether the version is entered at all clouds
abbrev pub due_lines : List Line → Bool → List Line
due_lines steps stored = lines.Job 1 ∷ (steps ++ end_lines stored)
