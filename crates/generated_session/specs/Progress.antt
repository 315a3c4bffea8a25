-- How far a generated session has come behind its openings, and where want of memory stopped it.
use Rattle.std.specs.Prelude.{◌≡◌, ◌⊎◌, ℕ, ◌+◌, ◌*◌, ◌^◌, ◌<◌, ◌≤◌, Bool, List, [], ◌∷◌, ◌++◌, length, sum_by, None, IsSome, Result, Ok, Err, if◌then◌else◌}
use Rattle.std.specs.List.{Contains}
use Rattle.lane_steps.specs.CdBase.Limits.{file_limit}
use Rattle.lane_steps.specs.CdEdges.Disk.{Cloud}
use Rattle.lane_steps.specs.UploadJob.Upload.{FileVersion}
use Rattle.lane_steps.specs.UploadJob.Lanes.{LaneView}
use Rattle.lane_steps.specs.UploadJob.news.LaneNews.{LaneNews}
use Rattle.lane_steps.specs.UploadJob.news.LaneNews.TheVariants as news
use Rattle.subset_restore.specs.RestoreJob.error.RestoreErr.{RestoreErr}
use Rattle.replay_core.specs.LocalLink.link.LocalLink.{LocalLink}
use Rattle.replay_core.specs.Session.Spelling.{IsJob}
use Rattle.replay_core.specs.Session.event.Event.{Event}
use Rattle.subset_restore.specs.Transcript.line.Line.{Line}
use Rattle.replay_core.specs.SessionModel.Vault.{Setting, Vault}
use Rattle.subset_restore.specs.Refusals.{refusal_of}
use Rattle.replay_core.specs.SessionModel.Steps.{Moment, FinishLanes}
use Rattle.replay_core.specs.SessionModel.Run.{script_of}
use Rattle.replay_core.specs.ScriptLines.At.{IsAtVault, KeepsOtherClouds}
use Rattle.replay_core.specs.ScriptLines.Does.{Images, IsLineCut}
use Rattle.replay_core.specs.ScriptLines.Finishing.{FinishedPart}
use Rattle.replay_core.specs.ScriptLines.Jobs.{job_lanes}
use Rattle.replay_core.specs.Opening.{before_first}
use Rattle.replay_core.specs.Going.{ReplayStart, HasCome, CanBe}
use Rattle.generated_session.specs.declared.numbers.Numbers.{Numbers}
use Rattle.generated_session.specs.Numbers.{HasNumbers, stored_in, sent_in, known_in}

-- ---- what is added to the numbers

-- so many shares were sent, and known, by the news of a lane
abbrev pub sent_by : LaneNews → ℕ
sent_by (news.Stored new sent) = sent
sent_by told = 0

abbrev pub known_by : LaneNews → ℕ
known_by (news.Known known asked) = known
known_by told = 0

-- no numbers yet
abbrev pub no_numbers : Numbers
no_numbers = record { bytes = 0; stored = 0; sent = 0; known = 0; equal = 0 }

-- There is room for what so many lanes add.
pub record HasRoom (lanes : ℕ) (n : Numbers) : Type 0 where
  pub stored : n.stored + lanes < 2 ^ 64
  pub sent : n.sent + lanes * 2 ^ 80 < 2 ^ 128
  pub known : n.known + lanes * 2 ^ 80 < 2 ^ 128

-- So many lanes added no more than they can.
pub record GrowsByLanes (lanes : ℕ) (n m : Numbers) : Type 0 where
  pub stored : m.stored ≤ n.stored + lanes
  pub sent : m.sent ≤ n.sent + lanes * 2 ^ 80
  pub known : m.known ≤ n.known + lanes * 2 ^ 80
  pub bytes : m.bytes ≡ n.bytes
  pub equal : m.equal ≡ n.equal

-- So many files added no more than they can.
pub record AreWithin (files : ℕ) (n : Numbers) : Type 0 where
  pub bytes : n.bytes ≤ files * file_limit
  pub stored : n.stored ≤ files * 256
  pub sent : n.sent ≤ files * 2 ^ 88
  pub known : n.known ≤ files * 2 ^ 88

-- just these answers were added
pub record HasAddedAnswers (answers : List Line) (n m : Numbers) : Type 0 where
  pub bytes : m.bytes ≡ n.bytes
  pub stored : m.stored ≡ n.stored + sum_by stored_in answers
  pub sent : m.sent ≡ n.sent + sum_by sent_in answers
  pub known : m.known ≡ n.known + sum_by known_in answers
  pub equal : m.equal ≡ n.equal

-- A get was counted, of which it is known whether it gave the file that was made. Want of memory isn't counted.
abbrev pub CountsGot : Result (Unit {0}) RestoreErr → Bool → Numbers → Numbers → Type 0
CountsGot (Ok u) same n m = m ≡ record n { equal = n.equal + (if same then 1 else 0) }
CountsGot (Err e) same n m = IsSome (refusal_of e) × (m ≡ n)

-- ---- the lanes of a job

-- These lanes went on to their ends, and their answers were counted.
pub record Brings {V : Type 0} (clouds : V → ℕ → Cloud) (s : Setting) (job : ℕ) (lanes : List ℕ) (old new : LocalLink V)
    (jobs : List (List LaneView)) (v : Vault) (n m : Numbers) : Type 0 where
  pub answers : List Line
  pub moments : List Moment
  pub after : Vault
  pub lanes_run : FinishLanes s job lanes v answers moments after
  pub is_at : IsAtVault clouds s new jobs after
  pub images : Images clouds s old new moments after.peers
  pub adds : HasAddedAnswers answers n m

-- Of each setting, vault and number at which the link and the job are: so it was, and the job has these lanes now.
abbrev pub BringsLanes : {V : Type 0} → (V → ℕ → Cloud) → (Setting → List ℕ) → LocalLink V → List LaneView → LocalLink V
    → List LaneView → Numbers → Numbers → Type 0
BringsLanes clouds lanes old views new views_now n m =
    (s : Setting) (v : Vault) (jobs : List (List LaneView)) (job : ℕ) → IsAtVault clouds s old jobs v → IsJob (length jobs) job
    → job_lanes jobs job ≡ views
    → (later : List (List LaneView)) × (length later ≡ length jobs) × (job_lanes later job ≡ views_now)
    × Brings clouds s job (lanes s) old new later v n m

-- Of each of those: want of memory cut it.
abbrev pub CutsJob : {V : Type 0} → (V → ℕ → Cloud) → (Setting → List ℕ) → LocalLink V → List LaneView → LocalLink V → Type 0
CutsJob clouds lanes old views new =
    (s : Setting) (v : Vault) (jobs : List (List LaneView)) (job : ℕ) → IsAtVault clouds s old jobs v → IsJob (length jobs) job
    → job_lanes jobs job ≡ views → FinishedPart clouds s job (lanes s) old new v

-- ---- the lines

-- what is known as a session begins: its clouds alone
abbrev pub start_of : (ℕ → Cloud) → ReplayStart
start_of old = record { script = None; old = old; source = 0; sink = 0; total = 0; written = None }

-- So many lines were answered, and these are the jobs.
abbrev pub HasAnswered : {V : Type 0} → (V → ℕ → Cloud) → (ℕ → Cloud) → Setting → LocalLink V → List (List LaneView) → ℕ
    → Type 0
HasAnswered clouds old s link jobs lines = HasCome clouds (start_of old) s link jobs before_first None 0 None 0 lines

-- These lines were answered, in which so many jobs were begun, and these are their numbers, where these files were to be
-- uploaded.
pub record HasMade {V : Type 0} (clouds : V → ℕ → Cloud) (old : ℕ → Cloud) (s : Setting) (link : LocalLink V)
    (files : List FileVersion) (script : List Event) (count : ℕ) (n : Numbers) : Type 0 where
  pub jobs : List (List LaneView)
  pub lines : ℕ
  pub come : HasAnswered clouds old s link jobs lines
  pub script_is : script_of come.history ≡ script
  pub count_is : length jobs ≡ count
  pub numbers : HasNumbers files come.history n

-- The last job has these lanes.
pub record HasLastJob {V : Type 0} (clouds : V → ℕ → Cloud) (old : ℕ → Cloud) (s : Setting) (link : LocalLink V)
    (files : List FileVersion) (script : List Event) (count : ℕ) (n : Numbers) (views : List LaneView) : Type 0 where
  pub some : 1 ≤ count
  pub made : HasMade clouds old s link files script count n
  pub views_are : job_lanes made.jobs count ≡ views

-- Of these files one is this, and each that has its number is the same.
pub record IsFileOf (files : List FileVersion) (v : FileVersion) : Type 0 where
  pub here : Contains files v
  pub same : (other : FileVersion) → Contains files other → other.number ≡ v.number → other.file ≡ v.file

-- It stopped between two of these lines.
pub record IsPaused {V : Type 0} (clouds : V → ℕ → Cloud) (old : ℕ → Cloud) (s : Setting) (link : LocalLink V)
    (script : List Event) : Type 0 where
  pub jobs : List (List LaneView)
  pub lines : ℕ
  pub come : HasAnswered clouds old s link jobs lines
  pub rest : List Event
  pub script_is : script_of come.history ++ rest ≡ script

-- It stopped within one of them.
pub record IsBroken {V : Type 0} (clouds : V → ℕ → Cloud) (old : ℕ → Cloud) (s : Setting) (link : LocalLink V)
    (script : List Event) : Type 0 where
  pub before : LocalLink V
  pub jobs : List (List LaneView)
  pub lines : ℕ
  pub come : HasAnswered clouds old s before jobs lines
  pub event : Event
  pub rest : List Event
  pub script_is : script_of come.history ++ event ∷ rest ≡ script
  pub can : CanBe s.shape (length jobs) event
  pub leaves : KeepsOtherClouds clouds before link
  pub cut : IsLineCut clouds s event before link come.at

abbrev pub IsStopped : {V : Type 0} → (V → ℕ → Cloud) → (ℕ → Cloud) → Setting → LocalLink V → List Event → Type 0
IsStopped clouds old s link script = IsPaused clouds old s link script ⊎ IsBroken clouds old s link script

-- Of each session whose lines so far these are: these lines more were answered.
abbrev pub Makes : {V : Type 0} → (V → ℕ → Cloud) → List FileVersion → List Event → ℕ → ℕ → LocalLink V → LocalLink V
    → Numbers → Numbers → Type 0
Makes clouds files part count later old new n m =
    (begun : ℕ → Cloud) (s : Setting) (script : List Event) → HasMade clouds begun s old files script count n
    → HasMade clouds begun s new files (script ++ part) later m

-- Of each of those: it stopped within these lines.
abbrev pub StopsWithin : {V : Type 0} → (V → ℕ → Cloud) → List FileVersion → List Event → ℕ → LocalLink V → LocalLink V
    → Numbers → Type 0
StopsWithin clouds files part count old new n =
    (begun : ℕ → Cloud) (s : Setting) (script : List Event) → HasMade clouds begun s old files script count n
    → IsStopped clouds begun s new (script ++ part)
