-- Two worlds: a session of all users, and the session that one user would have alone.
use Rattle.std.specs.Prelude.{◌≡◌, ◌≢◌, ℕ, zero, suc, ◌+◌, ◌-◌, ◌<◌, ◌==◌, Bool, true, false, ◌||◌, IsTrue, List, [], ◌∷◌, ◌++◌, length, map, filter, take, IsSomeAnd, None, ◌⊎◌, if◌then◌else◌}
use Rattle.std.specs.List.{Contains}
use Rattle.recipe.specs.CdBase.ids.UserId.{UserId}
use Rattle.recipe.specs.CdBase.shape.Shape.{Shape}
use Rattle.session_model.specs.CdEdges.Causes.{Rose}
use Rattle.session_model.specs.CdEdges.Disk.{Cloud}
use Rattle.session_model.specs.UserDedup.Cloud.{fingerprint}
use Rattle.session_model.specs.Messages.request.Request.{Request}
use Rattle.session_model.specs.Messages.request.Request.TheVariants as requests
use Rattle.session_model.specs.UploadJob.Upload.{FileVersion}
use Rattle.session_model.specs.Session.event.Event.{Event}
use Rattle.session_model.specs.Session.event.Event.TheVariants as events
use Rattle.session_model.specs.Transcript.line.Line.{Line}
use Rattle.session_model.specs.Transcript.line.Line.TheVariants as lines
use Rattle.session_model.specs.Steps.{Moment}
use Rattle.session_model.specs.Run.{Answered}
use Rattle.session_model.specs.Kept.{upload_of, IsDispersed}
use Rattle.session_model.specs.Headline.{Session, IsRun, script_in, moments_in}

-- ---- jobs

abbrev pub is_version_of : UserId → FileVersion → Bool
is_version_of user v = v.user.0 == user.0

-- the versions that the user brings, of those of some jobs in order
abbrev pub own_versions : UserId → List FileVersion → List FileVersion
own_versions user before = filter (is_version_of user) before

-- the job at this place, counted from 0, is the user's
abbrev pub is_own_place : UserId → List FileVersion → ℕ → Bool
is_own_place user [] place = false
is_own_place user (v ∷ vs) zero = is_version_of user v
is_own_place user (v ∷ vs) (suc place) = is_own_place user vs place

-- how many of the user's jobs are in front of this place
abbrev pub own_place : UserId → List FileVersion → ℕ → ℕ
own_place user before place = length (own_versions user (take place before))

-- jobs are numbered from 1
abbrev pub is_own_job : UserId → List FileVersion → ℕ → Bool
is_own_job user before job = is_own_place user before (job - 1)

-- the number of a job among the user's
abbrev pub own_job : UserId → List FileVersion → ℕ → ℕ
own_job user before job = own_place user before (job - 1) + 1

-- ---- a user's lines, behind the uploads of these versions

-- the line names the user, or a job of the user's
abbrev pub is_own : UserId → List FileVersion → Event → Bool
is_own user before (events.Upload u path version bytes) = u.0 == user.0
is_own user before (events.Step job lane) = is_own_job user before job
is_own user before (events.Lose job lane) = is_own_job user before job
is_own user before (events.Drop job lane) = is_own_job user before job
is_own user before (events.Finish job) = is_own_job user before job
is_own user before (events.Get u path version clouds) = u.0 == user.0
is_own user before (events.List u cloud) = u.0 == user.0
is_own user before (events.Arm cloud calls keep) = false
is_own user before (events.Restart cloud) = false
is_own user before (events.Replace cloud) = false
is_own user before (events.Rebuild u target from) = u.0 == user.0
is_own user before (events.Delete u path version cloud) = u.0 == user.0

-- the line names no user and no job
abbrev pub names_none : Event → Bool
names_none (events.Upload u path version bytes) = false
names_none (events.Step job lane) = false
names_none (events.Lose job lane) = false
names_none (events.Drop job lane) = false
names_none (events.Finish job) = false
names_none (events.Get u path version clouds) = false
names_none (events.List u cloud) = false
names_none (events.Arm cloud calls keep) = true
names_none (events.Restart cloud) = true
names_none (events.Replace cloud) = true
names_none (events.Rebuild u target from) = false
names_none (events.Delete u path version cloud) = false

abbrev pub is_arm : Event → Bool
is_arm (events.Arm cloud calls keep) = true
is_arm event = false

-- the line, its job numbered anew
abbrev pub own_event : UserId → List FileVersion → Event → Event
own_event user before (events.Upload u path version bytes) = events.Upload u path version bytes
own_event user before (events.Step job lane) = events.Step (own_job user before job) lane
own_event user before (events.Lose job lane) = events.Lose (own_job user before job) lane
own_event user before (events.Drop job lane) = events.Drop (own_job user before job) lane
own_event user before (events.Finish job) = events.Finish (own_job user before job)
own_event user before (events.Get u path version clouds) = events.Get u path version clouds
own_event user before (events.List u cloud) = events.List u cloud
own_event user before (events.Arm cloud calls keep) = events.Arm cloud calls keep
own_event user before (events.Restart cloud) = events.Restart cloud
own_event user before (events.Replace cloud) = events.Replace cloud
own_event user before (events.Rebuild u target from) = events.Rebuild u target from
own_event user before (events.Delete u path version cloud) = events.Delete u path version cloud

-- The user's lines of a script, and those that name no user and no job, in order; the jobs are numbered anew among the user's.
abbrev pub mine_from : UserId → List FileVersion → List Event → List Event
mine_from user before [] = []
mine_from user before (event ∷ script) =
    (if is_own user before event || names_none event then own_event user before event ∷ [] else [])
    ++ mine_from user (before ++ upload_of event) script

abbrev pub mine : UserId → List Event → List Event
mine user script = mine_from user [] script

-- ---- the answers to them

-- the answer, its job numbered anew
abbrev pub own_line : UserId → List FileVersion → Line → Line
own_line user before (lines.Opened shape) = lines.Opened shape
own_line user before (lines.Done count) = lines.Done count
own_line user before (lines.Job job) = lines.Job (own_job user before job)
own_line user before (lines.Step job lane news) = lines.Step (own_job user before job) lane news
own_line user before (lines.JobStored job) = lines.JobStored (own_job user before job)
own_line user before (lines.Lost job lane) = lines.Lost (own_job user before job) lane
own_line user before (lines.End job stored) = lines.End (own_job user before job) stored
own_line user before (lines.Got bytes) = lines.Got bytes
own_line user before (lines.Refused why) = lines.Refused why
own_line user before (lines.Entries u cloud count) = lines.Entries u cloud count
own_line user before (lines.Entry tag version) = lines.Entry tag version
own_line user before (lines.Armed cloud) = lines.Armed cloud
own_line user before (lines.Restarted cloud commands) = lines.Restarted cloud commands
own_line user before (lines.Replaced cloud) = lines.Replaced cloud
own_line user before (lines.Fault cloud) = lines.Fault cloud
own_line user before (lines.Damaged cloud at byte) = lines.Damaged cloud at byte
own_line user before (lines.Rebuilt u cloud files skipped) = lines.Rebuilt u cloud files skipped
own_line user before (lines.Skipped tag version why) = lines.Skipped tag version why
own_line user before (lines.Deleted cloud) = lines.Deleted cloud
own_line user before (lines.Missing cloud) = lines.Missing cloud
own_line user before (lines.Full cloud room used need limit) = lines.Full cloud room used need limit
own_line user before (lines.Rotten cloud named found) = lines.Rotten cloud named found
own_line user before (lines.NoMemory cloud) = lines.NoMemory cloud
own_line user before (lines.Strange cloud kind) = lines.Strange cloud kind

-- the answers to the user's own lines, with the numbers that the jobs have among the user's
abbrev pub answers_from : UserId → List FileVersion → List Answered → List Line
answers_from user before [] = []
answers_from user before (a ∷ more) =
    (if is_own user before a.event then map (own_line user before) a.answers else [])
    ++ answers_from user (before ++ upload_of a.event) more

abbrev pub answers_to : UserId → Session → List Line
answers_to user run = answers_from user [] run.history

-- ---- premises

-- the strings that a request brings
abbrev pub sent_strings : Request → List (List ℕ)
sent_strings requests.Hello = []
sent_strings (requests.Query user fps) = []
sent_strings (requests.Put user shares) = shares
sent_strings (requests.Commit user tag version recipe) = []
sent_strings (requests.GetRecipe user tag version) = []
sent_strings (requests.GetShares user fps) = []
sent_strings (requests.List user after) = []
sent_strings (requests.Delete user tag version) = []

-- the cloud was asked to keep the string at one of these moments
abbrev pub IsSentAt : List Moment → ℕ → List ℕ → Type 0
IsSentAt moments cloud string =
    (m : Moment) × Contains moments m
    × IsSomeAnd m.event (λ e. (e.cloud ≡ cloud) × Contains (sent_strings e.request) string)

-- the string is dispersed to the cloud, or the cloud was asked to keep it, whatever it answered
abbrev pub IsAskedFor : Session → ℕ → List ℕ → Type 0
IsAskedFor run cloud string =
    IsDispersed run.setting.shape (script_in run) (moments_in run) run.last cloud string
    ⊎ IsSentAt (moments_in run) cloud string

-- Two different such strings of one cloud share a SHA-256.
pub record ClashAsked (run : Session) : Type 0 where
  pub cloud : ℕ
  pub below : cloud < run.setting.shape.n
  pub one : List ℕ
  pub other : List ℕ
  pub first : IsAskedFor run cloud one
  pub second : IsAskedFor run cloud other
  pub different : one ≢ other
  pub same : fingerprint one ≡ fingerprint other

-- A run that ends by its end, over told clouds none of whose counts of faults rose.
pub record RanCalmly (clouds : ℕ → Cloud) (run : Session) : Type 0 where
  pub is : IsRun clouds run
  pub whole : run.begun ≡ None
  pub told : (cloud : ℕ) → cloud < run.setting.shape.n → IsTrue (run.setting.told cloud)
  pub still : (cloud : ℕ) → cloud < run.setting.shape.n → ¬ Rose (clouds cloud).faults (run.last cloud).faults

-- no line arms a cloud
abbrev pub ArmsNone : Session → Type 0
ArmsNone run = (event : Event) → Contains (script_in run) event → is_arm event ≡ false

-- The premises on a session of all users.
pub record IsCalm (clouds : ℕ → Cloud) (run : Session) : Type 0 where
  pub ran : RanCalmly clouds run
  pub arms : ArmsNone run
  pub clash : ¬ ClashAsked run

-- No cloud's count of faults stands at its last value, where it would count as risen whatever happens.
abbrev pub MayStand : Shape → (ℕ → Cloud) → Type 0
MayStand shape clouds = (cloud : ℕ) → cloud < shape.n → ¬ Rose (clouds cloud).faults (clouds cloud).faults

-- A user's own session, over some clouds: in the same shape and rooms, of the user's lines and those that name no user.
pub record IsOwnSession (user : UserId) (clouds : ℕ → Cloud) (run own : Session) : Type 0 where
  pub ran : RanCalmly clouds own
  pub shape : own.setting.shape ≡ run.setting.shape
  pub rooms : own.setting.rooms ≡ run.setting.rooms
  pub opened : own.opened ≡ run.opened
  pub script : script_in own ≡ mine user (script_in run)

-- ---- what is promised

-- Over these clouds a user has an own session; each one has the same history; and it answers the user's own lines as the
-- session of all users does.
pub record HasOwnWorld (user : UserId) (clouds : ℕ → Cloud) (run : Session) : Type 0 where
  pub own : Session
  pub is : IsOwnSession user clouds run own
  pub one : (other : Session) → IsOwnSession user clouds run other → other.history ≡ own.history
  pub answers : answers_to user own ≡ answers_to user run

-- So over the clouds of the session itself, as they were at its start, and over any others, however often these failed before.
abbrev pub TwoWorlds : (ℕ → Cloud) → Session → Type 0
TwoWorlds clouds run =
    IsCalm clouds run → (user : UserId)
    → HasOwnWorld user clouds run
    × ((others : ℕ → Cloud) → MayStand run.setting.shape others → HasOwnWorld user others run)

-- Two sessions of one shape and rooms in which a user has the same lines answer them alike, whatever the lines of all other
-- users are.
abbrev pub Alike : (ℕ → Cloud) → Session → (ℕ → Cloud) → Session → Type 0
Alike clouds_one one clouds_two two =
    IsCalm clouds_one one → IsCalm clouds_two two
    → one.setting.shape ≡ two.setting.shape → one.setting.rooms ≡ two.setting.rooms → one.opened ≡ two.opened
    → (user : UserId) → mine user (script_in one) ≡ mine user (script_in two)
    → answers_to user one ≡ answers_to user two
