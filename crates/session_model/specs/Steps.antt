-- What each line of a script does to a vault, and what is answered.
use Rattle.std.specs.Prelude.{◌≡◌, ◌⊎◌, ℕ, ◌+◌, ◌-◌, ◌<◌, Bool, true, false, not, ◌&&◌, IsTrue, List, [], ◌∷◌, ◌++◌, length, map, slice_get, Option, Some, None, IfErr, Result, Ok, Err, All, if◌then◌else◌}
use Rattle.std.specs.Bool.{MatchBool}
use Rattle.std.specs.List.{Contains, list_all, range_with_len}
use Rattle.session.specs.CdBase.ids.Tag.{Tag}
use Rattle.session.specs.CdBase.ids.Version.{Version}
use Rattle.session.specs.CdBase.ids.UserId.{UserId}
use Rattle.session.specs.CdBase.shape.Shape.{Shape}
use Rattle.session.specs.CdEdges.Causes.{Rose}
use Rattle.local_link.specs.CommitJournal.errors.OpenErr.{OpenErr}
use Rattle.local_link.specs.CommitJournal.errors.OpenErr.TheVariants as errors
use Rattle.rebuild.specs.MessageFields.Keys.{key_limit}
pub use Rattle.rebuild.specs.Found.{cloud_no}
use Rattle.rebuild.specs.Messages.request.Request.{Request}
use Rattle.rebuild.specs.Messages.request.Request.TheVariants as requests
use Rattle.rebuild.specs.Messages.reply.Reply.{Reply}
use Rattle.rebuild.specs.Messages.reply.Reply.TheVariants as replies
use Rattle.subset_restore.specs.UserDedup.Exec.{Peer, KeepsPeer, CountsOn}
use Rattle.subset_restore.specs.UserDedup.Link.{LinkTelling}
use Rattle.local_link.specs.ShareServer.Serving.{ReopensAs}
use Rattle.rebuild.specs.UploadJob.news.LaneNews.{LaneNews}
use Rattle.rebuild.specs.UploadJob.news.LaneNews.TheVariants as lane_news
use Rattle.rebuild.specs.UploadJob.Lane.{LaneState, Done, news_of}
use Rattle.rebuild.specs.UploadJob.Upload.{FileVersion}
use Rattle.rebuild.specs.UploadJob.Lanes.{LaneView, with_state}
use Rattle.rebuild.specs.UploadJob.Lanes as lanes
use Rattle.rebuild.specs.LaneSteps.Runs.{LaneTurn, Progress, starting, moved, LaneRun, Tell, lane_at}
use Rattle.subset_restore.specs.RestoreJob.error.RestoreErr.{RestoreErr}
use Rattle.subset_restore.specs.RestoreJob.Asking.{AreOnlyAsked, AreRead, is_lost}
use Rattle.subset_restore.specs.RestoreJob.Reading.{Ends}
use Rattle.subset_restore.specs.RestoreJob.Refusals.{Names, Causes}
use Rattle.subset_restore.specs.Subsets.{subsets}
use Rattle.subset_restore.specs.Ends.{Sought, outcome_of, any_outcome, JustRestores, GivesNone}
use Rattle.subset_restore.specs.Going.{sought}
use Rattle.subset_restore.specs.Refusals.{refusal_of}
use Rattle.rebuild.specs.KeptFiles.Kept.{key_of}
use Rattle.local_link.specs.Calls.{Armed}
use Rattle.rebuild.specs.declared.error.SkipWhy.{SkipWhy}
use Rattle.rebuild.specs.declared.error.SkipWhy.TheVariants as whys
use Rattle.rebuild.specs.declared.error.RebuildErr.{RebuildErr}
use Rattle.rebuild.specs.declared.error.RebuildErr.TheVariants as rebuild_errors
use Rattle.rebuild.specs.declared.skips.Skip.{Skip}
use Rattle.rebuild.specs.declared.skips.Rebuilt.{Rebuilt}
use Rattle.rebuild.specs.Rebuilding.{LeavesBut, RunsTo}
use Rattle.rebuild.specs.Over.{HandsOn}
use Rattle.rebuild.specs.Over as rebuilding
use Rattle.rebuild.specs.Turns.{EndsLane, OfReply, OwnLanes, SaidLast}
use Rattle.rebuild.specs.Kept.{Refills}
use Rattle.session.specs.declared.event.Event.{Event}
use Rattle.session.specs.declared.event.Event.TheVariants as events
use Rattle.session.specs.Transcript.news.News.{News}
use Rattle.session.specs.Transcript.news.News.TheVariants as news
use Rattle.session.specs.Transcript.refusal.Refusal.{Refusal}
use Rattle.session.specs.Transcript.refusal.Refusal.TheVariants as refusals
use Rattle.session.specs.Transcript.refusal.TargetWhy.TheVariants as target_whys
use Rattle.session.specs.Transcript.line.SkipWord.{SkipWord}
use Rattle.session.specs.Transcript.line.SkipWord.TheVariants as words
use Rattle.session.specs.Transcript.line.Line.{Line}
use Rattle.session.specs.Transcript.line.Line.TheVariants as lines
use Rattle.session_model.specs.Vault.{Setting, Vault, new_job, lanes_of, with_lanes, served_at, HasVaultExecuted, OneGoes, with_peer, ExecutesAll}

-- ---- moments

-- a request that a cloud executed, and its reply
pub record Execution : Type 0 where
  pub cloud : ℕ
  pub request : Request
  pub reply : Reply

-- the clouds, and the event that comes next: an execution, or a line without one
pub record Moment : Type 0 where
  pub peers : ℕ → Peer
  pub event : Option Execution

-- before this cloud executes this request, with this reply
abbrev pub executed : (ℕ → Peer) → ℕ → Request → Reply → Moment
executed peers cloud request reply =
    record { peers = peers; event = Some (record { cloud = cloud; request = request; reply = reply }) }

-- one moment, before a line without an execution
abbrev pub quiet : (ℕ → Peer) → List Moment
quiet peers = record { peers = peers; event = None } ∷ []

abbrev pub moment_of : ℕ → LaneTurn (ℕ → Peer) → Moment
moment_of cloud t = executed t.before cloud t.request t.reply

-- ---- lanes

-- what a step tells, as a transcript says it
abbrev pub as_told : LaneNews → News
as_told (lane_news.Known known asked) = news.Known known asked
as_told (lane_news.Stored new sent) = news.Stored new sent
as_told lane_news.Committed = news.Committed
as_told lane_news.Exists = news.Exists
as_told (lane_news.Lacking place) = news.Lacking place
as_told (lane_news.Full room used need limit) = news.Full room used need limit
as_told lane_news.Fault = news.Fault
as_told (lane_news.Damaged at byte) = news.Damaged at byte
as_told (lane_news.Rotten named found) = news.Rotten named found
as_told lane_news.NoMemory = news.NoMemory

abbrev pub step_line : ℕ → ℕ → LaneNews → Line
step_line job cloud told = lines.Step job (cloud_no cloud) (as_told told)

-- the lane has no request
abbrev pub no_step : ℕ → ℕ → List Line
no_step job cloud = lines.Step job (cloud_no cloud) news.Done ∷ []

abbrev pub is_done : LaneState → Bool
is_done Done = true
is_done state = false

abbrev pub all_done : List LaneView → Bool
all_done views = list_all (λ (lane : LaneView). is_done lane.state) views

-- the line of a job whose last lane was committed between these
abbrev pub stored_line : ℕ → List LaneView → List LaneView → List Line
stored_line job old new = if not (all_done old) && all_done new then lines.JobStored job ∷ [] else []

-- A step of a lane that has this request, or none: the cloud executes it, and the lane moves by the reply.
abbrev pub LaneStep : Setting → ℕ → ℕ → Option Request → Vault → List Line → List Moment → Vault → Type 0
LaneStep s job cloud None old answers moments new =
    (answers ≡ no_step job cloud) × (moments ≡ quiet old.peers) × (new ≡ old)
LaneStep s job cloud (Some request) old answers moments new =
    let views = lanes_of old.jobs job in
    let lane = lane_at views cloud in
    (reply : Reply) × (told : LaneNews) × (after : List LaneView)
    × HasVaultExecuted s cloud old.peers request reply new.peers
    × (moments ≡ executed old.peers cloud request reply ∷ [])
    × (news_of lane.state reply ≡ Some told)
    × (after ≡ with_state views cloud (moved lane reply).state)
    × (new.jobs ≡ with_lanes old.jobs job after)
    × (answers ≡ step_line job cloud told ∷ stored_line job views after)

-- The request is executed, and the lane doesn't learn it.
abbrev pub DropStep : Setting → ℕ → ℕ → Option Request → Vault → List Line → List Moment → Vault → Type 0
DropStep s job cloud None old answers moments new =
    (answers ≡ no_step job cloud) × (moments ≡ quiet old.peers) × (new ≡ old)
DropStep s job cloud (Some request) old answers moments new =
    (reply : Reply) × HasVaultExecuted s cloud old.peers request reply new.peers
    × (moments ≡ executed old.peers cloud request reply ∷ [])
    × (new.jobs ≡ old.jobs) × (answers ≡ lines.Lost job (cloud_no cloud) ∷ [])

abbrev pub lose_lines : ℕ → ℕ → Option Request → List Line
lose_lines job cloud None = no_step job cloud
lose_lines job cloud (Some request) = lines.Lost job (cloud_no cloud) ∷ []

-- The lanes of a finish in turn.
abbrev pub FinishLanes : Setting → ℕ → List ℕ → Vault → List Line → List Moment → Vault → Type 0
FinishLanes s job [] old answers moments new = (answers ≡ []) × (moments ≡ []) × (new ≡ old)
FinishLanes s job (cloud ∷ clouds) old answers moments new =
    let views = lanes_of old.jobs job in
    (turns : List (LaneTurn (ℕ → Peer))) × (last : Progress) × (told : List LaneNews) × (mid : Vault)
    × (after : List LaneView) × (more : List Line) × (rest : List Moment)
    × LaneRun (HasVaultExecuted s cloud) (starting (lane_at views cloud)) old.peers turns last mid.peers
    × Tell (lane_at views cloud) turns told
    × (after ≡ with_state views cloud last.lane.state)
    × (mid.jobs ≡ with_lanes old.jobs job after)
    × (answers ≡ map (step_line job cloud) told ++ stored_line job views after ++ more)
    × (moments ≡ map (moment_of cloud) turns ++ rest)
    × FinishLanes s job clouds mid more rest new

-- ---- lines that read

-- the line of a restore that gave this file or this error; its own want of memory has no line
abbrev pub IsGetLine : Result (Unit {0}) RestoreErr → List ℕ → Line → Type 0
IsGetLine (Ok u) file line = line ≡ lines.Got file
IsGetLine (Err e) file line = (why : Refusal) × (refusal_of e ≡ Some why) × (line ≡ lines.Refused why)

-- which clouds are told, as a link's telling, for the causes of a restore's refusals
abbrev pub told_so : Shape → LinkTelling (ℕ → Bool)
told_so shape = record {
  reaches = λ told cloud. true;
  shape = λ told. shape;
  told = λ told cloud. told cloud;
  stands = λ told cloud p. ⊥;
  full = λ told cloud list command. None;
  losses = λ told. 0;
  lossless = λ told. true;
  passes = λ told exchange after. ⊥;
}

-- The file doesn't come from this choice of clouds: their lists give none, or a device of one of them failed, whose
-- count rose.
abbrev pub NoneFrom : Sought → (ℕ → Peer) → (ℕ → Peer) → List ℕ → Type 0
NoneFrom f old new subset =
    GivesNone f new subset ⊎ ((cloud : ℕ) × Contains subset cloud × Rose (old cloud).faults (new cloud).faults)

-- The file came from this choice of k clouds: it's what their lists give, each of them was read, and it comes from no
-- choice in front of this one.
pub record ComesFrom (f : Sought) (file : List ℕ) (old new : ℕ → Peer) : Type 0 where
  pub front : List (List ℕ)
  pub subset : List ℕ
  pub rest : List (List ℕ)
  pub split : subsets f.shape.k f.clouds ≡ front ++ subset ∷ rest
  pub gives : outcome_of f new subset ≡ Ok file
  pub read : AreRead subset old new
  pub front_none : All (NoneFrom f old new) front

-- It comes from no choice of k clouds, and the refusal is the first one's: by its lists, or by a device in it that
-- failed.
pub record ComesFromNone (f : Sought) (e : RestoreErr) (old new : ℕ → Peer) : Type 0 where
  pub first : List ℕ
  pub rest : List (List ℕ)
  pub first_is : subsets f.shape.k f.clouds ≡ first ∷ rest
  pub ends : Ends (outcome_of f new first) first (Err e) [] [] old new
  pub none : All (NoneFrom f old new) (subsets f.shape.k f.clouds)

abbrev pub ComesBy : Sought → Result (Unit {0}) RestoreErr → List ℕ → (ℕ → Peer) → (ℕ → Peer) → Type 0
ComesBy f (Ok u) file old new = ComesFrom f file old new
ComesBy f (Err e) file old new = ComesFromNone f e old new

-- no count of these clouds rose
abbrev pub NoneRose : List ℕ → (ℕ → Peer) → (ℕ → Peer) → Type 0
NoneRose clouds old new = (cloud : ℕ) → Contains clouds cloud → ¬ Rose (old cloud).faults (new cloud).faults

-- A get from k or more told clouds, by their lists as they stand after it: the choices of k of them are gone through in
-- lexicographic order. Where no count rose the result is that of any k of them; and from just k it's a restore.
pub record Gets (f : Sought) (result : Result (Unit {0}) RestoreErr) (file : List ℕ) (old new : ℕ → Peer) : Type 0 where
  pub comes : ComesBy f result file old new
  pub exact : NoneRose f.clouds old new → Ends (any_outcome f new) f.clouds result [] file old new
  pub just : JustRestores f result [] file old new

-- A get: only its clouds are read; a refusal has its cause; and where all of them are told the line is that of their lists
-- as they stand after it.
pub record GetStep (s : Setting) (user : UserId) (path : List ℕ) (version : Version) (clouds : List ℕ)
    (old : ℕ → Peer) (line : Line) (new : ℕ → Peer) : Type 0 where
  pub result : Result (Unit {0}) RestoreErr
  pub file : List ℕ
  pub line_is : IsGetLine result file line
  pub found : is_lost result ≡ false
  pub read : AreOnlyAsked clouds old new
  pub named : IfErr result (Names (Contains clouds))
  pub caused : Causes (told_so s.shape) s.told s.shape user (key_of s.shape path version) result old new
  pub told : ((cloud : ℕ) → Contains clouds cloud → IsTrue (s.told cloud))
      → Gets (sought s.shape user path version clouds) result file old new

-- ---- a listing

-- why a cloud lists no further
abbrev pub list_refusal : ℕ → Reply → Option Refusal
list_refusal cloud replies.Fault = Some (refusals.Fault (cloud_no cloud))
list_refusal cloud (replies.Damaged at byte) = Some (refusals.Damaged (cloud_no cloud) at byte)
list_refusal cloud (replies.Rotten named found) = Some (refusals.Rotten (cloud_no cloud) named found)
list_refusal cloud replies.NoMemory = Some (refusals.NoMemory (cloud_no cloud))
list_refusal cloud reply = None

-- the reply ends a listing with these entries, as a page that isn't full, or with this refusal
abbrev pub EndsListing : ℕ → Reply → Result (List (Tag × Version)) Refusal → Type 0
EndsListing cloud (replies.Entries page) listed = (length page < key_limit) × (listed ≡ Ok page)
EndsListing cloud reply listed = (why : Refusal) × (list_refusal cloud reply ≡ Some why) × (listed ≡ Err why)

-- behind a page: its entries and those of the pages behind it, or the refusal that came
abbrev pub behind_page : List (Tag × Version) → Result (List (Tag × Version)) Refusal → Result (List (Tag × Version)) Refusal
behind_page page (Ok entries) = Ok (page ++ entries)
behind_page page (Err why) = Err why

-- The cloud is asked for the user's entries above this one, a page at a time, each a request of its own. A page that isn't full
-- is the last one; behind a full one the entries above its last one are asked for.
abbrev pub ListRun : Setting → UserId → ℕ → Option (Tag × Version) → (ℕ → Peer) → List (LaneTurn (ℕ → Peer))
    → Result (List (Tag × Version)) Refusal → (ℕ → Peer) → Type 0
ListRun s user cloud above old [] listed new = ⊥
ListRun s user cloud above old (t ∷ turns) listed new =
    (t.before ≡ old) × (t.request ≡ requests.List user above)
    × ((mid : ℕ → Peer) × HasVaultExecuted s cloud old t.request t.reply mid
    × ((EndsListing cloud t.reply listed × (turns ≡ []) × (new ≡ mid))
    ⊎ ((page : List (Tag × Version)) × (rest : Result (List (Tag × Version)) Refusal)
    × (t.reply ≡ replies.Entries page) × (length page ≡ key_limit) × (listed ≡ behind_page page rest)
    × ListRun s user cloud (slice_get page (length page - 1)) mid turns rest new)))

abbrev pub entry_line : Tag × Version → Line
entry_line entry = lines.Entry entry.0 entry.1

abbrev pub list_lines : UserId → ℕ → Result (List (Tag × Version)) Refusal → List Line
list_lines user cloud (Ok entries) = lines.Entries user (cloud_no cloud) (length entries) ∷ map entry_line entries
list_lines user cloud (Err why) = lines.Refused why ∷ []

-- ---- lines on one cloud

-- the line of an opening that ended so
abbrev pub IsRestartLine : ℕ → Result ℕ OpenErr → Line → Type 0
IsRestartLine cloud (Ok commands) line = line ≡ lines.Restarted (cloud_no cloud) commands
IsRestartLine cloud (Err errors.Fault) line = line ≡ lines.Fault (cloud_no cloud)
IsRestartLine cloud (Err e) line = (at : ℕ) × (byte : ℕ) × (line ≡ lines.Damaged (cloud_no cloud) at byte)

abbrev pub IsOpeningFault : Result ℕ OpenErr → Type 0
IsOpeningFault (Err errors.Fault) = Unit {0}
IsOpeningFault result = ⊥

-- an opening of a cloud of which nothing is told
pub record ReopensUntold (result : Result ℕ OpenErr) (old new : Peer) : Type 0 where
  pub stays : KeepsPeer old new
  pub counts : CountsOn old new
  pub fault : IsOpeningFault result → Rose old.faults new.faults

-- The cloud is opened again, and begun where it wasn't. It may be found damaged only where nothing is told.
abbrev pub RestartStep : Setting → ℕ → Line → Peer → Peer → Type 0
RestartStep s cloud line old new =
    (result : Result ℕ OpenErr) × IsRestartLine cloud result line
    × MatchBool (s.told cloud) (ReopensAs true old new result) (ReopensUntold result old new)

-- what is said of the new store of a replaced cloud, and what became of the cloud's count of faults: the store was begun; or a
-- device failed; or a damage was found, only where nothing is told
abbrev pub IsReplaceLine : Bool → ℕ → ℕ → ℕ → Line → Type 0
IsReplaceLine told cloud before after (lines.Replaced c) = (c ≡ cloud_no cloud) × (after ≡ before)
IsReplaceLine told cloud before after (lines.Fault c) = (c ≡ cloud_no cloud) × Rose before after
IsReplaceLine told cloud before after (lines.Damaged c at byte) = (c ≡ cloud_no cloud) × (told ≡ false) × (after ≡ before)
IsReplaceLine told cloud before after line = ⊥

-- Whatever is said, the cloud has no commands, and nothing is pending.
pub record ReplaceStep (s : Setting) (cloud : ℕ) (line : Line) (old new : Peer) : Type 0 where
  pub list : new.list ≡ []
  pub pending : new.pending ≡ None
  pub armings : new.armings ≡ old.armings
  pub says : IsReplaceLine (s.told cloud) cloud old.faults new.faults line

-- ---- a deletion

-- what is said of a deletion, by the cloud's reply
abbrev pub IsDeleteLine : ℕ → Reply → Line → Type 0
IsDeleteLine cloud replies.Deleted line = line ≡ lines.Deleted (cloud_no cloud)
IsDeleteLine cloud replies.Missing line = line ≡ lines.Missing (cloud_no cloud)
IsDeleteLine cloud (replies.Full room used need limit) line = line ≡ lines.Full (cloud_no cloud) room used need limit
IsDeleteLine cloud replies.Fault line = line ≡ lines.Fault (cloud_no cloud)
IsDeleteLine cloud (replies.Damaged at byte) line = line ≡ lines.Damaged (cloud_no cloud) at byte
IsDeleteLine cloud (replies.Rotten named found) line = line ≡ lines.Rotten (cloud_no cloud) named found
IsDeleteLine cloud reply line = ⊥

-- The cloud executes the deletion.
abbrev pub DeleteStep : Setting → UserId → List ℕ → Version → ℕ → (ℕ → Peer) → List Line → List Moment → (ℕ → Peer) → Type 0
DeleteStep s user path version cloud old answers moments new =
    let request = requests.Delete user (key_of s.shape path version).0 version in
    (reply : Reply) × (line : Line) × HasVaultExecuted s cloud old request reply new
    × IsDeleteLine cloud reply line × (answers ≡ line ∷ []) × (moments ≡ executed old cloud request reply ∷ [])

-- ---- a rebuild

abbrev pub skip_word : SkipWhy → SkipWord
skip_word (whys.Missing c) = words.Missing
skip_word (whys.RecipesDiffer a b place) = words.RecipesDiffer
skip_word (whys.ShareLength c secret found wanted) = words.ShareLength
skip_word (whys.BadSecret secret named found) = words.BadSecret
skip_word (whys.BadPad secret at byte) = words.BadPad
skip_word (whys.BadName named found) = words.BadName
skip_word (whys.BadNamePad at byte) = words.BadNamePad
skip_word (whys.BadPath at) = words.BadPath
skip_word whys.TargetExists = words.TargetExists

abbrev pub skip_line : Skip → Line
skip_line skip = lines.Skipped skip.tag skip.version (skip_word skip.why)

-- why a rebuild stopped: as a restore is refused, or by what the target said; its own want of memory has no line
abbrev pub rebuild_refusal : RebuildErr → Option Refusal
rebuild_refusal (rebuild_errors.FromRestore e) = refusal_of e
rebuild_refusal rebuild_errors.TargetLost = Some (refusals.Target target_whys.Lost)
rebuild_refusal rebuild_errors.TargetFault = Some (refusals.Target target_whys.Fault)
rebuild_refusal (rebuild_errors.TargetDamaged at byte) = Some (refusals.Target (target_whys.Damaged at byte))
rebuild_refusal (rebuild_errors.TargetRotten named found) = Some (refusals.Target (target_whys.Rotten named found))
rebuild_refusal (rebuild_errors.TargetFull room used need limit) = Some (refusals.Target (target_whys.Full room used need limit))
rebuild_refusal (rebuild_errors.TargetLacking place) = Some (refusals.Target (target_whys.Lacking place))
rebuild_refusal rebuild_errors.TargetNoMemory = Some (refusals.Target target_whys.NoMemory)
rebuild_refusal (rebuild_errors.TargetStrange kind) = Some (refusals.Target (target_whys.Strange kind))
rebuild_refusal rebuild_errors.NoMemory = None

-- how many versions stand at the target, and each that was skipped; or why the rebuild stopped
abbrev pub AreRebuildLines : UserId → ℕ → Result Rebuilt RebuildErr → List Line → Type 0
AreRebuildLines user target (Ok rebuilt) answers =
    answers ≡ lines.Rebuilt user (cloud_no target) rebuilt.files (length rebuilt.skipped) ∷ map skip_line rebuilt.skipped
AreRebuildLines user target (Err e) answers =
    (why : Refusal) × (rebuild_refusal e ≡ Some why) × (answers ≡ lines.Refused why ∷ [])

abbrev pub turn_moment : (ℕ → Peer) → ℕ → LaneTurn Peer → Moment
turn_moment old target t = executed (with_peer old target t.before) target t.request t.reply

-- before each request of the target, and behind the last one
abbrev pub target_moments : (ℕ → Peer) → ℕ → List (LaneTurn Peer) → Peer → List Moment
target_moments old target [] end = quiet (with_peer old target end)
target_moments old target (t ∷ turns) end = turn_moment old target t ∷ target_moments old target turns end

-- The moments of a rebuild: before it, and those of the target. What is read adds nothing to any list, so the other clouds are taken to
-- be as before it until its end.
abbrev pub rebuild_moments : (ℕ → Peer) → ℕ → List (LaneTurn Peer) → Peer → List Moment
rebuild_moments old target turns end = quiet old ++ target_moments old target turns end

-- these clouds are told
abbrev pub AllTold : Setting → List ℕ → Type 0
AllTold s clouds = (cloud : ℕ) → Contains clouds cloud → IsTrue (s.told cloud)

-- A rebuild: the target executes these requests, which are those of the lanes for some versions of this user, one lane after another; the
-- clouds that it is brought the versions from are only read, and no other cloud is asked; a refusal has its cause, and names a cloud that
-- is read, or is the target's last reply, at the end of a lane. Where the target and those clouds are told, these
-- are the requests of the lanes for the versions that those clouds have under the keys of the first one, in order, by their lists as they
-- stand after it; the answer is how that ended; and each version that all of them keep stands at the target, unless it has another.
pub record RebuildStep (s : Setting) (user : UserId) (target : ℕ) (from : List ℕ)
    (old : ℕ → Peer) (answers : List Line) (moments : List Moment) (new : ℕ → Peer) : Type 0 where
  pub result : Result Rebuilt RebuildErr
  pub turns : List (LaneTurn Peer)
  pub lines_are : AreRebuildLines user target result answers
  pub moments_are : moments ≡ rebuild_moments old target turns (new target)
  pub found : rebuilding.is_lost result ≡ false
  pub executes : ExecutesAll s target (old target) turns (new target)
  pub leaves : LeavesBut from target old new
  pub named : HandsOn from result
  pub caused : rebuilding.CausesRebuildEnd (told_so s.shape) s.told target result old new
  pub said : SaidLast result turns
  pub ended : OfReply result (EndsLane s.shape user target turns)
  pub own : OwnLanes s.shape user target turns
  pub told : AllTold s (target ∷ from)
      → RunsTo s.shape user target (served_at s target) from result turns old (new target) new
      × Refills s.shape target from user new result

-- ---- every line

-- what the lane of a job asks of its cloud, if it has a request
abbrev pub asked_by : Vault → ℕ → ℕ → Option Request
asked_by v job cloud = lanes.request_at (lanes_of v.jobs job) cloud

abbrev pub version_of : UserId → List ℕ → Version → List ℕ → FileVersion
version_of user path version bytes = record { user = user; path = path; number = version; file = bytes }

abbrev pub VStep : Setting → Vault → Event → List Line → List Moment → Vault → Type 0
VStep s old (events.Upload user path version bytes) answers moments new =
    (answers ≡ lines.Job (length old.jobs + 1) ∷ []) × (moments ≡ quiet old.peers) × (new.peers ≡ old.peers)
    × (new.jobs ≡ old.jobs ++ new_job s (version_of user path version bytes) ∷ [])
VStep s old (events.Step job lane) answers moments new =
    LaneStep s job lane.0 (asked_by old job lane.0) old answers moments new
VStep s old (events.Lose job lane) answers moments new =
    (answers ≡ lose_lines job lane.0 (asked_by old job lane.0)) × (moments ≡ quiet old.peers) × (new ≡ old)
VStep s old (events.Drop job lane) answers moments new =
    DropStep s job lane.0 (asked_by old job lane.0) old answers moments new
VStep s old (events.Finish job) answers moments new =
    (steps : List Line)
    × FinishLanes s job (range_with_len 0 s.shape.n) old steps moments new
    × (answers ≡ steps ++ lines.End job (all_done (lanes_of new.jobs job)) ∷ [])
VStep s old (events.Get user path version clouds) answers moments new =
    (line : Line) × GetStep s user path version clouds old.peers line new.peers
    × (answers ≡ line ∷ []) × (moments ≡ quiet old.peers) × (new.jobs ≡ old.jobs)
VStep s old (events.Arm cloud calls keep) answers moments new =
    OneGoes cloud.0 Armed old.peers new.peers
    × (answers ≡ lines.Armed cloud ∷ []) × (moments ≡ quiet old.peers) × (new.jobs ≡ old.jobs)
VStep s old (events.Restart cloud) answers moments new =
    (line : Line) × OneGoes cloud.0 (RestartStep s cloud.0 line) old.peers new.peers
    × (answers ≡ line ∷ []) × (moments ≡ quiet old.peers) × (new.jobs ≡ old.jobs)
VStep s old (events.List user cloud) answers moments new =
    (turns : List (LaneTurn (ℕ → Peer))) × (listed : Result (List (Tag × Version)) Refusal)
    × ListRun s user cloud.0 None old.peers turns listed new.peers
    × (answers ≡ list_lines user cloud.0 listed) × (moments ≡ map (moment_of cloud.0) turns) × (new.jobs ≡ old.jobs)
VStep s old (events.Replace cloud) answers moments new =
    (line : Line) × OneGoes cloud.0 (ReplaceStep s cloud.0 line) old.peers new.peers
    × (answers ≡ line ∷ []) × (moments ≡ quiet old.peers) × (new.jobs ≡ old.jobs)
VStep s old (events.Rebuild user target from) answers moments new =
    RebuildStep s user target.0 from old.peers answers moments new.peers × (new.jobs ≡ old.jobs)
VStep s old (events.Delete user path version cloud) answers moments new =
    DeleteStep s user path version cloud.0 old.peers answers moments new.peers × (new.jobs ≡ old.jobs)
