-- What a step of a lane does to a link and to the job, and a lane that goes on to its end.
use Rattle.std.specs.Prelude.{◌≡◌, ◌⊎◌, ℕ, Bool, true, false, List, [], ◌∷◌, ◌++◌, Option, Some, None, Result, Ok, Err}
use Rattle.cd_edges.specs.Causes.{Rose}
use Rattle.upload_job.specs.Messages.request.Request.{Request}
use Rattle.upload_job.specs.Messages.reply.Reply.{Reply}
use Rattle.upload_job.specs.Messages.Replies.{IsReply}
use Rattle.upload_job.specs.Messages.Requests.{request_bytes}
use Rattle.upload_job.specs.UserDedup.Requests.{asked_at}
use Rattle.upload_job.specs.UserDedup.Exec.{Peer}
use Rattle.upload_job.specs.UserDedup.Link.{LinkTelling, Talk, Does, LosesAsk, LeavesOthers, SaysNothingElse, first_reply, said}
use Rattle.upload_job.specs.declared.news.LaneNews.{LaneNews}
use Rattle.upload_job.specs.declared.news.LaneNews.TheVariants as news
use Rattle.upload_job.specs.declared.news.LaneErr.TheVariants as lane_errors
use Rattle.upload_job.specs.Lane.{Refused, news_of, IsAnswer}
use Rattle.upload_job.specs.Lanes.{LaneView, with_state, first_byte, IsReplyToLane, AnswersAt}
use Rattle.lane_steps.specs.Runs.{LaneTurn, Progress, starting, moved, request_of, LaneRun, LaneAlong, Tell, lane_at}
use Rattle.lane_steps.specs.declared.error.StepErr.{StepErr}
use Rattle.lane_steps.specs.declared.error.StepErr.TheVariants as errors

-- ---- one ask

-- what a link may tell of what was said with its clouds
abbrev pub Talks : Type 0 → Type 1
Talks L = L → ℕ → Talk → Type 0

-- The link passed on a request that the cloud reads, and took a reply of this content: the first that was to
-- come, where what is said is told.
pub record Passed {L : Type 0} (t : LinkTelling L) (talk : Talks L) (cloud : ℕ)
    (old : L) (request : Request) (content : List ℕ) (new : L) : Type 0 where
  pub read : asked_at (t.shape old) (request_bytes request) ≡ Ok request
  pub passes : t.passes old (record { cloud = cloud; content = request_bytes request; reply = Some content }) new
  pub others : LeavesOthers t cloud old new
  pub says : (before : Talk) → talk old cloud before
      → (content ≡ first_reply before.coming) × talk new cloud (said before (request_bytes request))
  pub says_else : SaysNothingElse talk cloud old new

-- The cloud was asked this and gave this reply. From each state that it stood for it went on by both.
pub record Heard {L : Type 0} (t : LinkTelling L) (talk : Talks L) (cloud : ℕ)
    (old : L) (request : Request) (reply : Reply) (new : L) : Type 0 where
  pub bytes : List ℕ
  pub is : IsReply bytes reply
  pub passed : Passed t talk cloud old request bytes new
  pub goes : (p : Peer) → t.stands old cloud p → (q : Peer) × t.stands new cloud q × Does t cloud old p request reply q

-- The ask was lost, the request or its reply, and so the count of losses rose.
pub record LostAsk {L : Type 0} (t : LinkTelling L) (cloud : ℕ) (old : L) (request : Request) (new : L) : Type 0 where
  pub read : asked_at (t.shape old) (request_bytes request) ≡ Ok request
  pub passes : t.passes old (record { cloud = cloud; content = request_bytes request; reply = None }) new
  pub others : LeavesOthers t cloud old new
  pub rose : Rose (t.losses old) (t.losses new)
  pub goes : (p : Peer) → t.stands old cloud p → (q : Peer) × t.stands new cloud q × LosesAsk t cloud old p request q

-- What came is no reply that the lane's request may have, and begins with this byte. No cloud that stands for
-- something gives it.
pub record StrangeAsk {L : Type 0} (t : LinkTelling L) (talk : Talks L) (cloud : ℕ) (lane : LaneView)
    (old : L) (request : Request) (kind : ℕ) (new : L) : Type 0 where
  pub bytes : List ℕ
  pub none : (reply : Reply) → ¬ (IsReplyToLane lane bytes reply)
  pub first : kind ≡ first_byte bytes
  pub passed : Passed t talk cloud old request bytes new
  pub unheard : (p : Peer) → ¬ (t.stands old cloud p)

-- A reply came, and the lane didn't take it. From a cloud that stands for something it is one that tells the
-- lane something.
pub record Untaken {L : Type 0} (t : LinkTelling L) (talk : Talks L) (cloud : ℕ) (lane : LaneView)
    (old : L) (request : Request) (new : L) : Type 0 where
  pub bytes : List ℕ
  pub passed : Passed t talk cloud old request bytes new
  pub heard : (p : Peer) → t.stands old cloud p →
      (reply : Reply) × (told : LaneNews) × (news_of lane.state reply ≡ Some told)
      × Heard t talk cloud old request reply new

-- ---- a step

-- What the lane answers to some content, and where the job is then.
abbrev pub TakesReply : List LaneView → ℕ → List ℕ → Result LaneNews StepErr → List LaneView → Type 0
TakesReply views cloud content (Ok told) after = AnswersAt views cloud content (Ok told) after
TakesReply views cloud content (Err errors.Lost) after = ⊥
TakesReply views cloud content (Err (errors.Strange kind)) after =
    AnswersAt views cloud content (Err (lane_errors.Strange kind)) after
TakesReply views cloud content (Err errors.NoMemory) after =
    AnswersAt views cloud content (Err lane_errors.NoMemory) after

-- The lane took the cloud's reply, one that a server which keeps to the rules gives to that request; it tells
-- this, and the lane moved by it.
abbrev pub TakesLaneReply : {L : Type 0} → LinkTelling L → Talks L → ℕ → L
    → List LaneView → Request → LaneNews → L → List LaneView → Type 0
TakesLaneReply t talk cloud old views request told new after =
    let lane = lane_at views cloud in
    (reply : Reply) × IsAnswer lane.work lane.state reply × (news_of lane.state reply ≡ Some told)
    × Heard t talk cloud old request reply new × (after ≡ with_state views cloud (moved lane reply).state)

-- What the step of a lane that has this request answers, and where link and job are then.
abbrev pub AsksInStep : {L : Type 0} → LinkTelling L → Talks L → ℕ → L
    → List LaneView → Request → Result LaneNews StepErr → L → List LaneView → Type 0
AsksInStep t talk cloud old views request
    (Ok told) new after = TakesLaneReply t talk cloud old views request told new after
AsksInStep t talk cloud old views request (Err errors.Lost) new after = LostAsk t cloud old request new
    × (after ≡ views)
AsksInStep t talk cloud old views request (Err (errors.Strange kind)) new after =
    StrangeAsk t talk cloud (lane_at views cloud) old request kind new × (after ≡ with_state views cloud Refused)
AsksInStep t talk cloud old views request (Err errors.NoMemory) new after =
    ((new ≡ old) ⊎ Untaken t talk cloud (lane_at views cloud) old request new) × (after ≡ views)

-- The same of a lane that has this request or none.
abbrev pub LaneSteps : {L : Type 0} → LinkTelling L → Talks L → ℕ → L
    → List LaneView → Option Request → Result (Option LaneNews) StepErr → L → List LaneView → Type 0
LaneSteps t talk cloud old views None (Ok None) new after = (new ≡ old) × (after ≡ views)
LaneSteps t talk cloud old views None (Ok (Some told)) new after = ⊥
LaneSteps t talk cloud old views None (Err errors.NoMemory) new after = (new ≡ old) × (after ≡ views)
LaneSteps t talk cloud old views None (Err errors.Lost) new after = ⊥
LaneSteps t talk cloud old views None (Err (errors.Strange kind)) new after = ⊥
LaneSteps t talk cloud old views (Some request) (Ok None) new after = ⊥
LaneSteps t talk cloud old views (Some request) (Ok (Some told)) new after =
    AsksInStep t talk cloud old views request (Ok told) new after
LaneSteps t talk cloud old views (Some request) (Err e) new after =
    AsksInStep t talk cloud old views request (Err e) new after

-- no ask was lost
abbrev pub IsNothingLost : {A : Type 0} → Result A StepErr → Type 0
IsNothingLost (Err errors.Lost) = ⊥
IsNothingLost result = Unit {0}

-- an ask was lost only where the count of losses rose
abbrev pub LosesBy : {A : Type 0} → Result A StepErr → ℕ → ℕ → Type 0
LosesBy (Err errors.Lost) before after = Rose before after
LosesBy result before after = Unit {0}

-- ---- a lane to its end

-- What a lane that went on answers, and where link and job are then, with what was told before and what is
-- now: by Ok it has come to its end, or was stopped; by an error it went on for a while, and its next step
-- answered so.
abbrev pub Finishes : {L : Type 0} → LinkTelling L → Talks L → ℕ → L
    → List LaneView → List LaneNews → Result (Unit {0}) StepErr → L → List LaneView → List LaneNews → Type 0
Finishes {L} t talk cloud old views before (Ok u) new after now =
    (turns : List (LaneTurn L)) × (last : Progress) × (told : List LaneNews)
    × LaneRun (Heard t talk cloud) (starting (lane_at views cloud)) old turns last new
    × Tell (lane_at views cloud) turns told
    × (now ≡ before ++ told) × (after ≡ with_state views cloud last.lane.state)
Finishes {L} t talk cloud old views before (Err e) new after now =
    (turns : List (LaneTurn L)) × (at : Progress) × (told : List LaneNews) × (mid : L)
    × LaneAlong (Heard t talk cloud) (starting (lane_at views cloud)) old turns at mid
    × Tell (lane_at views cloud) turns told
    × (now ≡ before ++ told) × (at.stopped ≡ false)
    × LaneSteps t talk cloud mid (with_state views cloud at.lane.state) (request_of at.lane) (Err e) new after

-- ---- which news stop a lane

-- the cloud lacks a share
abbrev pub tells_lack : LaneNews → Bool
tells_lack (news.Lacking place) = true
tells_lack told = false

-- a failing device and want of memory stop it, and what the cloud lacks the second time
abbrev pub stops_by : Bool → LaneNews → Bool
stops_by lacked news.Fault = true
stops_by lacked news.NoMemory = true
stops_by lacked (news.Lacking place) = lacked
stops_by lacked told = false

-- ---- runs

-- the same requests and replies
abbrev pub SayTheSame : {S T : Type 0} → List (LaneTurn S) → List (LaneTurn T) → Type 0
SayTheSame [] [] = Unit {0}
SayTheSame [] (t ∷ turns) = ⊥
SayTheSame (s ∷ others) [] = ⊥
SayTheSame (s ∷ others) (t ∷ turns) = (t.request ≡ s.request) × (t.reply ≡ s.reply) × SayTheSame others turns

-- the requests were sent one after another, and the replies taken that were to come
abbrev pub TalksBy : {S : Type 0} → List (LaneTurn S) → Talk → Talk → Type 0
TalksBy [] before after = after ≡ before
TalksBy (t ∷ turns) before after =
    IsReply (first_reply before.coming) t.reply × TalksBy turns (said before (request_bytes t.request)) after
