-- The lanes of a job over ports, one after another.
use Rattle.std.specs.Prelude.{◌≡◌, ℕ, ◌+◌, false, IsTrue, List, [], ◌∷◌, ◌++◌, map, All, Some, Result, Ok, Err}
use Rattle.transcript.specs.CdBase.ids.CloudNo.{CloudNo}
use Rattle.transcript.specs.CdEdges.Ports.{Telling, OthersStay}
use Rattle.ports_link.specs.Messages.request.Request.{Request}
use Rattle.ports_link.specs.Messages.reply.Reply.{Reply}
use Rattle.ports_link.specs.UserDedup.Link.{Talk}
use Rattle.lane_steps.specs.UploadJob.news.LaneNews.{LaneNews}
use Rattle.lane_steps.specs.UploadJob.Lane.{LaneState, Refused}
use Rattle.lane_steps.specs.UploadJob.Lanes.{LaneView, with_state, first_byte, IsReplyToLane}
use Rattle.lane_steps.specs.Runs.{LaneTurn, Progress, starting, request_of, LaneRun, LaneAlong, Tell, lane_at}
use Rattle.lane_steps.specs.declared.error.StepErr.{StepErr}
use Rattle.lane_steps.specs.declared.error.StepErr.TheVariants as errors
use Rattle.lane_steps.specs.Steps.{TalksBy}
use Rattle.transcript.specs.declared.line.Line.{Line}
use Rattle.backup_command.specs.declared.halt.Halt.{Halt}
use Rattle.backup_command.specs.declared.halt.Halt.TheVariants as halts
use Rattle.backup_command.specs.Texts.{step_line, lane_lines}
use Rattle.backup_command.specs.Said.{SaidOn, SaysNothing, SaysBehind}

-- ---- one lane

-- a request and a reply, of which nothing more is said
abbrev pub Any : Unit {0} → Request → Reply → Unit {0} → Type 0
Any before request reply after = Unit {0}

-- a turn without a word on what was before it
abbrev pub BareTurn : Type 0
BareTurn = LaneTurn (Unit {0})

-- The lane went on by these turns to its end: until it has no request, or a reply stopped it. These are the news, and
-- it stands so. Just these requests were sent, in order, and the replies taken that were to come.
pub record HasLaneEnded (Spoken : (Talk → Talk → Type 0) → Type 0) (lane : LaneView) (news : List LaneNews)
    (state : LaneState) : Type 0 where
  pub turns : List BareTurn
  pub last : Progress
  pub run : LaneRun Any (starting lane) tt turns last tt
  pub tell : Tell lane turns news
  pub state_is : state ≡ last.lane.state
  pub spoken : Spoken (TalksBy turns)

-- The lane went on by these turns, and then asked this, to which no reply came that a server which keeps to the rules
-- gives to that request: it is refused.
pub record LaneStrange (Spoken : (Talk → Talk → Type 0) → Type 0) (lane : LaneView) (news : List LaneNews) (kind : ℕ)
    (state : LaneState) : Type 0 where
  pub turns : List BareTurn
  pub at : Progress
  pub along : LaneAlong Any (starting lane) tt turns at tt
  pub tell : Tell lane turns news
  pub on : at.stopped ≡ false
  pub request : Request
  pub asks : request_of at.lane ≡ Some request
  pub content : List ℕ
  pub none : (reply : Reply) → ¬ (IsReplyToLane at.lane content reply)
  pub first : kind ≡ first_byte content
  pub state_is : state ≡ Refused
  pub spoken : Spoken (SaysBehind turns request content)

-- The lane went on by these turns, and the ports failed in its next request or the reply to it.
pub record LaneLost (Unheard : (Talk → Talk → Type 0) → Type 0) (lane : LaneView) (news : List LaneNews) : Type 0
  where
    pub turns : List BareTurn
    pub at : Progress
    pub along : LaneAlong Any (starting lane) tt turns at tt
    pub tell : Tell lane turns news
    pub on : at.stopped ≡ false
    pub request : Request
    pub asks : request_of at.lane ≡ Some request
    pub unheard : Unheard (TalksBy turns)

-- a lane that came to its end so
abbrev pub LaneCame : ((Talk → Talk → Type 0) → Type 0) → LaneView → Result (Unit {0}) StepErr → List LaneNews
    → LaneState → Type 0
LaneCame Spoken lane (Ok u) news state = HasLaneEnded Spoken lane news state
LaneCame Spoken lane (Err (errors.Strange kind)) news state = LaneStrange Spoken lane news kind state
LaneCame Spoken lane (Err errors.Lost) news state = ⊥
LaneCame Spoken lane (Err errors.NoMemory) news state = ⊥

-- ---- lanes by their ports

-- what was said on a port, where the ports tell their bytes
abbrev pub Tells : Telling → Telling → ℕ → (Talk → Talk → Type 0) → Type 0
Tells behind now port says = IsTrue behind.told → SaidOn behind now port says

-- what was said on a port before the ports failed there: on no other was anything said since
abbrev pub TellsUpTo : Telling → Telling → ℕ → (Talk → Talk → Type 0) → Type 0
TellsUpTo behind now port says =
    IsTrue behind.told → (mid : Telling) × SaidOn behind mid port says × OthersStay mid now port

-- clouds from this number on, with their ports
abbrev pub numbered : ℕ → List ℕ → List (CloudNo × ℕ)
numbered cloud [] = []
numbered cloud (port ∷ ports) = (record { 0 = cloud }, port) ∷ numbered (cloud + 1) ports

-- The lanes of these clouds, each on its port, one after another: each came to its end, and their lines are these. Or
-- the ports failed in one: the lines are those of the lanes before it and of its own replies, and nothing was asked of
-- the clouds behind it. Or memory ran out.
pub data LanesGoOnPorts (behind now : Telling) : List (CloudNo × ℕ) → List LaneView → Result (Unit {0}) Halt → List Line
    → List LaneView → Type 0 where
  AllEnded : (views : List LaneView) → LanesGoOnPorts behind now [] views (Ok tt) [] views
  OneEnded : (line : CloudNo × ℕ) (rest : List (CloudNo × ℕ)) (views after : List LaneView)
      (came : Result (Unit {0}) StepErr) (news : List LaneNews) (state : LaneState) (result : Result (Unit {0}) Halt)
      (more : List Line)
      → LaneCame (Tells behind now line.1) (lane_at views line.0.0) came news state
      → LanesGoOnPorts behind now rest (with_state views line.0.0 state) result more after
      → LanesGoOnPorts behind now (line ∷ rest) views result (lane_lines line.0.0 came news ++ more) after
  OneLost : (line : CloudNo × ℕ) (rest : List (CloudNo × ℕ)) (views : List LaneView) (news : List LaneNews)
      (lost : LaneLost (TellsUpTo behind now line.1) (lane_at views line.0.0) news)
      → All (λ (other : CloudNo × ℕ). Tells behind now other.1 SaysNothing) rest
      → LanesGoOnPorts behind now (line ∷ rest) views (Err halts.Lost) (map (step_line line.0.0) news)
      (with_state views line.0.0 lost.at.lane.state)
  NoMemory : (lines : List (CloudNo × ℕ)) (views after : List LaneView) (answers : List Line)
      → LanesGoOnPorts behind now lines views (Err halts.NoMemory) answers after
