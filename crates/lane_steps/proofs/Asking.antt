-- One ask of a lane.
use Rattle.std.proofs.Common.{◌≡◌, inl, inr, ℕ, List, Option, Some, None, Result, Ok, Err, refl, sym, ap, ◌∙◌, subst}
use Rattle.cd_edges.specs.Causes.{Rose}
use Rattle.grammar.specs.CdBase.shape.Shape.{Shape}
use Rattle.grammar.proofs.FieldLaws.{IsBytes}
use Rattle.upload_job.specs.Messages.request.Request.{Request}
use Rattle.upload_job.specs.Messages.reply.Reply.{Reply}
use Rattle.upload_job.specs.Messages.Replies.{IsReply}
use Rattle.upload_job.specs.Messages.Requests.{request_bytes}
use Rattle.upload_job.proofs.Messages.ReplyLaws.{reply_law}
use Rattle.upload_job.specs.UserDedup.Requests.{asked_at}
use Rattle.upload_job.specs.UserDedup.Exec.{Peer}
use Rattle.upload_job.specs.UserDedup.Link.{LinkTelling, Talk, Does, LosesAsk, LeavesOthers, SaysNothingElse, first_reply, said}
use Rattle.upload_job.specs.declared.news.LaneNews.{LaneNews}
use Rattle.upload_job.specs.declared.news.LaneErr.TheVariants as lane_errors
use Rattle.upload_job.specs.Lane.{IsAnswer}
use Rattle.upload_job.specs.Lanes.{LaneView, with_state}
use Rattle.lane_steps.specs.Reached.{IsReached, Answered, IsReachedAlone, AnsweredAlone, IsOnItsWay, ForAll, ForOne}
use Rattle.lane_steps.specs.Runs.{lane_at}
use Rattle.lane_steps.specs.declared.error.StepErr.{StepErr}
use Rattle.lane_steps.specs.declared.error.StepErr.TheVariants as errors
use Rattle.lane_steps.specs.Steps.{Passed, Heard, LostAsk, TakesReply, AsksInStep, LaneSteps}
use Rattle.lane_steps.proofs.Telling.{news_given}
use Rattle.lane_steps.proofs.Views.{answers_here, with_same}

-- ---- content is one reply

abbrev ok_reply : Reply → Result Reply ℕ
ok_reply r = Ok r

reply_one : (bytes : List ℕ) (a b : Reply) → IsBytes bytes → IsReply bytes a → IsReply bytes b → a ≡ b
reply_one bytes a b known one two =
    let e : ok_reply a ≡ ok_reply b = sym ((reply_law bytes a known).1 one) ∙ (reply_law bytes b known).1 two in cc

abbrev pub some_request : Request → Option Request
some_request r = Some r

pub some_is : (a b : Request) → some_request a ≡ some_request b → a ≡ b
some_is a b e = cc

-- ---- what the link said

pub passed_by : {L : Type 0} (t : LinkTelling L) (talk : L → ℕ → Talk → Type 0) (cloud : ℕ) (old : L) (request : Request) (content bytes : List ℕ) (new : L)
    → content ≡ request_bytes request → asked_at (t.shape old) (request_bytes request) ≡ Ok request
    → t.passes old (record { cloud = cloud; content = content; reply = Some bytes }) new → LeavesOthers t cloud old new
    → ((before : Talk) → talk old cloud before → (bytes ≡ first_reply before.coming) × talk new cloud (said before content))
    → SaysNothingElse talk cloud old new → Passed t talk cloud old request bytes new
passed_by t talk cloud old request content bytes new e read passes others says says_else = record {
  read = read;
  passes = subst (λ (x : List ℕ). t.passes old (record { cloud = cloud; content = x; reply = Some bytes }) new) e passes;
  others = others;
  says = λ before talks. subst (λ (x : List ℕ). (bytes ≡ first_reply before.coming) × talk new cloud (said before x)) e (says before talks);
  says_else = says_else;
}

-- from each state that the cloud stood for it went on, and answered a reply of this content
abbrev pub GoesBy : {L : Type 0} → LinkTelling L → ℕ → L → Request → List ℕ → L → Type 0
GoesBy t cloud old request bytes new =
    (p : Peer) → t.stands old cloud p → (q : Peer) × t.stands new cloud q × ((answer : Reply) × IsReply bytes answer × Does t cloud old p request answer q)

-- it is this reply
heard_by : {L : Type 0} (t : LinkTelling L) (talk : L → ℕ → Talk → Type 0) (cloud : ℕ) (old : L) (request : Request) (bytes : List ℕ) (reply : Reply) (new : L)
    → IsBytes bytes → IsReply bytes reply → Passed t talk cloud old request bytes new → GoesBy t cloud old request bytes new → Heard t talk cloud old request reply new
heard_by t talk cloud old request bytes reply new known is passed goes = record {
  bytes = bytes;
  is = is;
  passed = passed;
  goes = λ p stands.
      let g = goes p stands in
      (g.0, g.1, subst (λ (r : Reply). Does t cloud old p request r g.0) (reply_one bytes g.2.0 reply known g.2.1 is) g.2.2);
}

-- what a cloud that stands for something answers, the lane's request may have
abbrev pub SuitsLane : {L : Type 0} → LinkTelling L → ℕ → LaneView → L → Request → Type 0
SuitsLane t cloud lane old request = (p q : Peer) (reply : Reply) → t.stands old cloud p → Does t cloud old p request reply q → IsAnswer lane.work lane.state reply

pub taken : {L : Type 0} (t : LinkTelling L) (talk : L → ℕ → Talk → Type 0) (cloud : ℕ) (old : L) (views : List LaneView) (request : Request) (bytes : List ℕ) (result : Result LaneNews StepErr) (new : L) (after : List LaneView)
    → IsBytes bytes → Passed t talk cloud old request bytes new → GoesBy t cloud old request bytes new → SuitsLane t cloud (lane_at views cloud) old request
    → TakesReply views cloud bytes result after → AsksInStep t talk cloud old views request result new after
taken t talk cloud old views request bytes (Ok told) new after known passed goes suits takes =
    let a = answers_here views cloud bytes (Ok told) after takes in
    let tells = a.1.1 in (
      a.1.0,
      tells.says.answers,
      tells.told,
      heard_by t talk cloud old request bytes a.1.0 new known tells.says.is passed goes,
      a.2 ∙ ap (with_state views cloud) tells.moves,
    )
taken t talk cloud old views request bytes (Err errors.Lost) new after known passed goes suits takes = absurd takes
taken t talk cloud old views request bytes (Err (errors.Strange kind)) new after known passed goes suits takes =
    let a = answers_here views cloud bytes (Err (lane_errors.Strange kind)) after takes in
    let strange = a.1 in (
      record {
        bytes = bytes;
        none = strange.none;
        first = strange.first;
        passed = passed;
        unheard = λ p stands. let g = goes p stands in strange.none g.2.0 (record { is = g.2.1; answers = suits p g.0 g.2.0 stands g.2.2 });
      },
      a.2 ∙ ap (with_state views cloud) strange.refused,
    )
taken t talk cloud old views request bytes (Err errors.NoMemory) new after known passed goes suits takes =
    let a = answers_here views cloud bytes (Err lane_errors.NoMemory) after takes in
    let same : a.0 ≡ (lane_at views cloud).state = a.1 in (
      inr (record {
        bytes = bytes;
        passed = passed;
        heard = λ p stands.
            let g = goes p stands in
            let told = news_given (lane_at views cloud).work (lane_at views cloud).state g.2.0 (suits p g.0 g.2.0 stands g.2.2) in
            (g.2.0, told.0, told.1, heard_by t talk cloud old request bytes g.2.0 new known g.2.1 passed goes);
      }),
      a.2 ∙ ap (with_state views cloud) same ∙ with_same views cloud,
    )

pub lost_by : {L : Type 0} (t : LinkTelling L) (cloud : ℕ) (old : L) (request : Request) (content : List ℕ) (new : L)
    → content ≡ request_bytes request → asked_at (t.shape old) (request_bytes request) ≡ Ok request
    → t.passes old (record { cloud = cloud; content = content; reply = None }) new → LeavesOthers t cloud old new → Rose (t.losses old) (t.losses new)
    → ((p : Peer) → t.stands old cloud p → (q : Peer) × t.stands new cloud q × LosesAsk t cloud old p request q) → LostAsk t cloud old request new
lost_by t cloud old request content new e read passes others rose goes = record {
  read = read;
  passes = subst (λ (x : List ℕ). t.passes old (record { cloud = cloud; content = x; reply = None }) new) e passes;
  others = others;
  rose = rose;
  goes = goes;
}

-- ---- the job

pub reached_on : (shape : Shape) (views : List LaneView) (cloud : ℕ) (bytes : List ℕ) (result : Result LaneNews StepErr) (after : List LaneView) → IsReached shape views → TakesReply views cloud bytes result after → IsReached shape after
reached_on shape views cloud bytes (Ok told) after reached takes = Answered views after cloud bytes (Ok told) reached takes
reached_on shape views cloud bytes (Err errors.Lost) after reached takes = absurd takes
reached_on shape views cloud bytes (Err (errors.Strange kind)) after reached takes = Answered views after cloud bytes (Err (lane_errors.Strange kind)) reached takes
reached_on shape views cloud bytes (Err errors.NoMemory) after reached takes = Answered views after cloud bytes (Err lane_errors.NoMemory) reached takes

alone_on : (shape : Shape) (views : List LaneView) (cloud : ℕ) (bytes : List ℕ) (result : Result LaneNews StepErr) (after : List LaneView) → IsReachedAlone shape views → TakesReply views cloud bytes result after → IsReachedAlone shape after
alone_on shape views cloud bytes (Ok told) after reached takes = AnsweredAlone views after cloud bytes (Ok told) reached takes
alone_on shape views cloud bytes (Err errors.Lost) after reached takes = absurd takes
alone_on shape views cloud bytes (Err (errors.Strange kind)) after reached takes = AnsweredAlone views after cloud bytes (Err (lane_errors.Strange kind)) reached takes
alone_on shape views cloud bytes (Err errors.NoMemory) after reached takes = AnsweredAlone views after cloud bytes (Err lane_errors.NoMemory) reached takes

pub way_on : (shape : Shape) (views : List LaneView) (cloud : ℕ) (bytes : List ℕ) (result : Result LaneNews StepErr) (after : List LaneView) → IsOnItsWay shape views → TakesReply views cloud bytes result after → IsOnItsWay shape after
way_on shape views cloud bytes result after (ForAll reached) takes = ForAll (reached_on shape views cloud bytes result after reached takes)
way_on shape views cloud bytes result after (ForOne alone) takes = ForOne (alone_on shape views cloud bytes result after alone takes)

-- ---- a lane with a request or none

pub step_none : {L : Type 0} (t : LinkTelling L) (talk : L → ℕ → Talk → Type 0) (cloud : ℕ) (link : L) (views : List LaneView) (request : Option Request) → request ≡ None → LaneSteps t talk cloud link views request (Ok None) link views
step_none t talk cloud link views None e = (refl, refl)
step_none t talk cloud link views (Some request) e = absurd cc

pub step_unbegun : {L : Type 0} (t : LinkTelling L) (talk : L → ℕ → Talk → Type 0) (cloud : ℕ) (link : L) (views : List LaneView) (request : Option Request) → LaneSteps t talk cloud link views request (Err errors.NoMemory) link views
step_unbegun t talk cloud link views None = (refl, refl)
step_unbegun t talk cloud link views (Some request) = (inl refl, refl)

pub step_told : {L : Type 0} (t : LinkTelling L) (talk : L → ℕ → Talk → Type 0) (cloud : ℕ) (old : L) (views : List LaneView) (one : Option Request) (request : Request) (told : LaneNews) (new : L) (after : List LaneView)
    → one ≡ Some request → AsksInStep t talk cloud old views request (Ok told) new after → LaneSteps t talk cloud old views one (Ok (Some told)) new after
step_told t talk cloud old views one request told new after e asks = subst (λ (o : Option Request). LaneSteps t talk cloud old views o (Ok (Some told)) new after) (sym e) asks

pub step_failed : {L : Type 0} (t : LinkTelling L) (talk : L → ℕ → Talk → Type 0) (cloud : ℕ) (old : L) (views : List LaneView) (one : Option Request) (request : Request) (error : StepErr) (new : L) (after : List LaneView)
    → one ≡ Some request → AsksInStep t talk cloud old views request (Err error) new after → LaneSteps t talk cloud old views one (Err error) new after
step_failed t talk cloud old views one request error new after e asks = subst (λ (o : Option Request). LaneSteps t talk cloud old views o (Err error) new after) (sym e) asks
