-- A lane that went on over ports, as what was said on its port.
use Rattle.std.proofs.Common.{◌≡◌, ℕ, ◌<◌, ◌≤◌, false, List, [], ◌∷◌, length, Option, Some, None, refl, sym, ap, ◌∙◌}
use Rattle.std.proofs.Common.{subst}
use Rattle.std.proofs.Common.{arith, IsTrue, Ok, Err, inl, inr}
use Rattle.std.specs.Prelude.{Result, OnOk}
use Rattle.transcript.specs.CdBase.ids.CloudNo.{CloudNo}
use Rattle.transcript.specs.CdEdges.Causes.{Rose}
use Rattle.transcript.specs.CdEdges.Ports.{Telling}
use Rattle.ports_link.specs.Messages.request.Request.{Request}
use Rattle.ports_link.specs.Messages.reply.Reply.{Reply}
use Rattle.ports_link.specs.Messages.Requests.{request_bytes}
use Rattle.ports_link.specs.UserDedup.Link.{Talk, SaysNothingElse, said}
use Rattle.lane_steps.specs.UploadJob.news.LaneNews.{LaneNews}
use Rattle.lane_steps.specs.UploadJob.Lane.{Refused}
use Rattle.lane_steps.specs.UploadJob.Upload.{Work}
use Rattle.lane_steps.specs.UploadJob.Lanes.{LaneView, with_state, IsReplyToLane}
use Rattle.lane_steps.specs.Runs.{LaneTurn, Progress, starting, moved, request_of, progress_after, LaneRun, LaneAlong}
use Rattle.lane_steps.specs.Runs.{Tell, lane_at}
use Rattle.lane_steps.specs.declared.error.StepErr.{StepErr}
use Rattle.lane_steps.specs.declared.error.StepErr.TheVariants as errors
use Rattle.lane_steps.specs.Steps.{TalksBy, LaneSteps, Finishes}
use Rattle.lane_steps.proofs.Runs.{talks_run, talks_along}
use Rattle.lane_steps.proofs.Views.{lane_with, with_twice}
use Rattle.ports_link.specs.declared.link.PortsLink.{PortsLink}
use Rattle.ports_link.specs.Lines.{line_of}
use Rattle.ports_link.specs.Tells.{HasAsked, HasComing, BringsReplies, telling}
use Rattle.ports_link.proofs.Talks.{some_same}
use Rattle.backup_command.specs.declared.halt.Halt.{Halt}
use Rattle.backup_command.specs.declared.halt.Halt.TheVariants as halts
use Rattle.backup_command.specs.Said.{SaidOn, SaysBehind, greeted}
use Rattle.backup_command.specs.Lanes.{Any, BareTurn, HasLaneEnded, LaneStrange, LaneLost, Tells, TellsUpTo}
use Rattle.backup_command.specs.Steps.{KeepsOtherPorts, Talked, IsCloudReady, PutsLaneLines, LaneGoesOnPort, IfLost}
use Rattle.backup_command.proofs.Leaving.{Goes, on_run, on_along, on_passed, on_more, leaves_on, leaves_ask}
use Rattle.backup_command.proofs.Leaving.{leaves_none}

-- ---- turns without the states between them

abbrev pub forget : {S : Type 0} → List (LaneTurn S) → List BareTurn
forget [] = []
forget (t ∷ turns) = record { before = tt; request = t.request; reply = t.reply } ∷ forget turns

pub forget_run : {S : Type 0} (Does : S → Request → Reply → S → Type 0) (p last : Progress) (old new : S)
    (turns : List (LaneTurn S)) → LaneRun Does p old turns last new → LaneRun Any p tt (forget turns) last tt
forget_run Does p last old new [] run = (run.0, run.1, refl)
forget_run Does p last old new (t ∷ turns) run =
    (run.0, refl, run.2, (tt, tt, forget_run Does (progress_after p t.reply) last run.3.0 new turns run.3.2))

pub forget_along : {S : Type 0} (Does : S → Request → Reply → S → Type 0) (p last : Progress) (old new : S)
    (turns : List (LaneTurn S)) → LaneAlong Does p old turns last new → LaneAlong Any p tt (forget turns) last tt
forget_along Does p last old new [] along = (along.0, refl)
forget_along Does p last old new (t ∷ turns) along =
    (along.0, refl, along.2, (tt, tt, forget_along Does (progress_after p t.reply) last along.3.0 new turns along.3.2))

pub forget_tell : {S : Type 0} (lane : LaneView) (turns : List (LaneTurn S)) (news : List LaneNews) → Tell lane turns news
    → Tell lane (forget turns) news
forget_tell lane [] news tell = tell
forget_tell lane (t ∷ turns) news tell =
    (tell.0, tell.1, tell.2, forget_tell (moved lane t.reply) turns tell.1 tell.3, tell.4)

pub forget_talks : {S : Type 0} (turns : List (LaneTurn S)) (before after : Talk) → TalksBy turns before after
    → TalksBy (forget turns) before after
forget_talks [] before after talks = talks
forget_talks (t ∷ turns) before after talks =
    (talks.0, forget_talks turns (said before (request_bytes t.request)) after talks.1)

-- a lane keeps what it has to bring
pub work_kept : {S : Type 0} (Does : S → Request → Reply → S → Type 0) (p last : Progress) (old new : S)
    (turns : List (LaneTurn S)) → LaneAlong Does p old turns last new → last.lane.work ≡ p.lane.work
work_kept Does p last old new [] along = ap (λ (x : Progress). x.lane.work) along.0
work_kept Does p last old new (t ∷ turns) along =
    work_kept Does (progress_after p t.reply) last along.3.0 new turns along.3.2

-- ---- on a port

rose_on : (a b c : ℕ) → a ≤ b → Rose b c → Rose a c
rose_on a b c le rose = omega (arith, rose)

module _ {P : Type 0} (tells : P → Telling) (faults : P → ℕ) (behind : Telling) (line : CloudNo × ℕ) where
  pub said_from : (new : PortsLink P) (coming : List (List ℕ)) (after : Talk) (Spoken : Talk → Talk → Type 0)
      → (line_of new.lines.items.items line.0.0).port ≡ Some line.1 → BringsReplies (behind.port line.1).to_come coming
      → Spoken (greeted coming) after → Talked tells new line.0.0 after
      → SaidOn behind (tells new.ports.now) line.1 Spoken
  said_from new coming after Spoken there brings says has =
      let same : has.port ≡ line.1 = some_same has.port line.1 (sym has.reached ∙ there) in
      record {
        coming = coming;
        brings = brings;
        after = after;
        says = says;
        sent = subst (λ (n : ℕ). HasAsked ((tells new.ports.now).port n).sent after.asked) same has.asked;
        ended = (line_of new.lines.items.items line.0.0).ended;
        left = subst (λ (n : ℕ). HasComing (line_of new.lines.items.items line.0.0).ended
            ((tells new.ports.now).port n).to_come after.coming) same has.coming;
      }

  -- the lane's end
  ended : (views : List LaneView) (old new : PortsLink P) (turns : List (LaneTurn (PortsLink P))) (last : Progress)
      (news : List LaneNews) → IsCloudReady behind tells old line
      → LaneRun (Goes tells faults line.0.0) (starting (lane_at views line.0.0)) old turns last new
      → Tell (lane_at views line.0.0) turns news
      → HasLaneEnded (Tells behind (tells new.ports.now) line.1) (lane_at views line.0.0) news last.lane.state
  ended views old new turns last news ready run tell = record {
    turns = forget turns;
    last = last;
    run = forget_run (Goes tells faults line.0.0) (starting (lane_at views line.0.0)) last old new turns run;
    tell = forget_tell (lane_at views line.0.0) turns news tell;
    state_is = refl;
    spoken = λ told.
        let start = ready.talk told in
        let t = talks_run (telling tells faults) (Talked tells) line.0.0 (starting
        (lane_at views line.0.0)) last old new
        turns (greeted start.0) run start.2 in
        said_from new start.0 t.0 (TalksBy (forget turns))
        ((on_run tells faults line.0.0 (starting (lane_at views line.0.0)) last old new turns run).leaves.lines line.0.0
        ∙ ready.port) start.1 (forget_talks turns (greeted start.0) t.0 t.2) t.1;
  }

  -- the step behind which a lane stops
  abbrev Step : List LaneView → PortsLink P → Progress → Option Request → StepErr → PortsLink P → List LaneView
      → Type 0
  Step views mid at request e new after =
      LaneSteps (telling tells faults) (Talked tells) line.0.0 mid (with_state views line.0.0 at.lane.state) request
      (Err e) new after

  here_lane : (views : List LaneView) (at : Progress) → line.0.0 < length views
      → at.lane.work ≡ (lane_at views line.0.0).work → lane_at (with_state views line.0.0 at.lane.state) line.0.0 ≡
      at.lane
  here_lane views at lt work = lane_with views line.0.0 at.lane.state lt
      ∙ ap (λ (w : Work). let lane : LaneView = record { work = w; state = at.lane.state } in lane) (sym work)

  strange : (views : List LaneView) (old mid new : PortsLink P) (turns : List (LaneTurn (PortsLink P))) (at : Progress)
      (news : List LaneNews) (kind : ℕ) (after : List LaneView) (o : Option Request) → line.0.0 < length views
      → IsCloudReady behind tells old line
      → LaneAlong (Goes tells faults line.0.0) (starting (lane_at views line.0.0)) old turns at mid
      → Tell (lane_at views line.0.0) turns news → at.stopped ≡ false → request_of at.lane ≡ o
      → Step views mid at o (errors.Strange kind) new after
      → LaneStrange (Tells behind (tells new.ports.now) line.1) (lane_at views line.0.0) news kind Refused
      × (after ≡ with_state views line.0.0 Refused)
  strange views old mid new turns at news kind after None lt ready along tell on asks step = absurd step
  strange views old mid new turns at news kind after (Some request) lt ready along tell on asks step =
      let lane = lane_at views line.0.0 in
      let s = step.0 in
      let goes = on_more tells faults line.0.0 old mid new
      (on_along tells faults line.0.0 (starting lane) at old mid turns along)
      (on_passed tells faults line.0.0 mid new request s.bytes s.passed) in (
        record {
          turns = forget turns;
          at = at;
          along = forget_along (Goes tells faults line.0.0) (starting lane) at old mid turns along;
          tell = forget_tell lane turns news tell;
          on = on;
          request = request;
          asks = asks;
          content = s.bytes;
          none = subst (λ (l : LaneView). (reply : Reply) → ¬ (IsReplyToLane l s.bytes reply))
              (here_lane views at lt (work_kept (Goes tells faults line.0.0) (starting lane) at old mid turns along))
              s.none;
          first = s.first;
          state_is = refl;
          spoken = λ told.
              let start = ready.talk told in
              let t = talks_along (telling tells faults) (Talked tells) line.0.0 (starting lane) at old mid turns
              (greeted start.0) along start.2 in
              let x = s.passed.says t.0 t.1 in
              said_from new start.0 (said t.0 (request_bytes request)) (SaysBehind (forget turns) request s.bytes)
              (goes.leaves.lines line.0.0 ∙ ready.port) start.1
              (t.0, forget_talks turns (greeted start.0) t.0 t.2, x.0, refl) x.1;
        },
        step.1 ∙ with_twice views line.0.0 at.lane.state Refused,
      )

  lost : (views : List LaneView) (old mid new : PortsLink P) (turns : List (LaneTurn (PortsLink P))) (at : Progress)
      (news : List LaneNews) (after : List LaneView) (o : Option Request) → (tells old.ports.now).told ≡ behind.told
      → IsCloudReady behind tells old line
      → LaneAlong (Goes tells faults line.0.0) (starting (lane_at views line.0.0)) old turns at mid
      → Tell (lane_at views line.0.0) turns news → at.stopped ≡ false → request_of at.lane ≡ o
      → Step views mid at o errors.Lost new after
      → (l : LaneLost (TellsUpTo behind (tells new.ports.now) line.1) (lane_at views line.0.0) news)
      × (after ≡ with_state views line.0.0 l.at.lane.state)
  lost views old mid new turns at news after None same ready along tell on asks step = absurd step
  lost views old mid new turns at news after (Some request) same ready along tell on asks step =
      let lane = lane_at views line.0.0 in
      let goes = on_along tells faults line.0.0 (starting lane) at old mid turns along in (
        record {
          turns = forget turns;
          at = at;
          along = forget_along (Goes tells faults line.0.0) (starting lane) at old mid turns along;
          tell = forget_tell lane turns news tell;
          on = on;
          request = request;
          asks = asks;
          unheard = λ told.
              let start = ready.talk told in
              let t = talks_along (telling tells faults) (Talked tells) line.0.0 (starting lane) at old mid turns
              (greeted start.0) along start.2 in
              let there = goes.leaves.lines line.0.0 ∙ ready.port in (
                tells mid.ports.now,
                said_from mid start.0 t.0 (TalksBy (forget turns)) there start.1
                    (forget_talks turns (greeted start.0) t.0 t.2) t.1,
                (step.0.passes.bytes (subst IsTrue (sym (goes.leaves.told ∙ same)) told) line.1 there).others,
              );
        },
        step.1,
      )

  -- what the lane came to
  pub goes : (views after : List LaneView) (old new : PortsLink P) (came : Result (Unit {0}) StepErr)
      (news : List LaneNews) (result : Result (Unit {0}) Halt) (before text : List ℕ) → line.0.0 < length views
      → Finishes (telling tells faults) (Talked tells) line.0.0 old views [] came new after news
      → PutsLaneLines line.0.0 came news result before text → (tells old.ports.now).told ≡ behind.told
      → IsCloudReady behind tells old line
      → LaneGoesOnPort behind (tells new.ports.now) line views result after before text
  goes views after old new (Ok u) news (Ok v) before text lt f puts same ready = (
    Ok u,
    news,
    f.1.lane.state,
    ended views old new f.0 f.1 news ready f.3 (subst (Tell (lane_at views line.0.0) f.0) (sym f.5) f.4),
    f.6,
    puts,
  )
  goes views after old new (Ok u) news (Err halts.Lost) before text lt f puts same ready = absurd puts
  goes views after old new (Ok u) news (Err halts.NoMemory) before text lt f puts same ready = tt
  goes views after old new (Err errors.Lost) news (Ok v) before text lt f puts same ready = absurd puts
  goes views after old new (Err errors.Lost) news (Err halts.Lost) before text lt f puts same ready =
      let l = lost views old f.3 new f.0 f.1 news after (request_of f.1.lane) same ready f.4
      (subst (Tell (lane_at views line.0.0) f.0) (sym f.6) f.5) f.7 refl f.8 in
      (news, l.0, l.1, puts)
  goes views after old new (Err errors.Lost) news (Err halts.NoMemory) before text lt f puts same ready = tt
  goes views after old new (Err (errors.Strange kind)) news (Ok v) before text lt f puts same ready =
      let s = strange views old f.3 new f.0 f.1 news kind after (request_of f.1.lane) lt ready f.4
      (subst (Tell (lane_at views line.0.0) f.0) (sym f.6) f.5) f.7 refl f.8 in
      (Err (errors.Strange kind), news, Refused, s.0, s.1, puts)
  goes views after old new (Err (errors.Strange kind)) news (Err halts.Lost) before text lt f puts same ready =
      absurd puts
  goes views after old new (Err (errors.Strange kind)) news (Err halts.NoMemory) before text lt f puts same ready = tt
  goes views after old new (Err errors.NoMemory) news (Ok v) before text lt f puts same ready = absurd puts
  goes views after old new (Err errors.NoMemory) news (Err halts.Lost) before text lt f puts same ready = absurd puts
  goes views after old new (Err errors.NoMemory) news (Err halts.NoMemory) before text lt f puts same ready = tt

-- ---- what it leaves

module _ {P : Type 0} (tells : P → Telling) (faults : P → ℕ) (cloud : ℕ) where
  step_leaves : (views after : List LaneView) (mid new : PortsLink P) (o : Option Request) (e : StepErr)
      → LaneSteps (telling tells faults) (Talked tells) cloud mid views o (Err e) new after → KeepsOtherPorts tells cloud mid new
  step_leaves views after mid new None errors.Lost step = absurd step
  step_leaves views after mid new None (errors.Strange kind) step = absurd step
  step_leaves views after mid new None errors.NoMemory step =
      subst (λ (x : PortsLink P). KeepsOtherPorts tells cloud mid x) (sym step.0) (leaves_none tells faults cloud mid)
  step_leaves views after mid new (Some request) errors.Lost step =
      leaves_ask tells faults cloud mid new _ refl step.0.passes
  step_leaves views after mid new (Some request) (errors.Strange kind) step =
      leaves_ask tells faults cloud mid new _ refl step.0.passed.passes
  step_leaves views after mid new (Some request) errors.NoMemory step = elim step.0 [
    | inl same ↦ subst (λ (x : PortsLink P). KeepsOtherPorts tells cloud mid x) (sym same) (leaves_none tells faults cloud mid)
    | inr untaken ↦ leaves_ask tells faults cloud mid new _ refl untaken.passed.passes
  ]

  pub leaves_all : (views after : List LaneView) (old new : PortsLink P) (came : Result (Unit {0}) StepErr)
      (before news : List LaneNews)
      → Finishes (telling tells faults) (Talked tells) cloud old views before came new after news
      → KeepsOtherPorts tells cloud old new
  leaves_all views after old new (Ok u) before news f =
      (on_run tells faults cloud (starting (lane_at views cloud)) f.1 old new f.0 f.3).leaves
  leaves_all views after old new (Err e) before news f =
      leaves_on tells faults cloud old f.3 new
      (on_along tells faults cloud (starting (lane_at views cloud)) f.1 old f.3 f.0 f.4).leaves
      (step_leaves (with_state views cloud f.1.lane.state) after f.3 new (request_of f.1.lane) e f.8)

  strange_talks : (views after : List LaneView) (mid new : PortsLink P) (o : Option Request) (kind : ℕ)
      → LaneSteps (telling tells faults) (Talked tells) cloud mid views o (Err (errors.Strange kind)) new after
      → SaysNothingElse (Talked tells) cloud mid new
  strange_talks views after mid new None kind step = absurd step
  strange_talks views after mid new (Some request) kind step = step.0.passed.says_else

  pub talks_all : (views after : List LaneView) (old new : PortsLink P) (came : Result (Unit {0}) StepErr)
      (before news : List LaneNews) (result : Result (Unit {0}) Halt) (text now : List ℕ)
      → Finishes (telling tells faults) (Talked tells) cloud old views before came new after news
      → PutsLaneLines cloud came news result text now → OnOk result (SaysNothingElse (Talked tells) cloud old new)
  talks_all views after old new (Ok u) before news (Ok v) text now f puts =
      (on_run tells faults cloud (starting (lane_at views cloud)) f.1 old new f.0 f.3).talks
  talks_all views after old new (Err errors.Lost) before news (Ok v) text now f puts = absurd puts
  talks_all views after old new (Err errors.NoMemory) before news (Ok v) text now f puts = absurd puts
  talks_all views after old new (Err (errors.Strange kind)) before news (Ok v) text now f puts =
      λ other talk apart has. strange_talks (with_state views cloud f.1.lane.state) after f.3 new
      (request_of f.1.lane) kind
      f.8 other talk apart
      ((on_along tells faults cloud (starting (lane_at views cloud)) f.1 old f.3 f.0 f.4).talks other talk apart has)
  talks_all views after old new came before news (Err h) text now f puts = tt

  lost_rose : (views after : List LaneView) (mid new : PortsLink P) (o : Option Request)
      → LaneSteps (telling tells faults) (Talked tells) cloud mid views o (Err errors.Lost) new after
      → Rose (faults mid.ports.now) (faults new.ports.now)
  lost_rose views after mid new None step = absurd step
  lost_rose views after mid new (Some request) step = step.0.rose

  pub lost_all : (views after : List LaneView) (old new : PortsLink P) (came : Result (Unit {0}) StepErr)
      (before news : List LaneNews) (result : Result (Unit {0}) Halt) (text now : List ℕ)
      → Finishes (telling tells faults) (Talked tells) cloud old views before came new after news
      → PutsLaneLines cloud came news result text now → IfLost result (Rose (faults old.ports.now) (faults new.ports.now))
  lost_all views after old new came before news (Ok v) text now f puts = tt
  lost_all views after old new came before news (Err halts.NoMemory) text now f puts = tt
  lost_all views after old new (Ok u) before news (Err halts.Lost) text now f puts = absurd puts
  lost_all views after old new (Err errors.NoMemory) before news (Err halts.Lost) text now f puts = absurd puts
  lost_all views after old new (Err (errors.Strange kind)) before news (Err halts.Lost) text now f puts = absurd puts
  lost_all views after old new (Err errors.Lost) before news (Err halts.Lost) text now f puts =
      rose_on (faults old.ports.now) (faults f.3.ports.now) (faults new.ports.now)
      (on_along tells faults cloud (starting (lane_at views cloud)) f.1 old f.3 f.0 f.4).later
      (lost_rose (with_state views cloud f.1.lane.state) after f.3 new (request_of f.1.lane) f.8)
