-- What lanes send over ports, whatever becomes of them.
use Rattle.std.proofs.Common.{◌≡◌, ◌⊎◌, inl, inr, ⊎_elim, ℕ, List, [], ◌∷◌, Option, Some, None, refl, sym, ap, ◌∙◌, subst, IsTrue, Ok, Err}
use Rattle.std.specs.Prelude.{◌≢◌, Result}
use Rattle.std.specs.List.{Contains}
use Rattle.std.proofs.lemmas.Bool.Decides.{eqb_tells}
use Rattle.transcript.specs.CdBase.ids.CloudNo.{CloudNo}
use Rattle.transcript.specs.CdEdges.Ports.{Telling, Port, OthersStay}
use Rattle.ports_link.specs.Messages.request.Request.{Request}
use Rattle.ports_link.specs.Messages.Requests.{request_bytes}
use Rattle.ports_link.specs.UserDedup.Link.{Exchange}
use Rattle.ports_link.specs.Sending.{SendsPieces, SendsOnly, NoneSent}
use Rattle.ports_link.proofs.Sending.{pieces_twice, pieces_weaker}
use Rattle.ports_link.specs.declared.link.PortsLink.{PortsLink}
use Rattle.ports_link.specs.Lines.{line_of}
use Rattle.ports_link.specs.Tells.{PassesOver, telling}
use Rattle.lane_steps.specs.UploadJob.news.LaneNews.{LaneNews}
use Rattle.lane_steps.specs.UploadJob.Lanes.{LaneView, with_state}
use Rattle.lane_steps.specs.UploadJob.Upload.{Work}
use Rattle.lane_steps.specs.Runs.{LaneTurn, Progress, starting, progress_after, request_of, LaneRun, LaneAlong, lane_at}
use Rattle.lane_steps.specs.declared.error.StepErr.{StepErr}
use Rattle.lane_steps.specs.declared.error.StepErr.TheVariants as errors
use Rattle.lane_steps.specs.Steps.{LaneSteps, Finishes, Passed}
use Rattle.backup_command.specs.Sends.{IsAskOf, IsAskOn, SendsOn, SendsFor}
use Rattle.backup_command.specs.Steps.{KeepsOtherPorts, Talked}
use Rattle.backup_command.proofs.LaneAsks.{IsAtOwn, own_ask, after_own, same_work}
use Rattle.backup_command.proofs.Leaving.{Goes, leaves_ask, on_along}
use Rattle.backup_command.proofs.Walking.{work_kept}
use Rattle.lane_steps.proofs.UploadJob.Laning.{works}
use Rattle.ports_link.proofs.UserDedup.Owned.{contains_here, contains_later}

-- ---- ports

pub on_none : (Is : ℕ → List ℕ → Type 0) (t : Telling) → SendsOn Is t t
on_none Is t port = inl NoneSent

pub on_twice : (Is : ℕ → List ℕ → Type 0) (t u v : Telling) → SendsOn Is t u → SendsOn Is u v → SendsOn Is t v
on_twice Is t u v one two port = ⊎_elim
    (λ more. ⊎_elim (λ first. inl (pieces_twice (Is port) _ _ _ first more)) (λ first. inr (pieces_twice (Is port) _ _ _ first more)) (one port))
    (λ fresh. inr fresh) (two port)

pub on_weaker : (Is Js : ℕ → List ℕ → Type 0) → ((port : ℕ) (content : List ℕ) → Is port content → Js port content) → (t u : Telling) → SendsOn Is t u → SendsOn Js t u
on_weaker Is Js less t u sends port =
    ⊎_elim (λ more. inl (pieces_weaker (Is port) (Js port) (less port) _ _ more)) (λ fresh. inr (pieces_weaker (Is port) (Js port) (less port) _ _ fresh)) (sends port)

one_or_other : (a b : ℕ) → (a ≡ b) ⊎ (a ≢ b)
one_or_other a b = ⊎_elim (λ same. inl same.1) (λ apart. inr apart.1) (eqb_tells a b)

-- what was sent where the other ports stay was sent on one
on_port : (Is : List ℕ → Type 0) (t u : Telling) (number : ℕ) → SendsOnly Is t u → OthersStay t u number → SendsOn (λ port content. (port ≡ number) × Is content) t u
on_port Is t u number sends others port = ⊎_elim
    (λ (same : port ≡ number). ⊎_elim
    (λ more. inl (pieces_weaker Is (λ content. (port ≡ number) × Is content) (λ content is. (same, is)) _ _ more))
    (λ fresh. inr (pieces_weaker Is (λ content. (port ≡ number) × Is content) (λ content is. (same, is)) _ _ fresh)) (sends port))
    (λ (apart : port ≢ number). inl (subst (λ (p : Port). SendsPieces (λ content. (port ≡ number) × Is content) (t.port port).sent p.sent) (sym (others port apart)) NoneSent))
    (one_or_other port number)

-- ---- asks of one cloud

module _ {P : Type 0} (tells : P → Telling) (faults : P → ℕ) (cloud : ℕ) where
  for_none : (Is : List ℕ → Type 0) (link : PortsLink P) → SendsFor tells cloud Is link link
  for_none Is link told port there = on_none (λ other content. (other ≡ port) × Is content) (tells link.ports.now)

  for_twice : (Is : List ℕ → Type 0) (one two three : PortsLink P) → KeepsOtherPorts tells cloud one two → SendsFor tells cloud Is one two → SendsFor tells cloud Is two three
      → SendsFor tells cloud Is one three
  for_twice Is one two three kept a b told port there =
      on_twice (λ other content. (other ≡ port) × Is content) (tells one.ports.now) (tells two.ports.now) (tells three.ports.now) (a told port there)
      (b (subst IsTrue (sym kept.told) told) port (kept.lines cloud ∙ there))

  for_ask : (Is : List ℕ → Type 0) (old new : PortsLink P) (e : Exchange) → e.cloud ≡ cloud → Is e.content → PassesOver tells faults old e new → SendsFor tells cloud Is old new
  for_ask Is old new e here is passes told port there =
      on_weaker (λ other content. (other ≡ port) × (content ≡ e.content)) (λ other content. (other ≡ port) × Is content)
      (λ other content so. (so.0, subst Is (sym so.1) is)) (tells old.ports.now) (tells new.ports.now)
      (on_port (λ content. content ≡ e.content) (tells old.ports.now) (tells new.ports.now) port (passes.sends told)
      (passes.bytes told port (ap (λ (n : ℕ). (line_of old.lines.items.items n).port) here ∙ there)).others)

  for_passed : (work : Work) (old new : PortsLink P) (request : Request) (content : List ℕ) → IsAskOf work (request_bytes request)
      → Passed (telling tells faults) (Talked tells) cloud old request content new → SendsFor tells cloud (IsAskOf work) old new
  for_passed work old new request content is passed =
      for_ask (IsAskOf work) old new (record { cloud = cloud; content = request_bytes request; reply = Some content }) refl is passed.passes

  kept_passed : (old new : PortsLink P) (request : Request) (content : List ℕ)
      → Passed (telling tells faults) (Talked tells) cloud old request content new → KeepsOtherPorts tells cloud old new
  kept_passed old new request content passed =
      leaves_ask tells faults cloud old new (record { cloud = cloud; content = request_bytes request; reply = Some content }) refl passed.passes

  for_run : (p last : Progress) (old new : PortsLink P) (turns : List (LaneTurn (PortsLink P))) → IsAtOwn p.lane.work p.lane.state
      → LaneRun (Goes tells faults cloud) p old turns last new → SendsFor tells cloud (IsAskOf p.lane.work) old new
  for_run p last old new [] own run = subst (λ (x : PortsLink P). SendsFor tells cloud (IsAskOf p.lane.work) old x) (sym run.2) (for_none (IsAskOf p.lane.work) old)
  for_run p last old new (t ∷ turns) own run =
      let mid = run.3.0 in
      let passed = run.3.1.passed in
      for_twice (IsAskOf p.lane.work) old mid new (kept_passed old mid t.request run.3.1.bytes passed)
      (for_passed p.lane.work old mid t.request run.3.1.bytes (own_ask p.lane.work p.lane.state t.request own run.2) passed)
      (for_run (progress_after p t.reply) last mid new turns (after_own p.lane.work p.lane.state t.reply own) run.3.2)

  for_along : (p last : Progress) (old new : PortsLink P) (turns : List (LaneTurn (PortsLink P))) → IsAtOwn p.lane.work p.lane.state
      → LaneAlong (Goes tells faults cloud) p old turns last new → SendsFor tells cloud (IsAskOf p.lane.work) old new
  for_along p last old new [] own along = subst (λ (x : PortsLink P). SendsFor tells cloud (IsAskOf p.lane.work) old x) (sym along.1) (for_none (IsAskOf p.lane.work) old)
  for_along p last old new (t ∷ turns) own along =
      let mid = along.3.0 in
      let passed = along.3.1.passed in
      for_twice (IsAskOf p.lane.work) old mid new (kept_passed old mid t.request along.3.1.bytes passed)
      (for_passed p.lane.work old mid t.request along.3.1.bytes (own_ask p.lane.work p.lane.state t.request own along.2) passed)
      (for_along (progress_after p t.reply) last mid new turns (after_own p.lane.work p.lane.state t.reply own) along.3.2)

  own_along : (p last : Progress) (old new : PortsLink P) (turns : List (LaneTurn (PortsLink P))) → IsAtOwn p.lane.work p.lane.state
      → LaneAlong (Goes tells faults cloud) p old turns last new → IsAtOwn last.lane.work last.lane.state
  own_along p last old new [] own along = subst (λ (x : Progress). IsAtOwn x.lane.work x.lane.state) (sym along.0) own
  own_along p last old new (t ∷ turns) own along =
      own_along (progress_after p t.reply) last along.3.0 new turns (after_own p.lane.work p.lane.state t.reply own) along.3.2

  step_sends : (lane : LaneView) (views after : List LaneView) (mid new : PortsLink P) (o : Option Request) (e : StepErr) → IsAtOwn lane.work lane.state
      → request_of lane ≡ o → LaneSteps (telling tells faults) (Talked tells) cloud mid views o (Err e) new after → SendsFor tells cloud (IsAskOf lane.work) mid new
  step_sends lane views after mid new None errors.Lost own asks step = absurd step
  step_sends lane views after mid new None (errors.Strange kind) own asks step = absurd step
  step_sends lane views after mid new None errors.NoMemory own asks step =
      subst (λ (x : PortsLink P). SendsFor tells cloud (IsAskOf lane.work) mid x) (sym step.0) (for_none (IsAskOf lane.work) mid)
  step_sends lane views after mid new (Some request) errors.Lost own asks step =
      for_ask (IsAskOf lane.work) mid new (record { cloud = cloud; content = request_bytes request; reply = None }) refl
      (own_ask lane.work lane.state request own asks) step.0.passes
  step_sends lane views after mid new (Some request) (errors.Strange kind) own asks step =
      for_passed lane.work mid new request step.0.bytes (own_ask lane.work lane.state request own asks) step.0.passed
  step_sends lane views after mid new (Some request) errors.NoMemory own asks step = elim step.0 [
    | inl same ↦ subst (λ (x : PortsLink P). SendsFor tells cloud (IsAskOf lane.work) mid x) (sym same) (for_none (IsAskOf lane.work) mid)
    | inr untaken ↦ for_passed lane.work mid new request untaken.bytes (own_ask lane.work lane.state request own asks) untaken.passed
  ]

  pub sends_all : (views after : List LaneView) (old new : PortsLink P) (came : Result (Unit {0}) StepErr) (before news : List LaneNews)
      → IsAtOwn (lane_at views cloud).work (lane_at views cloud).state
      → Finishes (telling tells faults) (Talked tells) cloud old views before came new after news
      → SendsFor tells cloud (IsAskOf (lane_at views cloud).work) old new
  sends_all views after old new (Ok u) before news own f = for_run (starting (lane_at views cloud)) f.1 old new f.0 own f.3
  sends_all views after old new (Err e) before news own f =
      let lane = lane_at views cloud in
      for_twice (IsAskOf lane.work) old f.3 new (on_along tells faults cloud (starting lane) f.1 old f.3 f.0 f.4).leaves
      (for_along (starting lane) f.1 old f.3 f.0 own f.4)
      (subst (λ (w : Work). SendsFor tells cloud (IsAskOf w) f.3 new) (work_kept (Goes tells faults cloud) (starting lane) f.1 old f.3 f.0 f.4)
      (step_sends f.1.lane (with_state views cloud f.1.lane.state) after f.3 new (request_of f.1.lane) e
      (own_along (starting lane) f.1 old f.3 f.0 own f.4) refl f.8))

-- ---- lanes, each on its cloud's port

pub first_line : (line : CloudNo × ℕ) (rest : List (CloudNo × ℕ)) (views : List LaneView) (t u : Telling)
    → SendsOn (λ port content. (port ≡ line.1) × IsAskOf (lane_at views line.0.0).work content) t u → SendsOn (IsAskOn (line ∷ rest) views) t u
first_line line rest views t u =
    on_weaker (λ port content. (port ≡ line.1) × IsAskOf (lane_at views line.0.0).work content) (IsAskOn (line ∷ rest) views)
    (λ port content is. record {
      cloud = line.0;
      on = subst (λ (n : ℕ). Contains (line ∷ rest) (line.0, n)) (sym is.0) (contains_here line rest);
      asked = is.1;
    }) t u

pub later_lines : (line : CloudNo × ℕ) (rest : List (CloudNo × ℕ)) (views between : List LaneView) (t u : Telling) → works between ≡ works views
    → SendsOn (IsAskOn rest between) t u → SendsOn (IsAskOn (line ∷ rest) views) t u
later_lines line rest views between t u same =
    on_weaker (IsAskOn rest between) (IsAskOn (line ∷ rest) views)
    (λ port content is. record {
      cloud = is.cloud;
      on = contains_later line rest (is.cloud, port) is.on;
      asked = subst (λ (w : Work). IsAskOf w content) (same_work between views is.cloud.0 same) is.asked;
    }) t u
