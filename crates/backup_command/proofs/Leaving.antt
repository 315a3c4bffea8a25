-- What asks of one cloud leave of a link over ports.
use Rattle.std.proofs.Common.{◌≡◌, ℕ, ◌≤◌, List, [], ◌∷◌, Some, refl, sym, ap, ◌∙◌, subst, arith, IsTrue}
use Rattle.transcript.specs.CdEdges.Ports.{Telling}
use Rattle.ports_link.specs.Messages.request.Request.{Request}
use Rattle.ports_link.specs.Messages.reply.Reply.{Reply}
use Rattle.ports_link.specs.Messages.Requests.{request_bytes}
use Rattle.ports_link.specs.UserDedup.Link.{Exchange, SaysNothingElse}
use Rattle.lane_steps.specs.Runs.{LaneTurn, Progress, progress_after, LaneRun, LaneAlong}
use Rattle.lane_steps.specs.Steps.{Heard, Passed}
use Rattle.ports_link.specs.declared.link.PortsLink.{PortsLink}
use Rattle.ports_link.specs.Lines.{line_of}
use Rattle.ports_link.specs.Tells.{PassesOver, telling}
use Rattle.backup_command.specs.Steps.{KeepsOtherPorts, Talked}

module _ {P : Type 0} (tells : P → Telling) (faults : P → ℕ) (cloud : ℕ) where
  pub leaves_none : (link : PortsLink P) → KeepsOtherPorts tells cloud link link
  leaves_none link = record {
    same_reference = refl;
    told = refl;
    lines = λ other. refl;
    others = λ told port there other apart. refl;
  }

  pub leaves_on : (one two three : PortsLink P) → KeepsOtherPorts tells cloud one two → KeepsOtherPorts tells cloud two three
      → KeepsOtherPorts tells cloud one three
  leaves_on one two three a b = record {
    same_reference = b.same_reference ∙ a.same_reference;
    told = b.told ∙ a.told;
    lines = λ other. b.lines other ∙ a.lines other;
    others = λ told port there other apart.
        b.others (subst IsTrue (sym a.told) told) port (a.lines cloud ∙ there) other apart
        ∙ a.others told port there other apart;
  }

  -- one ask
  pub leaves_ask : (old new : PortsLink P) (e : Exchange) → e.cloud ≡ cloud → PassesOver tells faults old e new
      → KeepsOtherPorts tells cloud old new
  leaves_ask old new e here passes = record {
    same_reference = passes.same_reference;
    told = passes.told;
    lines = passes.lines;
    others = λ told port there.
        (passes.bytes told port (ap (λ (n : ℕ). (line_of old.lines.items.items n).port) here ∙ there)).others;
  }

  -- a reply that came, as a link says it
  abbrev pub Goes : PortsLink P → Request → Reply → PortsLink P → Type 0
  Goes = Heard (telling tells faults) (Talked tells) cloud

  -- a link that went on
  pub record On (old new : PortsLink P) : Type 0 where
    pub leaves : KeepsOtherPorts tells cloud old new
    pub later : faults old.ports.now ≤ faults new.ports.now
    pub talks : SaysNothingElse (Talked tells) cloud old new

  pub on_none : (link : PortsLink P) → On link link
  on_none link = record {
    leaves = leaves_none link;
    later = omega arith;
    talks = λ other before apart has. has;
  }

  pub on_more : (one two three : PortsLink P) → On one two → On two three → On one three
  on_more one two three a b = record {
    leaves = leaves_on one two three a.leaves b.leaves;
    later = let x = a.later in let y = b.later in omega arith;
    talks = λ other before apart has. b.talks other before apart (a.talks other before apart has);
  }

  pub on_passed : (old new : PortsLink P) (request : Request) (content : List ℕ)
      → Passed (telling tells faults) (Talked tells) cloud old request content new → On old new
  on_passed old new request content passed = record {
    leaves = leaves_ask old new (record { cloud = cloud; content = request_bytes request; reply = Some content }) refl
        passed.passes;
    later = passed.passes.later;
    talks = passed.says_else;
  }

  pub on_run : (p last : Progress) (old new : PortsLink P) (turns : List (LaneTurn (PortsLink P)))
      → LaneRun Goes p old turns last new → On old new
  on_run p last old new [] run = subst (λ (x : PortsLink P). On old x) (sym run.2) (on_none old)
  on_run p last old new (t ∷ turns) run =
      let mid = run.3.0 in
      on_more old mid new (on_passed old mid t.request run.3.1.bytes run.3.1.passed)
      (on_run (progress_after p t.reply) last mid new turns run.3.2)

  pub on_along : (p last : Progress) (old new : PortsLink P) (turns : List (LaneTurn (PortsLink P)))
      → LaneAlong Goes p old turns last new → On old new
  on_along p last old new [] along = subst (λ (x : PortsLink P). On old x) (sym along.1) (on_none old)
  on_along p last old new (t ∷ turns) along =
      let mid = along.3.0 in
      on_more old mid new (on_passed old mid t.request along.3.1.bytes along.3.1.passed)
      (on_along (progress_after p t.reply) last mid new turns along.3.2)
