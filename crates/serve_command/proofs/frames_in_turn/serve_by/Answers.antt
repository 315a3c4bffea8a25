use Rattle.std.proofs.Common.{rules, ℕ, ◌≡◌, ◌+◌, ◌^◌, List, [], subst, sym, ◌∙◌, ap, arith}
use Rattle.ports_link.specs.Frames.Frames.{IsRefused}
use Rattle.serve_command.specs.declared.served.Served.{Served}
use Rattle.serve_command.specs.Connection.{ServesConnection}
use Rattle.serve_command.specs.Framing.{IsAlongFrames, ended_with}
use Rattle.serve_command.proofs.PassingOn.{none_refused}
use Rattle.serve_command.proofs.Ending.{begun, ends_at_end, ends_spent, ends_by_stop}
use Rattle.serve_command.proofs.frames_in_turn.serve_by.Goals as goal

pub loop-received-init : goal.loop-received-init
loop-received-init g c = record {
  piece = search rules;
  ready = c.reset.ensures.ready;
  lawful = subst (λ (l : List ℕ). IsRefused l → ⊥) (sym c.reset.ensures.empty) none_refused;
  along = subst (λ (l : List ℕ). IsAlongFrames g.R.Responder.step (g.P.Ports.tells c.args.ports.now) (g.P.Ports.tells c.args.ports.now) c.args.port c.args.responder.now c.args.responder.now l [] 0) (sym c.reset.ensures.empty)
      (begun g.R.Responder.step (g.P.Ports.tells c.args.ports.now) c.args.port c.args.responder.now);
  within = search rules;
  loans = search rules;
  told = search rules;
  still = search rules;
}

pub returns-in-Ok-eq0-clause-serves : goal.returns-in-Ok-eq0-clause-serves
returns-in-Ok-eq0-clause-serves g c =
    let along = c.in-Ok-eq0.ensures.along c.args.responder.now (g.P.Ports.tells c.args.ports.now) c.loop-received.received c.loop-received.invariant.told c.loop-received.invariant.along in
    subst (λ (s : Served). ServesConnection g.R.Responder.step (g.P.Ports.tells c.args.ports.now) (g.P.Ports.tells c.serve_some.new.ports) c.args.port c.args.responder.now c.serve_some.new.responder s)
    (sym (c.ended.ensures ∙ ap ended_with c.len.ensures))
    (ends_at_end g.R.Responder.step (g.P.Ports.tells c.args.ports.now) (g.P.Ports.tells c.serve_some.new.ports) c.args.port c.args.responder.now c.serve_some.new.responder c.serve_some.new.framer
    (c.loop-received.received + c.in-Ok-eq0.field-0) (omega (arith, c.loop-received-test.true, c.in-Ok-eq0.field-0-test))
    (λ tells. c.in-Ok-eq0.ensures.ended (rw c.loop-received.invariant.told tells) c.in-Ok-eq0.field-0-test) c.in-Ok-eq0.ensures.ready c.in-Ok-eq0.ensures.lawful along)

pub returns-in-Err-clause-serves : goal.returns-in-Err-clause-serves
returns-in-Err-clause-serves g c =
    subst (λ (s : Served). ServesConnection g.R.Responder.step (g.P.Ports.tells c.args.ports.now) (g.P.Ports.tells c.serve_some.new.ports) c.args.port c.args.responder.now c.serve_some.new.responder s)
    (sym c.stopped.ensures)
    (ends_by_stop g.R.Responder.step (g.P.Ports.tells c.args.ports.now) (g.P.Ports.tells c.serve_some.new.ports) c.args.port c.args.responder.now c.serve_some.new.responder c.in-Err.stop
    (c.in-Err.ensures.stops c.args.responder.now (g.P.Ports.tells c.args.ports.now) c.loop-received.received c.loop-received.invariant.told c.loop-received.invariant.along))

pub returns-clause-serves : goal.returns-clause-serves
returns-clause-serves g c =
    let all : c.loop-received.received ≡ 2 ^ 40 = omega (arith, c.loop-received-test.false, c.loop-received.invariant.within) in
    ends_spent g.R.Responder.step (g.P.Ports.tells c.args.ports.now) (g.P.Ports.tells c.loop-received.ports) c.args.port c.args.responder.now c.loop-received.responder c.loop-received.framer
    c.loop-received.received all c.loop-received.invariant.ready c.loop-received.invariant.lawful c.loop-received.invariant.along
