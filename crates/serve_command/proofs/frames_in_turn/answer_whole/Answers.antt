use Rattle.std.proofs.Common.{subst, sym, List, ℕ}
use Rattle.ports_link.specs.Frames.Frames.{frame}
use Rattle.share_server.specs.CdEdges.Ports.{Sent, SentPart}
use Rattle.serve_command.specs.Framing.{IsAlongFrames}
use Rattle.serve_command.proofs.PassingOn.{answered, broken}
use Rattle.serve_command.proofs.frames_in_turn.answer_whole.Goals as goal

pub returns-in-Err-clause-broken : goal.returns-in-Err-clause-broken
returns-in-Err-clause-broken g c = λ first start pending received told along.
    broken g.R.Responder.step start (g.P.Ports.tells c.args.ports.now) (g.P.Ports.tells c.send_frame.new.ports) c.args.port first c.args.responder.now c.respond.new.self
    c.args.framer.now pending c.in-Some.request.now c.respond.new.reply received told c.in-Some.ensures.some c.respond.ensures.steps c.respond.ensures.content
    (λ tells. subst (λ (l : List ℕ). SentPart (g.P.Ports.tells c.args.ports.now) (g.P.Ports.tells c.send_frame.new.ports) c.args.port (frame l)) c.content.ensures.value (c.in-Err.ensures.part tells)) along

pub returns-clause-along : goal.returns-clause-along
returns-clause-along g c = λ first start pending received told along.
    subst (λ (l : List ℕ). IsAlongFrames g.R.Responder.step start (g.P.Ports.tells c.send_frame.new.ports) c.args.port first c.respond.new.self l pending received) (sym c.clear.ensures.empty)
    (answered g.R.Responder.step start (g.P.Ports.tells c.args.ports.now) (g.P.Ports.tells c.send_frame.new.ports) c.args.port first c.args.responder.now c.respond.new.self
    c.args.framer.now pending c.in-Some.request.now c.respond.new.reply received told c.in-Some.ensures.some c.respond.ensures.steps c.respond.ensures.content
    (λ tells. subst (λ (l : List ℕ). Sent (g.P.Ports.tells c.args.ports.now) (g.P.Ports.tells c.send_frame.new.ports) c.args.port (frame l)) c.content.ensures.value (c.in-Ok.ensures.sent tells)) along)
