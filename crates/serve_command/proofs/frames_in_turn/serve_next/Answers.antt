use Rattle.std.proofs.Common.{subst, sym}
use Rattle.ports_link.specs.Frames.Found.{found_of}
use Rattle.serve_command.specs.Framing.{Stops}
use Rattle.serve_command.specs.declared.served.ConnectionStop.{ConnectionStop}
use Rattle.serve_command.proofs.PassingOn.{took, refused}
use Rattle.serve_command.proofs.frames_in_turn.serve_next.Goals as goal

pub returns-in-Err-clause-stops : goal.returns-in-Err-clause-stops
returns-in-Err-clause-stops g c = λ first start received told along.
    subst (λ (s : ConnectionStop). Stops g.R.Responder.step start (g.P.Ports.tells c.args.ports.now) c.args.port first c.args.responder.now s) (sym c.stop_of.ensures)
    (refused g.R.Responder.step start (g.P.Ports.tells c.args.ports.now) c.args.port first c.args.responder.now c.args.framer.now c.args.piece.now (found_of c.in-Err.error) c.push.new.self received c.in-Err.ensures.err along)

pub returns-in-Ok-answer_whole-clause-along : goal.returns-in-Ok-answer_whole-clause-along
returns-in-Ok-answer_whole-clause-along g c = λ first start received told along.
    c.in-Ok-answer_whole.ensures.along first start _ received told
    (took g.R.Responder.step start (g.P.Ports.tells c.args.ports.now) c.args.port first c.args.responder.now c.args.framer.now c.args.piece.now c.in-Ok.count c.push.new.self received c.in-Ok.ensures.ok along)

pub returns-in-Err-answer_whole-clause-stops : goal.returns-in-Err-answer_whole-clause-stops
returns-in-Err-answer_whole-clause-stops g c = λ first start received told along.
    c.in-Err-answer_whole.ensures.broken first start _ received told
    (took g.R.Responder.step start (g.P.Ports.tells c.args.ports.now) c.args.port first c.args.responder.now c.args.framer.now c.args.piece.now c.in-Ok.count c.push.new.self received c.in-Ok.ensures.ok along)
