use Rattle.std.proofs.Common.{ℕ, ◌+◌, List, subst, sym, ◌∙◌}
use Rattle.std.proofs.lemmas.List.{take-append-le}
use Rattle.share_server.specs.CdEdges.Ports.{Telling}
use Rattle.serve_command.specs.Framing.{IsAlongFrames, Broken}
use Rattle.serve_command.proofs.Ending.{broke_off, received_some}
use Rattle.serve_command.proofs.frames_in_turn.serve_some.Goals as goal

pub returns-in-Err-clause-stops : goal.returns-in-Err-clause-stops
returns-in-Err-clause-stops g c = λ first start received told along.
    subst (λ (t : Telling). Broken g.R.Responder.step start t c.args.port first c.args.responder.now) (sym c.in-Err.ensures.failed)
    (broke_off g.R.Responder.step start (g.P.Ports.tells c.args.ports.now) c.args.port first c.args.responder.now c.args.framer.now received along)

pub returns-in-Ok-serve_piece-clause-along : goal.returns-in-Ok-serve_piece-clause-along
returns-in-Ok-serve_piece-clause-along g c = λ first start received told along.
    c.in-Ok-serve_piece.ensures.along first start (received + c.in-Ok.count) (c.in-Ok.ensures.told ∙ told)
    (subst (λ (l : List ℕ). IsAlongFrames g.R.Responder.step start (g.P.Ports.tells c.recv.new.self) c.args.port first c.args.responder.now c.args.framer.now l (received + c.in-Ok.count))
    (sym (c.front.ensures ∙ take-append-le c.in-Ok.count c.recv.new.out _ c.in-Ok.ensures.bound.0))
    (received_some g.R.Responder.step start (g.P.Ports.tells c.args.ports.now) (g.P.Ports.tells c.recv.new.self) c.args.port first c.args.responder.now c.args.framer.now received c.in-Ok.count c.recv.new.out
    told c.in-Ok.ensures.bound.0 c.in-Ok.ensures.receives along))

pub returns-in-Err-serve_piece-clause-stops : goal.returns-in-Err-serve_piece-clause-stops
returns-in-Err-serve_piece-clause-stops g c = λ first start received told along.
    c.in-Err-serve_piece.ensures.stops first start (received + c.in-Ok.count) (c.in-Ok.ensures.told ∙ told)
    (subst (λ (l : List ℕ). IsAlongFrames g.R.Responder.step start (g.P.Ports.tells c.recv.new.self) c.args.port first c.args.responder.now c.args.framer.now l (received + c.in-Ok.count))
    (sym (c.front.ensures ∙ take-append-le c.in-Ok.count c.recv.new.out _ c.in-Ok.ensures.bound.0))
    (received_some g.R.Responder.step start (g.P.Ports.tells c.args.ports.now) (g.P.Ports.tells c.recv.new.self) c.args.port first c.args.responder.now c.args.framer.now received c.in-Ok.count c.recv.new.out
    told c.in-Ok.ensures.bound.0 c.in-Ok.ensures.receives along))
