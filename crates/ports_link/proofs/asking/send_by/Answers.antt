use Rattle.std.proofs.Common.{List, ℕ, subst}
use Rattle.transcript.specs.CdEdges.Ports.{SentPart}
use Rattle.ports_link.proofs.Steps.{part_in_front}
use Rattle.ports_link.proofs.asking.send_by.Goals as goal

pub returns-in-Err-clause-part : goal.returns-in-Err-clause-part
returns-in-Err-clause-part g c = λ told.
    part_in_front (g.P.Ports.tells c.args.ports.now) (g.P.Ports.tells c.send_all.new.ports) c.args.port c.put_front-count.result c.args.content.now c.put_front-count.new.buffer
    c.put_front-count.ensures.front
    (subst (λ (l : List ℕ). SentPart (g.P.Ports.tells c.args.ports.now) (g.P.Ports.tells c.send_all.new.ports) c.args.port l) c.first.ensures (c.in-Err.ensures.part told))
