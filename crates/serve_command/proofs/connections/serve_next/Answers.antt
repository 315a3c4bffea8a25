use Rattle.std.proofs.Common.{sym, ap, ◌∙◌, subst}
use Rattle.share_server.specs.CdEdges.Ports.{Telling}
use Rattle.serve_command.specs.Serving.{RepliesOne, ServesOne, held_of, standing}
use Rattle.serve_command.specs.Steps.{OneServed}
use Rattle.serve_command.proofs.Passing.{one_served}
use Rattle.serve_command.proofs.connections.serve_next.Goals as goal

pub returns-clause-goes : goal.returns-clause-goes
returns-clause-goes g c =
    let a = c.accept.ensures in
    let b = c.serve_connection-served.ensures in
    let d = c.close.ensures in
    let old = g.P.Ports.tells c.args.ports.now in
    let mid = g.P.Ports.tells c.accept.new.self in
    let new = g.P.Ports.tells c.serve_connection-served.new.ports in
    let ended = c.serve_connection-served.result in
    let server = c.args.desk.now.server in
    let number = server.store.header.cloud.0 in
    let shelf = c.args.shelf.now in
    let after = c.serve_connection-served.new.shelf in
    let from = g.V.Shelf.cloud_at shelf number in
    let to = g.V.Shelf.cloud_at after number in
    let first = held_of server.store from (g.V.Shelf.faults shelf) in
    let last = held_of c.serve_connection-served.new.server.store to (g.V.Shelf.faults after) in
    let serves = ServesOne server.store.header in
    record {
      same = b.same;
      call = b.call;
      told = ap (λ (t : Telling). t.told) d.stays ∙ b.told ∙ a.told;
      replied = subst (λ (t : Telling). OneServed RepliesOne old t first last ended) (sym d.stays)
          (one_served RepliesOne old mid new c.in-Ok.port first last ended c.in-Ok.ensures.opens a.told b.replied);
      served = λ told p serving. let x = b.served told p serving in (
        x.0,
        x.1,
        subst (λ (t : Telling). OneServed serves old t (standing p from) (standing x.0 to) ended) (sym d.stays)
            (one_served serves old mid new c.in-Ok.port (standing p from) (standing x.0 to) ended
            c.in-Ok.ensures.opens a.told x.2),
      );
    }
