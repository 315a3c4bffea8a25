use Rattle.std.proofs.Common.{arith}
use Rattle.std.proofs.lemmas.Bool.{ltb-true}
use Rattle.local_link.proofs.ByMemory.{reads_by}
use Rattle.local_link.proofs.Passing.{heard, passes_by, said_by}
use Rattle.local_link.proofs.Recalling.{recalled}
use Rattle.local_link.proofs.link.LocalLinkLink.ask.Goals as goal

pub returns-clause-passes : goal.returns-clause-passes
returns-clause-passes g c =
    let e = c.ask_cloud.ensures in
    passes_by g.V.Shelf.cloud_at c.args.self.now c.ask_cloud.new.self c.args.cloud.0 c.args.request.now c.ask_cloud.new.reply c.ask_cloud.result
    (ltb-true c.args.cloud.0 c.args.self.now.servers.shape.n c.requires.reached) (λ i. omega (arith, c.type_inv.request i)) e.rest e.rooms e.next e.same_reference e.call.armings e.call.later
    (λ ok r asked. said_by g.V.Shelf.cloud_at c.args.self.now c.ask_cloud.new.self c.args.cloud.0 r c.ask_cloud.new.reply (g.V.Shelf.faults c.args.self.now.shelf.now) (g.V.Shelf.faults c.ask_cloud.new.self.shelf.now) c.ask_cloud.result (e.answered (heard c.args.self.now.fate (e.delivered.0 ok)) r asked) ok)
    (λ m r asked none is.
    reads_by g.V.Shelf.cloud_at c.args.self.now c.ask_cloud.new.self c.args.cloud.0 m r none is e.rest e.unheard (λ arrives. e.behind arrives r asked)
    c.args.request.now c.ask_cloud.new.reply (g.V.Shelf.faults c.args.self.now.shelf.now) (g.V.Shelf.faults c.ask_cloud.new.self.shelf.now) c.ask_cloud.result
    (λ ok. heard c.args.self.now.fate (e.delivered.0 ok)) (λ arrives. e.enters arrives r asked) (λ arrives. e.found arrives r asked) (λ arrives. e.answered arrives r asked))
    (λ m r told asked none is.
    recalled g.V.Shelf.cloud_at c.args.self.now c.ask_cloud.new.self c.args.cloud.0 m r none told is e.rest e.unheard c.args.request.now c.ask_cloud.new.reply c.ask_cloud.result
    (λ ok. heard c.args.self.now.fate (e.delivered.0 ok)) (λ arrives. e.behind arrives r asked) (λ arrives. e.first arrives r told asked)
    (λ arrives. e.enters arrives r asked) (λ arrives. e.found arrives r asked))
    (λ ok r asked. e.grown (heard c.args.self.now.fate (e.delivered.0 ok)) r asked) (λ ok r told asked. e.first (heard c.args.self.now.fate (e.delivered.0 ok)) r told asked)
    e.exec e.images
