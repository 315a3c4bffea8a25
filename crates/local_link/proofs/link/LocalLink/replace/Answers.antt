use Rattle.std.proofs.lemmas.Bool.{ltb-true}
use Rattle.local_link.proofs.Standing.{rest_at, others_by, rooms_same, here_now}
use Rattle.local_link.proofs.Calling.{replaced, freshened, was_before}
use Rattle.local_link.proofs.link.LocalLink.replace.Goals as goal

pub returns-clause-replaced : goal.returns-clause-replaced
returns-clause-replaced g c =
    let e = c.close.ensures in
    let f = c.fresh.ensures in
    replaced c.law_of_areas.ensures c.law_of_no_commands.ensures.unbegun c.law_of_no_commands.ensures.stands c.law_of_no_commands.ensures.within
    c.args.self.now.servers c.close.new.self c.args.cloud.0 e.0 e.1 e.2 (ltb-true c.args.cloud.0 c.args.self.now.servers.shape.n c.requires) e.3
    (g.V.Shelf.cloud_at c.args.self.now.shelf.now c.args.cloud.0) (g.V.Shelf.cloud_at c.fresh.new.self c.args.cloud.0) _ _ c.fresh.result f.fresh f.call.told f.call.armings f.failed f.uncounted

pub returns-clause-fresh : goal.returns-clause-fresh
returns-clause-fresh g c =
    let e = c.close.ensures in
    let f = c.fresh.ensures in
    freshened c.law_of_areas.ensures c.law_of_no_commands.ensures.unbegun c.law_of_no_commands.ensures.stands c.law_of_no_commands.ensures.within
    c.args.self.now.servers c.close.new.self c.args.cloud.0 e.0 e.1 e.2 (ltb-true c.args.cloud.0 c.args.self.now.servers.shape.n c.requires) e.3
    (g.V.Shelf.cloud_at c.args.self.now.shelf.now c.args.cloud.0) (g.V.Shelf.cloud_at c.fresh.new.self c.args.cloud.0) _ _ c.fresh.result f.fresh f.call.told f.call.armings f.uncounted

pub returns-clause-images : goal.returns-clause-images
returns-clause-images g c = λ told.
    was_before (g.V.Shelf.cloud_at c.args.self.now.shelf.now c.args.cloud.0) (g.V.Shelf.cloud_at c.fresh.new.self c.args.cloud.0) c.fresh.result (c.fresh.ensures.fresh told)

pub returns-clause-rest : goal.returns-clause-rest
returns-clause-rest g c = let e = c.close.ensures in rest_at g.V.Shelf.cloud_at c.args.cloud.0 c.args.self.now _ e.0 e.1 _ _ e.2 c.fresh.ensures.call

pub returns-clause-others : goal.returns-clause-others
returns-clause-others g c =
    let e = c.close.ensures in
    let lt = ltb-true c.args.cloud.0 c.args.self.now.servers.shape.n c.requires in
    others_by g.V.Shelf.cloud_at c.args.cloud.0 c.args.self.now _ (rest_at g.V.Shelf.cloud_at c.args.cloud.0 c.args.self.now _ e.0 e.1 _ _ e.2 c.fresh.ensures.call)
    (rooms_same _ _ e.0 e.1 e.2.here (here_now c.args.self.now.servers c.close.new.self c.args.cloud.0 e.0 e.1 e.2 lt) e.3.same)

pub returns-clause-rooms : goal.returns-clause-rooms
returns-clause-rooms g c =
    let e = c.close.ensures in
    let lt = ltb-true c.args.cloud.0 c.args.self.now.servers.shape.n c.requires in
    rooms_same _ _ e.0 e.1 e.2.here (here_now c.args.self.now.servers c.close.new.self c.args.cloud.0 e.0 e.1 e.2 lt) e.3.same
