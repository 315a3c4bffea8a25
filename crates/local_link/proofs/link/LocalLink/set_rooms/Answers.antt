use Rattle.std.proofs.Common.{refl}
use Rattle.std.proofs.lemmas.Bool.{ltb-true}
use Rattle.local_link.proofs.Calling.{rooms_serve, rooms_rest}
use Rattle.local_link.proofs.link.LocalLink.set_rooms.Goals as goal

pub returns-clause-serves : goal.returns-clause-serves
returns-clause-serves g c = λ p may.
    rooms_serve c.renew.result c.args.self.now.servers c.renew.new.self c.args.cloud.0 c.args.rooms (g.V.Shelf.cloud_at c.args.self.now.shelf.now c.args.cloud.0) p
    (ltb-true c.args.cloud.0 c.args.self.now.servers.shape.n c.requires.reached) c.renew.ensures.put may

pub returns-clause-others : goal.returns-clause-others
returns-clause-others g c = rooms_rest c.renew.result g.V.Shelf.cloud_at c.args.cloud.0 c.args.rooms c.args.self.now _ refl c.renew.ensures.put c.renew.ensures.err
