use Rattle.local_link.proofs.Calling.{armed}
use Rattle.local_link.specs.Tells.{server_at}
use Rattle.local_link.proofs.link.LocalLink.arm.Goals as goal

pub returns-clause-armed : goal.returns-clause-armed
returns-clause-armed g c = λ p is.
    armed c.law_of_areas.ensures c.args.self.now.servers.shape c.args.cloud.0 (server_at c.args.self.now.servers c.args.cloud.0) (g.V.Shelf.cloud_at c.args.self.now.shelf.now c.args.cloud.0) (g.V.Shelf.cloud_at c.arm.new.self c.args.cloud.0)
    c.args.calls c.args.keep p c.arm.ensures.arms is
