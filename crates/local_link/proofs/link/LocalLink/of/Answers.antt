use Rattle.local_link.proofs.Standing.{closed_stands}
use Rattle.local_link.proofs.link.LocalLink.of.Goals as goal

pub returns-clause-stands : goal.returns-clause-stands
returns-clause-stands g c = λ rooms closed cloud p lt may.
    closed_stands c.args.servers cloud rooms (g.V.Shelf.cloud_at c.args.shelf.now cloud) p lt (closed cloud) may
