use Rattle.std.proofs.Common.{◌<◌, sym, subst}
use Rattle.share_server.specs.CdBase.shape.Shape.{Shape}
use Rattle.local_link.specs.Calls.{MayServe}
use Rattle.local_link.proofs.Standing.{closed_stands}
use Rattle.local_link.proofs.link.LocalLink.over.Goals as goal

pub returns-clause-stands : goal.returns-clause-stands
returns-clause-stands g c = λ cloud p lt may.
    let same = c.in_ok-servers.ensures.shape in
    closed_stands c.in_ok-servers.servers cloud c.args.rooms (g.V.Shelf.cloud_at c.args.shelf.now cloud) p (subst (λ (s : Shape). cloud < s.n) (sym same) lt) (c.in_ok-servers.ensures.closed cloud)
    (subst (λ (s : Shape). MayServe s cloud c.args.rooms (g.V.Shelf.cloud_at c.args.shelf.now cloud) p) (sym same) may)
