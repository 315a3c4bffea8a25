use Rattle.std.proofs.Common.{sym, ◌∙◌, subst}
use Rattle.cd_edges.specs.Shelf.{ReadsFrom}
use Rattle.container_log.specs.States.{State, Agrees}
use Rattle.container_log.proofs.Blobs.{read_at}
use Rattle.container_log.proofs.log.Log.read.Goals as goal

pub returns-in-Ok-clause-bytes : goal.returns-in-Ok-clause-bytes
returns-in-Ok-clause-bytes g c told =
    let c0 = g.V.Shelf.cloud_at c.args.shelf.now c.args.cloud.0 in
    subst (λ (s : State). Agrees s (c0.now s.area).read → ReadsFrom (c0.now s.area).read c.args.place c.in-Ok.count c.read_kept.new.out) c.self.view_is (c.in-Ok.ensures.bytes told)

pub returns-in-Ok-clause-blob : goal.returns-in-Ok-clause-blob
returns-in-Ok-clause-blob g c told all b here long lies =
    let c0 = g.V.Shelf.cloud_at c.args.shelf.now c.args.cloud.0 in
    read_at (c0.now c.args.self.now.area).read b c.args.place c.in-Ok.count c.read_kept.new.out lies (c.read_kept.auto.out ∙ sym long) here
    (subst (λ (s : State). Agrees s (c0.now s.area).read → ReadsFrom (c0.now s.area).read c.args.place c.in-Ok.count c.read_kept.new.out) c.self.view_is (c.in-Ok.ensures.bytes told) all)
