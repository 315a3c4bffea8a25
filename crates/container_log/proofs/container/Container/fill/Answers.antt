use Rattle.std.proofs.Common.{◌≡◌, length, take, ap, ◌∙◌, rules}
use Rattle.std.proofs.lemmas.List.{with_items_is}
use Rattle.container_log.proofs.Agreeing.{whole_read}
use Rattle.container_log.proofs.container.Container.fill.Goals as goal

pub returns-clause-read : goal.returns-clause-read
returns-clause-read g c told =
    let out = c.read.new.out in
    let long : length out ≡ 4194304 = c.read.auto.out ∙ c.deref_mut.ensures.len ∙ search rules in
    c.shrink_to_fit.ensures.items ∙ c.truncate.ensures.items ∙ ap (take c.in_ok-count.count) (with_items_is c.self.inside.bytes out (c.read.auto.out ∙ c.deref_mut.ensures.len))
    ∙ whole_read ((g.V.Shelf.cloud_at c.args.shelf.now c.args.cloud.0).now c.args.area).read out c.args.number c.in_ok-count.count long (c.in_ok-count.ensures.bytes told)
