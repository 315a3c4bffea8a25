use Rattle.std.proofs.Common.{◌<◌, [], ◌∷◌, length, refl, subst}
use Rattle.recipe.specs.CdBase.shape.Shape.{Shape}
use Rattle.session_model.specs.Session.event.Event.TheVariants as events
use Rattle.script_lines.proofs.Going.{cut_behind}
use Rattle.script_lines.proofs.Replaced.{replace_goes, fresh_fails}
use Rattle.script_lines.proofs.one.replace_line.Goals as goal

pub returns-in-Err-clause-cut : goal.returns-in-Err-clause-cut
returns-in-Err-clause-cut g c s v is =
    let e = c.in-Err.ensures in
    (fresh_fails g.V.Shelf.cloud_at s c.args.link.now c.replace.new.self c.args.cloud c.in-Err.field-0 v is.link_at c.requires.below _ _ e.call e.failed e.refreshed
    (c.law_of_parts.ensures.unmoved s v (length c.args.jobs.now) (events.Replace c.args.cloud) (subst (λ (sh : Shape). c.args.cloud.0 < sh.n) is.link_at.shape c.requires.below))).cut

pub returns-in-Err-clause-shelf : goal.returns-in-Err-clause-shelf
returns-in-Err-clause-shelf g c =
    let e = c.in-Err.ensures in (
      refl,
      λ s v is. fresh_fails g.V.Shelf.cloud_at s c.args.link.now c.replace.new.self c.args.cloud c.in-Err.field-0 v is.link_at c.requires.below _ _ e.call e.failed e.refreshed
          (c.law_of_parts.ensures.unmoved s v (length c.args.jobs.now) (events.Replace c.args.cloud) (subst (λ (sh : Shape). c.args.cloud.0 < sh.n) is.link_at.shape c.requires.below)),
    )

pub returns-in-Ok-put_line-clause-does : goal.returns-in-Ok-put_line-clause-does
returns-in-Ok-put_line-clause-does g c s v is =
    let one = c.in-Ok.ensures in
    let two = c.reopen-begun.ensures in (
      c.new_store_line.result ∷ [],
      replace_goes g.V.Shelf.cloud_at s c.args.link.now c.replace.new.self c.reopen-begun.new.self c.args.cloud.0 c.reopen-begun.result c.new_store_line.result c.in-Ok.field-0
          (g.V.Shelf.faults c.replace.new.self.shelf.now) (g.V.Shelf.faults c.reopen-begun.new.self.shelf.now)
          (record { below = c.requires.below; replaced = λ p stands. one.replaced p stands; refreshed = one.refreshed; others = one.others; rest = one.rest; rooms = one.rooms; fate = one.still.0; opened = record { peer = λ p told stands. two.peer p told stands; untold = λ p told stands. two.untold p told stands; counts = two.counts; images = two.images; rooms = two.rooms }; others_open = two.others; rest_open = two.rest; fate_open = two.still.0; said = c.new_store_line.ensures })
          v is.link_at c.args.jobs.now is,
      c.in-Ok-put_line.ensures.ok,
    )

pub returns-in-Err-put_line-clause-cut : goal.returns-in-Err-put_line-clause-cut
returns-in-Err-put_line-clause-cut g c s v is =
    let one = c.in-Ok.ensures in
    let two = c.reopen-begun.ensures in
    cut_behind g.V.Shelf.cloud_at s (events.Replace c.args.cloud) c.args.link.now c.reopen-begun.new.self c.args.jobs.now v (c.new_store_line.result ∷ [])
    (replace_goes g.V.Shelf.cloud_at s c.args.link.now c.replace.new.self c.reopen-begun.new.self c.args.cloud.0 c.reopen-begun.result c.new_store_line.result c.in-Ok.field-0
    (g.V.Shelf.faults c.replace.new.self.shelf.now) (g.V.Shelf.faults c.reopen-begun.new.self.shelf.now)
    (record { below = c.requires.below; replaced = λ p stands. one.replaced p stands; refreshed = one.refreshed; others = one.others; rest = one.rest; rooms = one.rooms; fate = one.still.0; opened = record { peer = λ p told stands. two.peer p told stands; untold = λ p told stands. two.untold p told stands; counts = two.counts; images = two.images; rooms = two.rooms }; others_open = two.others; rest_open = two.rest; fate_open = two.still.0; said = c.new_store_line.ensures })
    v is.link_at c.args.jobs.now is)
