use Rattle.std.proofs.Common.{◌∙◌}
use Rattle.replay_core.proofs.Clouds.{prepares_from}
use Rattle.replay_core.proofs.opening.empty_cloud.Goals as goal

pub returns-in_err-empty_area-2-clause-prepares : goal.returns-in_err-empty_area-2-clause-prepares
returns-in_err-empty_area-2-clause-prepares g c = λ header.
    prepares_from header (g.V.Shelf.cloud_at c.args.shelf.now c.args.cloud.0) (g.V.Shelf.cloud_at c.empty_area.new.shelf c.args.cloud.0)
    (g.V.Shelf.cloud_at c.empty_area-2.new.shelf c.args.cloud.0) (c.in_ok-empty_area.ensures.same c.args.cloud.0) (c.empty_area-2.ensures.prepares header)

pub returns-clause-prepares : goal.returns-clause-prepares
returns-clause-prepares g c = λ header.
    prepares_from header (g.V.Shelf.cloud_at c.args.shelf.now c.args.cloud.0) (g.V.Shelf.cloud_at c.empty_area-2.new.shelf c.args.cloud.0)
    (g.V.Shelf.cloud_at c.empty_area-3.new.shelf c.args.cloud.0)
    (c.in_ok-empty_area-2.ensures.same c.args.cloud.0 ∙ c.in_ok-empty_area.ensures.same c.args.cloud.0) (c.empty_area-3.ensures.prepares header)
