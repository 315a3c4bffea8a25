use Rattle.std.proofs.Common.{arith}
use Rattle.fresh_checkpoints.specs.CdEdges.area.Area.TheVariants.{Recipes}
use Rattle.cloud_opening.proofs.Looking.{read_there}
use Rattle.store_migration.proofs.recipes.read_at.Goals as goal

pub returns-in-Ok-clause-bytes : goal.returns-in-Ok-clause-bytes
returns-in-Ok-clause-bytes g c told =
    let held = ((g.V.Shelf.cloud_at c.args.shelf.now c.args.cloud.0).now Recipes).read in let place = c.args.place.now in
    read_there held c.fetch.new.buffer place.at place.len c.in-Ok.count place.len c.in-Ok.count (c.in-Ok.ensures.bytes told) (omega arith) (omega (arith, c.in-Ok.ensures.few))
