use Rattle.std.proofs.Common.{◌+◌}
use Rattle.record_laws.specs.SpentTable.Spent.{Spent}
use Rattle.cloud_disk.specs.CloudAreas.Placing.{region_start}
use Rattle.cloud_disk.specs.CloudAreas.Chains.{least_recipes}
use Rattle.cloud_opening.proofs.Bounds.{fits}
use Rattle.cloud_opening.proofs.ends.recipes_fit.Goals as goal

pub returns : goal.returns
returns c =
    fits c.is_within.result c.recipes_end.result c.args.memory.now.recipes_end (region_start c.args.ground.now.region + least_recipes) c.all_recipes-spent.result (λ (row : Spent). row.recipes) c.spent_table.result.now c.args.memory.now.spent
    c.is_within.ensures c.recipes_end.ensures c.recipes_end.type_inv c.all_recipes-spent.ensures c.spent_table.ensures
