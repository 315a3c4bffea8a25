use Rattle.std.proofs.Common.{◌+◌}
use Rattle.record_laws.specs.SpentTable.Spent.{Spent}
use Rattle.fresh_checkpoints.specs.CloudAreas.Placing.{region_start}
use Rattle.fresh_checkpoints.specs.CloudAreas.Chains.{least_recipes}
use Rattle.cloud_store.proofs.CloudOpening.Bounds.{fits}
use Rattle.blob_copy.proofs.room.recipes_fit.Goals as goal

pub returns : goal.returns
returns c =
    fits c.is_near.result c.recipes_end.result c.args.memory.now.recipes_end (region_start c.args.region + least_recipes) c.all_recipes-spent.result (λ (row : Spent). row.recipes) c.spent_table.result.now c.args.memory.now.spent
    c.is_near.ensures c.recipes_end.ensures c.recipes_end.type_inv c.all_recipes-spent.ensures c.spent_table.ensures
