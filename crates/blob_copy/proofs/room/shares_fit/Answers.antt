use Rattle.std.proofs.Common.{◌+◌}
use Rattle.record_laws.specs.SpentTable.Spent.{Spent}
use Rattle.fresh_checkpoints.specs.CloudAreas.Placing.{region_start}
use Rattle.fresh_checkpoints.specs.CloudAreas.Chains.{least_shares}
use Rattle.cloud_store.proofs.CloudOpening.Bounds.{fits}
use Rattle.blob_copy.proofs.room.shares_fit.Goals as goal

pub returns : goal.returns
returns c =
    fits c.is_near.result c.shares_end.result c.args.memory.now.shares_end (region_start c.args.region + least_shares) c.all_shares-spent.result (λ (row : Spent). row.shares) c.spent_table.result.now c.args.memory.now.spent
    c.is_near.ensures c.shares_end.ensures c.shares_end.type_inv c.all_shares-spent.ensures c.spent_table.ensures
