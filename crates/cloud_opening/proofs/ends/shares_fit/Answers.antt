use Rattle.std.proofs.Common.{◌+◌}
use Rattle.record_laws.specs.SpentTable.Spent.{Spent}
use Rattle.cloud_disk.specs.CloudAreas.Placing.{region_start}
use Rattle.cloud_disk.specs.CloudAreas.Chains.{least_shares}
use Rattle.cloud_opening.proofs.Bounds.{fits}
use Rattle.cloud_opening.proofs.ends.shares_fit.Goals as goal

pub returns : goal.returns
returns c =
    fits c.is_within.result c.shares_end.result c.args.memory.now.shares_end (region_start c.args.ground.now.region + least_shares) c.all_shares-spent.result (λ (row : Spent). row.shares) c.spent_table.result.now c.args.memory.now.spent
    c.is_within.ensures c.shares_end.ensures c.shares_end.type_inv c.all_shares-spent.ensures c.spent_table.ensures
