use Rattle.spent_table.proofs.Sums.{sum_more, sum_all}
use Rattle.spent_table.proofs.sum_of_shares.Goals as goal

pub loop-row-preserved : goal.loop-row-preserved
loop-row-preserved c = sum_more (λ spent. spent.shares) c.args.rows.now c.loop-row.row-index c.loop-row.sum c.saturating_add-sum.result _ c.loop-row-test.true c.loop-row.invariant c.saturating_add-sum.ensures

pub returns : goal.returns
returns c = sum_all (λ spent. spent.shares) c.args.rows.now c.loop-row.row-index c.loop-row.sum c.loop-row-test.false c.loop-row.invariant
