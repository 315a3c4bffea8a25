use Rattle.spent_table.proofs.Sums.{Summing}
use Rattle.spent_table.proofs.sum_of_shares.Given as goal

abbrev pub invariant-loop-row : goal.invariant-loop-row
invariant-loop-row l = Summing (λ spent. spent.shares) l.rows l.row-index l.sum
