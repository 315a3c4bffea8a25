use Rattle.checkpoints.proofs.Unowned.{Taking}
use Rattle.checkpoints.proofs.kept.take_batch.Given as goal

abbrev pub invariant-loop-count : goal.invariant-loop-count
invariant-loop-count l = Taking l.shares l.from l.items l.at l.count
