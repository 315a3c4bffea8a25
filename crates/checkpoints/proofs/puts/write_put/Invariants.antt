use Rattle.checkpoints.proofs.Shares.{PutsAlong}
use Rattle.checkpoints.proofs.puts.write_put.Given as goal

abbrev pub invariant-loop-at : goal.invariant-loop-at
invariant-loop-at l = PutsAlong l.shares l.marks l.fn.at l.at l.items

abbrev pub decreases-loop-at : goal.decreases-loop-at
decreases-loop-at l = l.at.left
