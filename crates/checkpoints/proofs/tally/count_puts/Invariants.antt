use Rattle.checkpoints.proofs.Tallied.{PutsTally}
use Rattle.checkpoints.proofs.tally.count_puts.Given as goal

abbrev pub invariant-loop-left : goal.invariant-loop-left
invariant-loop-left l = PutsTally l.shares l.at.left l.at.user l.at.owner l.left l.user l.from l.puts l.items

abbrev pub decreases-loop-left : goal.decreases-loop-left
decreases-loop-left l = l.left
