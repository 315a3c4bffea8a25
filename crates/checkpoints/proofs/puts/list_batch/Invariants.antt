use Rattle.checkpoints.proofs.Shares.{Listing}
use Rattle.checkpoints.proofs.puts.list_batch.Given as goal

abbrev pub invariant-loop-count : goal.invariant-loop-count
invariant-loop-count l = Listing l.shares l.user l.from l.marks l.items l.at l.count
