use Rattle.checkpoints.specs.Records.{commit_at}
use Rattle.checkpoints.proofs.Picks.{Passed}
use Rattle.checkpoints.proofs.entries.next_commit.Given as goal

abbrev pub invariant-loop-slot : goal.invariant-loop-slot
invariant-loop-slot l = Passed commit_at l.files.slots l.from l.slot
