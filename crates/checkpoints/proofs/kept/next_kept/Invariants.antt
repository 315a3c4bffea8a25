use Rattle.checkpoints.specs.Records.{kept_at}
use Rattle.checkpoints.proofs.Picks.{Passed}
use Rattle.checkpoints.proofs.kept.next_kept.Given as goal

abbrev pub invariant-loop-slot : goal.invariant-loop-slot
invariant-loop-slot l = Passed (kept_at l.shares.owners) l.shares.place_slots l.from l.slot
