use Rattle.checkpoints.specs.Records.{owned_at}
use Rattle.checkpoints.proofs.Picks.{Passed}
use Rattle.checkpoints.proofs.puts.next_owned.Given as goal

abbrev pub invariant-loop-slot : goal.invariant-loop-slot
invariant-loop-slot l = Passed (owned_at l.user) l.shares.owner_slots l.from l.slot
