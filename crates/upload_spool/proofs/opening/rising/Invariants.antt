use Rattle.upload_spool.proofs.Picks.{Picked}
use Rattle.upload_spool.proofs.opening.rising.Given as goal

abbrev pub invariant-loop-number : goal.invariant-loop-number
invariant-loop-number l = Picked l.noted l.number l.clouds
