use Rattle.restore_job.proofs.Taking.{Taken}
use Rattle.restore_job.proofs.shares.take_shares.Given as goal

abbrev pub invariant-loop-j : goal.invariant-loop-j
invariant-loop-j l = Taken l.shape l.firsts l.items l.place l.shares l.fn.rooms l.rooms l.rest l.j
