use Rattle.local_link.proofs.Placing.{Made}
use Rattle.local_link.proofs.servers.Servers.make.Given as goal

abbrev pub invariant-loop-number : goal.invariant-loop-number
invariant-loop-number l = Made l.shape l.rooms l.list.items l.number
