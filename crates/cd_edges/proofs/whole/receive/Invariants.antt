use Rattle.std.proofs.Common.{length, ◌-◌, ◌≡◌, ◌≤◌, IsTrue, take}
use Rattle.cd_edges.specs.Ports.{Received}
use Rattle.cd_edges.proofs.whole.receive.Given as goal

abbrev pub invariant-loop-filled : goal.invariant-loop-filled
invariant-loop-filled g l = record {
  within : l.filled ≤ length l.out;
  long : length l.out ≡ length l.fn.out;
  came : IsTrue (g.P.Ports.tells l.fn.ports).told → Received (g.P.Ports.tells l.fn.ports) (g.P.Ports.tells l.ports) l.port (take l.filled l.out);
  told : (g.P.Ports.tells l.ports).told ≡ (g.P.Ports.tells l.fn.ports).told;
  still : g.P.Ports.faults l.ports ≡ g.P.Ports.faults l.fn.ports;
}

abbrev pub decreases-loop-filled : goal.decreases-loop-filled
decreases-loop-filled g l = length l.out - l.filled
