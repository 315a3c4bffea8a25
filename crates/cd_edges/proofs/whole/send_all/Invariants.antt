use Rattle.std.proofs.Common.{length, ◌-◌, ◌≡◌, ◌≤◌, IsTrue, take}
use Rattle.cd_edges.specs.Ports.{Sent}
use Rattle.cd_edges.proofs.whole.send_all.Given as goal

abbrev pub invariant-loop-sent : goal.invariant-loop-sent
invariant-loop-sent g l = record {
  within : l.sent ≤ length l.bytes;
  sent : IsTrue (g.P.Ports.tells l.fn.ports).told → Sent (g.P.Ports.tells l.fn.ports) (g.P.Ports.tells l.ports) l.port (take l.sent l.bytes);
  told : (g.P.Ports.tells l.ports).told ≡ (g.P.Ports.tells l.fn.ports).told;
  still : g.P.Ports.faults l.ports ≡ g.P.Ports.faults l.fn.ports;
}

abbrev pub decreases-loop-sent : goal.decreases-loop-sent
decreases-loop-sent g l = length l.bytes - l.sent
