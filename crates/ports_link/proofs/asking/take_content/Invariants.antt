use Rattle.std.proofs.Common.{◌≡◌, ◌+◌, ◌<◌, length, IsTrue}
use Rattle.transcript.specs.CdEdges.Ports.{Received}
use Rattle.ports_link.proofs.asking.take_content.Given as goal

abbrev pub invariant-loop-left : goal.invariant-loop-left
invariant-loop-left g l = record {
  piece : 0 < length l.piece;
  long : length l.reply + l.left ≡ l.count;
  came : IsTrue (g.P.Ports.tells l.fn.ports).told → Received (g.P.Ports.tells l.fn.ports) (g.P.Ports.tells l.ports) l.port l.reply;
  told : (g.P.Ports.tells l.ports).told ≡ (g.P.Ports.tells l.fn.ports).told;
  still : g.P.Ports.faults l.ports ≡ g.P.Ports.faults l.fn.ports;
}

abbrev pub decreases-loop-left : goal.decreases-loop-left
decreases-loop-left g l = l.left
