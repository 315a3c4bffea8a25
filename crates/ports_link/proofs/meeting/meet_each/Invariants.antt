use Rattle.std.proofs.Common.{◌≡◌, ◌+◌, length, IsTrue}
use Rattle.ports_link.proofs.Chains.{Follows}
use Rattle.ports_link.specs.Hellos.{hello}
use Rattle.ports_link.specs.Sending.{SendsOnly}
use Rattle.ports_link.proofs.meeting.meet_each.Given as goal

abbrev pub invariant-addresses : goal.invariant-addresses
invariant-addresses g l = record {
  long : length l.greetings.items + length l.rest ≡ length l.addresses;
  follows : Follows l.asked (length l.addresses) (g.P.Ports.tells l.fn.ports) l.dialled.items l.greetings.items
      (g.P.Ports.tells l.ports);
  sends : IsTrue (g.P.Ports.tells l.fn.ports).told → SendsOnly (λ content. content ≡ hello) (g.P.Ports.tells l.fn.ports) (g.P.Ports.tells l.ports);
  told : (g.P.Ports.tells l.ports).told ≡ (g.P.Ports.tells l.fn.ports).told;
  still : g.P.Ports.faults l.ports ≡ g.P.Ports.faults l.fn.ports;
}

abbrev pub decreases-addresses : goal.decreases-addresses
decreases-addresses g l = length l.rest
