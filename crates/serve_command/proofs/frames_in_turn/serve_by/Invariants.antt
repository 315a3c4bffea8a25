use Rattle.std.proofs.Common.{◌≡◌, ◌≤◌, ◌<◌, ◌-◌, ◌^◌, [], length}
use Rattle.ports_link.specs.Frames.Frames.{IsFrame, IsRefused}
use Rattle.serve_command.specs.Framing.{IsAlongFrames}
use Rattle.serve_command.proofs.frames_in_turn.serve_by.Given as goal

abbrev pub invariant-loop-received : goal.invariant-loop-received
invariant-loop-received g l = record {
  piece : 0 < length l.piece;
  ready : IsFrame l.framer → ⊥;
  lawful : IsRefused l.framer → ⊥;
  along : IsAlongFrames g.R.Responder.step (g.P.Ports.tells l.fn.ports) (g.P.Ports.tells l.ports) l.port l.fn.responder l.responder l.framer [] l.received;
  within : l.received ≤ 2 ^ 40;
  loans : g.R.Responder.loans l.responder ≡ g.R.Responder.loans l.fn.responder;
  told : (g.P.Ports.tells l.ports).told ≡ (g.P.Ports.tells l.fn.ports).told;
  still : g.P.Ports.faults l.ports ≡ g.P.Ports.faults l.fn.ports;
}

abbrev pub decreases-loop-received : goal.decreases-loop-received
decreases-loop-received g l = 2 ^ 40 - l.received
