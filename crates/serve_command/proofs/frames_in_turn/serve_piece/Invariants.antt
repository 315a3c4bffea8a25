use Rattle.std.proofs.Common.{ℕ, length, ◌≡◌}
use Rattle.ports_link.specs.Frames.Frames.{IsFrame, IsRefused}
use Rattle.share_server.specs.CdEdges.Ports.{Telling}
use Rattle.serve_command.specs.Framing.{IsAlongFrames}
use Rattle.serve_command.proofs.frames_in_turn.serve_piece.Given as goal

abbrev pub invariant-loop-rest : goal.invariant-loop-rest
invariant-loop-rest g l = record {
  ready : IsFrame l.framer → ⊥;
  lawful : IsRefused l.framer → ⊥;
  along : (first : g.row.R.Denot) (start : Telling) (received : ℕ) → (g.P.Ports.tells l.fn.ports).told ≡ start.told
      → IsAlongFrames g.R.Responder.step start (g.P.Ports.tells l.fn.ports) l.port first l.fn.responder l.fn.framer l.fn.piece received
      → IsAlongFrames g.R.Responder.step start (g.P.Ports.tells l.ports) l.port first l.responder l.framer l.rest received;
  loans : g.R.Responder.loans l.responder ≡ g.R.Responder.loans l.fn.responder;
  told : (g.P.Ports.tells l.ports).told ≡ (g.P.Ports.tells l.fn.ports).told;
  still : g.P.Ports.faults l.ports ≡ g.P.Ports.faults l.fn.ports;
}

abbrev pub decreases-loop-rest : goal.decreases-loop-rest
decreases-loop-rest g l = length l.rest
