-- Ports that were dialled.
use Rattle.std.specs.Prelude.{◌≡◌, ◌≢◌, ℕ, suc, List, [], ◌∷◌, All}
use Rattle.std.specs.List.{Contains}
use Rattle.transcript.specs.CdEdges.Ports.{Telling}

-- these are the ports that are opened next, in order
abbrev pub AreNext : ℕ → List ℕ → Type 0
AreNext opened [] = Unit {0}
AreNext opened (port ∷ ports) = (port ≡ opened) × AreNext (suc opened) ports

-- no two of these ports are one
abbrev pub ArePortsApart : List ℕ → Type 0
ArePortsApart [] = Unit {0}
ArePortsApart (port ∷ ports) = All (λ other. other ≢ port) ports × ArePortsApart ports

-- These ports were dialled, in order. Every other port is as it was.
pub record AreDialled (before after : Telling) (ports : List ℕ) : Type 0 where
  pub next : AreNext before.opened ports
  pub others : (port : ℕ) → ¬ Contains ports port → after.port port ≡ before.port port

-- Some ports were dialled, and every other port is as it was.
abbrev pub OnlyDialled : Telling → Telling → Type 0
OnlyDialled before after = (ports : List ℕ) × AreDialled before after ports
