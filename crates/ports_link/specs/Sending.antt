-- What goes out on ports, whatever becomes of the calls: pieces of frames.
use Rattle.std.specs.Prelude.{◌≡◌, ◌⊎◌, ℕ, List, [], ◌++◌}
use Rattle.user_dedup.specs.Frames.Frames.{frame}
use Rattle.transcript.specs.CdEdges.Ports.{Telling}

-- Behind these bytes pieces were sent, one after another, each the first bytes of a frame whose content is so, or all of it.
pub data SendsPieces (Is : List ℕ → Type 0) (before : List ℕ) : List ℕ → Type 0 where
  NoneSent : SendsPieces Is before before
  OneSent : (sent content part rest : List ℕ) → SendsPieces Is before sent → Is content → frame content ≡ part ++ rest
      → SendsPieces Is before (sent ++ part)

-- On each port nothing but such pieces was sent, behind what had been sent there, or from its opening on.
abbrev pub SendsOnly : (List ℕ → Type 0) → Telling → Telling → Type 0
SendsOnly Is old new = (port : ℕ)
    → SendsPieces Is (old.port port).sent (new.port port).sent ⊎ SendsPieces Is [] (new.port port).sent
