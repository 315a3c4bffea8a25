-- A connection so far.
use Rattle.std.specs.Prelude.{◌≡◌, ℕ, zero, suc, List, ◌++◌, length, IsTrue, Result, Ok, Err}
use Rattle.share_server.specs.CdEdges.Causes.{Rose}
use Rattle.ports_link.specs.Frames.Frames.{IsRefused, stream, length_in}
use Rattle.ports_link.specs.Frames.Steps.{Run}
use Rattle.share_server.specs.CdEdges.Ports.{Telling}
use Rattle.serve_command.specs.Connection.{Responds, HasPassedBytes, SentFront}
use Rattle.serve_command.specs.declared.served.Served.{Served}
use Rattle.serve_command.specs.declared.served.Served.TheVariants as ends
use Rattle.serve_command.specs.declared.served.ConnectionStop.{ConnectionStop}
use Rattle.serve_command.specs.declared.served.ConnectionStop.TheVariants as stops

-- All whole frames that came were answered. Of the bytes that came, so many in all, some stand in the framer, and some were not yet
-- pushed into it.
pub record IsAlongFrames {S : Type 0} (step : S → List ℕ → List ℕ → S → Type 0) (start now : Telling) (port : ℕ) (first last : S) (standing pending : List ℕ) (received : ℕ) : Type 0 where
  pub requests : List (List ℕ)
  pub replies : List (List ℕ)
  pub taken : List ℕ
  pub run : Run taken requests standing
  pub responds : Responds step first requests replies last
  pub count : received ≡ length (taken ++ pending)
  pub passed : IsTrue start.told → HasPassedBytes start now port (taken ++ pending) (stream replies)

-- A length that no frame has came.
pub record IsLengthRefused {S : Type 0} (step : S → List ℕ → List ℕ → S → Type 0) (start now : Telling) (port : ℕ) (first last : S) (found : ℕ) : Type 0 where
  pub requests : List (List ℕ)
  pub replies : List (List ℕ)
  pub rest : List ℕ
  pub wrong : IsRefused rest
  pub found_is : found ≡ length_in rest
  pub responds : Responds step first requests replies last
  pub passed : IsTrue start.told → HasPassedBytes start now port (stream requests ++ rest) (stream replies)

-- The ports failed.
pub record BrokenBytes (start now : Telling) (port : ℕ) (requests replies : List (List ℕ)) : Type 0 where
  pub rest : List ℕ
  pub went : List ℕ
  pub passed : HasPassedBytes start now port (stream requests ++ rest) went
  pub sent : SentFront replies went

pub record Broken {S : Type 0} (step : S → List ℕ → List ℕ → S → Type 0) (start now : Telling) (port : ℕ) (first last : S) : Type 0 where
  pub requests : List (List ℕ)
  pub replies : List (List ℕ)
  pub responds : Responds step first requests replies last
  pub bytes : IsTrue start.told → BrokenBytes start now port requests replies

abbrev pub Stops : {S : Type 0} → (S → List ℕ → List ℕ → S → Type 0) → Telling → Telling → ℕ → S → S → ConnectionStop
    → Type 0
Stops step start now port first last (stops.BadLength found) = IsLengthRefused step start now port first last found
Stops step start now port first last stops.Failed = Broken step start now port first last

-- The count of faults rose where the ports failed, and else it stayed.
abbrev pub StopsWithCause : {A : Type 0} → Result A ConnectionStop → ℕ → ℕ → Type 0
StopsWithCause (Ok x) before now = now ≡ before
StopsWithCause (Err (stops.BadLength found)) before now = now ≡ before
StopsWithCause (Err stops.Failed) before now = Rose before now

-- how a connection ended whose stream ended
abbrev pub ended_with : ℕ → Served
ended_with zero = ends.End
ended_with (suc n) = ends.Cut (suc n)

abbrev pub stopped_by : ConnectionStop → Served
stopped_by (stops.BadLength found) = ends.BadLength found
stopped_by stops.Failed = ends.Failed
