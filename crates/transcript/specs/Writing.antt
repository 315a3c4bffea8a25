-- What a sink has of a text that was to be written.
use Rattle.std.specs.Prelude.{◌≡◌, ℕ, ◌++◌, List, Option, Result, OnOk, OnErr}
use Rattle.std.specs.Io.KnownBytes.{Appends}
use Rattle.cd_edges.specs.Causes.{HasCause}
use Rattle.cd_edges.specs.declared.stream.Failed.{Failed}

-- a front of the text was written
abbrev pub AppendsTextFront : List ℕ → Option (List ℕ) → Option (List ℕ) → Type 0
AppendsTextFront text before now = (front : List ℕ) × (more : List ℕ) × (front ++ more ≡ text)
    × Appends before now front

-- All of the text was written; or the sink's count of faults rose, and a front of it was.
pub record HasWrittenText (text : List ℕ) (before now : Option (List ℕ)) (was is : ℕ) (result : Result (Unit {0}) Failed) : Type 0 where
  pub all : OnOk result (Appends before now text)
  pub front : OnErr result (AppendsTextFront text before now)
  pub cause : HasCause was is result
