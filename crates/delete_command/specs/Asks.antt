-- Clouds that are asked the same, one after another, each on its port.
use Rattle.std.specs.Prelude.{◌≡◌, ◌⊎◌, ℕ, Bool, true, false, IsTrue, List, [], ◌∷◌}
use Rattle.deletions.specs.CdBase.ids.CloudNo.{CloudNo}
use Rattle.ports_link.specs.CdEdges.Ports.{Telling, OthersStay}
use Rattle.ports_link.specs.Exchange.{HasRepliedOnPort, Broke}
use Rattle.deletions.specs.Transcript.line.Line.{Line}
use Rattle.deletions.specs.Replies.{HasLine}

-- The frame of the request was sent on a port, and this is the content of the first frame that was to come there, just
-- which came, or an empty one where none was to come.
abbrev pub HearsReply : List ℕ → Telling → Telling → ℕ → List ℕ → Type 0
HearsReply request old new port content =
    HasRepliedOnPort old new port request content ⊎ (Broke old new port request × (content ≡ []))

-- A cloud was asked on its port, and its reply has this line. The ports say so where they tell their bytes.
pub record IsAskedOnPort (request : List ℕ) (t : Telling) (at : CloudNo × ℕ) (line : Line) (u : Telling) : Type 0 where
  pub content : List ℕ
  pub hears : IsTrue t.told → HearsReply request t u at.1 content
  pub told : u.told ≡ t.told
  pub line_is : HasLine at.0 content line

-- The ports failed in the request on this port or in its reply. No other port changed.
pub record IsRequestUnheard (t : Telling) (port : ℕ) (u : Telling) : Type 0 where
  pub others : IsTrue t.told → OthersStay t u port
  pub told : u.told ≡ t.told

-- These clouds were asked in order, each on its port and after the reply of the one before, and the lines are those of the
-- replies: of all (true), or of those in front of the first at which the ports failed (false). Those behind it were asked
-- nothing.
pub data HasAskedEach (request : List ℕ) : Telling → List (CloudNo × ℕ) → Bool → List Line → Telling → Type 0 where
  NoneLeft : (t : Telling) → HasAskedEach request t [] true [] t
  Next : (t mid u : Telling) (at : CloudNo × ℕ) (behind : List (CloudNo × ℕ)) (all : Bool) (line : Line)
      (more : List Line) → IsAskedOnPort request t at line mid → HasAskedEach request mid behind all more u
      → HasAskedEach request t (at ∷ behind) all (line ∷ more) u
  Fails : (t u : Telling) (at : CloudNo × ℕ) (behind : List (CloudNo × ℕ)) → IsRequestUnheard t at.1 u
      → HasAskedEach request t (at ∷ behind) false [] u
