-- One request and its reply on a port, as frames.
use Rattle.std.specs.Prelude.{◌≡◌, ℕ, ◌<◌, List, [], ◌++◌, length}
use Rattle.user_dedup.specs.Frames.Frames.{IsContent, frame}
use Rattle.transcript.specs.CdEdges.Ports.{Telling, Sent, Received}

-- no whole frame stands in front of these bytes
abbrev pub NoFrame : List ℕ → Type 0
NoFrame bytes = (content behind : List ℕ) → IsContent content → bytes ≡ frame content ++ behind → ⊥

-- The request's frame was sent on a port, and the reply's frame was the first that was to come there; just this frame came.
pub record HasRepliedOnPort (old new : Telling) (number : ℕ) (request reply : List ℕ) : Type 0 where
  pub lawful : IsContent reply
  pub between : Telling
  pub sent : Sent old between number (frame request)
  pub received : Received between new number (frame reply)

-- The request's frame was sent on a port, and no frame was to come there.
pub record Broke (old new : Telling) (number : ℕ) (request : List ℕ) : Type 0 where
  pub none : NoFrame (old.port number).to_come
  pub between : Telling
  pub sent : Sent old between number (frame request)
  pub came : List ℕ
  pub received : Received between new number came

-- what the first bytes of a reply leave: its content, or no frame
pub record Whole (old new : Telling) (number count : ℕ) (content : List ℕ) : Type 0 where
  pub all : length content ≡ count
  pub received : Received old new number content

pub record Cut (old new : Telling) (number count : ℕ) : Type 0 where
  pub came : List ℕ
  pub few : length came < count
  pub received : Received old new number came
  pub ended : (new.port number).to_come ≡ []

-- bytes came, and were appended
pub record Came (old new : Telling) (number : ℕ) (before after : List ℕ) : Type 0 where
  pub bytes : List ℕ
  pub appended : after ≡ before ++ bytes
  pub received : Received old new number bytes

-- nothing came, and nothing is to come
pub record Ended (old new : Telling) (number : ℕ) : Type 0 where
  pub received : Received old new number []
  pub ended : (new.port number).to_come ≡ []

-- bytes came that are no frame, where no frame was to come
pub record CameNone (old new : Telling) (number : ℕ) : Type 0 where
  pub none : NoFrame (old.port number).to_come
  pub came : List ℕ
  pub received : Received old new number came
