-- The bytes that may stand in a framer.
use Rattle.std.specs.Prelude.{ℕ, ◌+◌, ◌<◌, ◌≤◌, List, length}
use Rattle.frames.specs.Frames.{IsLength, length_in}

-- behind the four bytes of a length stand no more bytes than it says, and it is one that a frame has
abbrev pub IsStanding : List ℕ → Type 0
IsStanding bytes = 4 < length bytes → IsLength (length_in bytes) × (length bytes ≤ 4 + length_in bytes)
