-- What an error of a framer says.
use Rattle.std.specs.Prelude.{ℕ}
use Rattle.frames.specs.declared.framer.FrameErr.{FrameErr}
use Rattle.frames.specs.declared.framer.FrameErr.TheVariants.{Length}

-- the length that was found
abbrev pub found_of : FrameErr → ℕ
found_of (Length found) = found
