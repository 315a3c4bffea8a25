-- The ports on which clouds are reached, by the numbers of the clouds.
use Rattle.std.specs.Prelude.{◌≡◌, ℕ, Bool, true, false, is_some, List, [], ◌∷◌, Some, None, slice_index_or, slice_set, replicate}
use Rattle.user_dedup.specs.CdBase.ids.CloudNo.{CloudNo}
use Rattle.user_dedup.specs.Frames.Frames.{frame}
use Rattle.transcript.specs.CdEdges.Ports.{Telling, Sent}
use Rattle.ports_link.specs.declared.lines.CloudLine.{CloudLine}
use Rattle.ports_link.specs.Exchange.{HasRepliedOnPort, Broke}

abbrev pub no_line : CloudLine
no_line = record { port = None; ended = false }

-- how a cloud is reached
abbrev pub line_of : List CloudLine → ℕ → CloudLine
line_of lines cloud = slice_index_or lines cloud no_line

-- whether a cloud is reached
abbrev pub has_port : List CloudLine → ℕ → Bool
has_port lines cloud = is_some (line_of lines cloud).port

-- One ask on a line: a frame came; or none was to come, and the line has ended; or it had ended before, and nothing was waited for.
pub data AsksOn (old new : Telling) (port : ℕ) (before after : CloudLine) (request reply : List ℕ) : Type 0 where
  Hears : before.ended ≡ false → after ≡ before → HasRepliedOnPort old new port request reply → AsksOn old new port before after request reply
  Ends : before.ended ≡ false → after ≡ record { port = Some port; ended = true } → reply ≡ [] → Broke old new port request → AsksOn old new port before after request reply
  Deaf : before.ended ≡ true → after ≡ before → reply ≡ [] → Sent old new port (frame request) → AsksOn old new port before after request reply

-- lines, and then a port for each of these clouds
abbrev pub with_ports : List CloudLine → List (CloudNo × ℕ) → List CloudLine
with_ports lines [] = lines
with_ports lines (d ∷ more) = with_ports (slice_set lines d.0.0 (record { port = Some d.1; ended = false })) more

-- a line for each number of a cloud, with a port for each of these clouds
abbrev pub lines_for : List (CloudNo × ℕ) → List CloudLine
lines_for dialled = with_ports (replicate 256 no_line) dialled
