-- How a replay ends at its first line.
use Rattle.std.specs.Prelude.{◌≡◌, ℕ, List, Option, Result, Ok, Err, IfSome}
use Rattle.share_server.specs.JournalStart.rooms.UserRooms.{UserRooms}
use Rattle.share_server.specs.CdBase.shape.Shape.{Shape}
use Rattle.share_server.specs.CdEdges.Causes.{Rose}
use Rattle.two_worlds.specs.Session.Fault.{Fault}
use Rattle.two_worlds.specs.Session.lines.LineErr.{LineErr}
use Rattle.two_worlds.specs.Session.lines.LineErr.TheVariants as line_errors
use Rattle.two_worlds.specs.Session.reading.ScriptErr.{ScriptErr}
use Rattle.two_worlds.specs.Session.reading.ScriptErr.TheVariants as script_errors
use Rattle.two_worlds.specs.Session.Scripts.{IsWrongFirst}
use Rattle.replay_core.specs.declared.end.ReplayEnd.{ReplayEnd}
use Rattle.replay_core.specs.declared.end.ReplayEnd.TheVariants as ends

-- the first line says this, or is wrong there
abbrev pub SaysHeader : Result (Shape × UserRooms) Fault → Result (Shape × UserRooms) ReplayEnd → Type 0
SaysHeader reading (Ok header) = reading ≡ Ok header
SaysHeader reading (Err (ends.Script line at found)) =
    (line ≡ 1) × (reading ≡ Err (record { at = at; found = found }))
SaysHeader reading (Err ends.NoMemory) = Unit {0}
SaysHeader reading (Err end) = ⊥

-- the end of a replay that gets no line of this number
abbrev pub end_without : ℕ → LineErr → ReplayEnd
end_without line line_errors.Fault = ends.SourceFault
end_without line (line_errors.At at found) = ends.Script line at found
end_without line line_errors.NoMemory = ends.NoMemory

-- the end of a replay whose line of this number says nothing
abbrev pub end_of_script : ℕ → ScriptErr → ReplayEnd
end_of_script line (script_errors.At at found) = ends.Script line at found
end_of_script line script_errors.NoMemory = ends.NoMemory

-- how a replay ends at its first line
abbrev pub EndsFirst : Option (List ℕ) → ℕ → ℕ → ReplayEnd → Type 0
EndsFirst script before now (ends.Script line at found) =
    (line ≡ 1) × IfSome script (λ bytes. IsWrongFirst bytes (record { at = at; found = found }))
EndsFirst script before now ends.SourceFault = Rose before now
EndsFirst script before now ends.NoMemory = Unit {0}
EndsFirst script before now end = ⊥
