-- What the line of a get says.
use Rattle.std.specs.Prelude.{◌≡◌, ℕ, List, [], ◌∷◌, ◌++◌, Result}
use Rattle.session_model.specs.RestoreJob.error.RestoreErr.{RestoreErr}
use Rattle.session_model.specs.Transcript.line.Line.{Line}
use Rattle.session_model.specs.Steps.{IsGetLine}
use Rattle.session_model.specs.Session.Texts.{text_of}

-- the text of the line of this restore stands behind what was there; a want of memory has no line
abbrev pub SaysGet : Result (Unit {0}) RestoreErr → List ℕ → List ℕ → List ℕ → Type 0
SaysGet came file before text = (line : Line) × IsGetLine came file line × (text ≡ before ++ text_of (line ∷ []))
