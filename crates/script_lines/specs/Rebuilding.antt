-- What the line of a rebuild says.
use Rattle.std.specs.Prelude.{◌≡◌, ℕ, List, ◌++◌, Result}
use Rattle.recipe.specs.CdBase.ids.UserId.{UserId}
use Rattle.session_model.specs.Rebuild.error.RebuildErr.{RebuildErr}
use Rattle.session_model.specs.Rebuild.skips.Rebuilt.{Rebuilt}
use Rattle.session_model.specs.Session.Texts.{text_of}
use Rattle.session_model.specs.Transcript.line.Line.{Line}
use Rattle.session_model.specs.Steps.{AreRebuildLines}

-- the text of the lines of this rebuild stands behind what was there; a want of memory has none
abbrev pub SaysRebuild : UserId → ℕ → Result Rebuilt RebuildErr → List ℕ → List ℕ → Type 0
SaysRebuild user target came before text =
    (answers : List Line) × AreRebuildLines user target came answers × (text ≡ before ++ text_of answers)
