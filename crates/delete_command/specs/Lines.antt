-- The text of lines, and which of them say that the version is gone.
use Rattle.std.specs.Prelude.{ℕ, List}
use Rattle.std.specs.List.{flat_map}
use Rattle.deletions.specs.Transcript.Transcript.{line_text}
use Rattle.deletions.specs.Transcript.line.Line.{Line}
use Rattle.deletions.specs.Transcript.line.Line.TheVariants as lines

-- the text of lines, one after another
abbrev pub text_of : List Line → List ℕ
text_of all = flat_map line_text all

-- the version isn't there any more
abbrev pub IsGone : Line → Type 0
IsGone (lines.Deleted cloud) = Unit {0}
IsGone (lines.Missing cloud) = Unit {0}
IsGone line = ⊥
