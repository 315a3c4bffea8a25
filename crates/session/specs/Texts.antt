-- The text of a transcript.
use Rattle.std.specs.Prelude.{ℕ, List}
use Rattle.std.specs.List.{flat_map}
use Rattle.transcript.specs.Transcript.{line_text}
use Rattle.transcript.specs.declared.line.Line.{Line}

-- the text of lines, one after another
abbrev pub text_of : List Line → List ℕ
text_of lines = flat_map line_text lines
