use Rattle.std.proofs.Common.{◌≡◌, ◌++◌, map, take}
use Rattle.session_model.specs.Steps.{skip_line}
use Rattle.session_model.specs.Session.Texts.{text_of}
use Rattle.script_lines.proofs.rebuilding.put_skips.Given as goal

abbrev pub invariant-loop-place : goal.invariant-loop-place
invariant-loop-place l = l.text ≡ l.initial.text ++ text_of (map skip_line (take l.place l.skips))
