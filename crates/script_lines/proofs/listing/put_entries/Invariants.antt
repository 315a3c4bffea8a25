use Rattle.std.proofs.Common.{◌≡◌, ◌++◌, map, take}
use Rattle.session_model.specs.Steps.{entry_line}
use Rattle.session_model.specs.Session.Texts.{text_of}
use Rattle.script_lines.proofs.listing.put_entries.Given as goal

abbrev pub invariant-loop-entry : goal.invariant-loop-entry
invariant-loop-entry l = l.lines ≡ l.initial.lines ++ text_of (map entry_line (take l.entry-index l.page))
