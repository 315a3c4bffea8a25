use Rattle.std.proofs.Common.{◌≡◌}
use Rattle.audit_command.specs.Source.{behind_lines}
use Rattle.audit_command.proofs.marks.behind.Given as goal

abbrev pub invariant-lines : goal.invariant-lines
invariant-lines l = behind_lines l.left l.rest ≡ behind_lines l.fn.lines l.fn.text

abbrev pub decreases-lines : goal.decreases-lines
decreases-lines l = l.left
