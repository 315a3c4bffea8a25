use Rattle.std.proofs.Common.{◌≡◌, ◌≤◌, ◌+◌, length}
use Rattle.audit_command.specs.Source.{mark_behind}
use Rattle.audit_command.proofs.marks.mark_after.Given as goal

abbrev pub invariant-bytes : goal.invariant-bytes
invariant-bytes l = record {
  same : mark_behind l.mark l.rest ≡ mark_behind (l.line, l.at) l.bytes;
  bound : l.mark.0 + l.mark.1 + length l.rest ≤ l.line + l.at + length l.bytes;
}

abbrev pub decreases-bytes : goal.decreases-bytes
decreases-bytes l = length l.rest
