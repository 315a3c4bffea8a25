use Rattle.std.proofs.Common.{◌≡◌, ◌+◌, ◌++◌, length}
use Rattle.messages.proofs.copies.shares_copy.Given as goal

abbrev pub invariant-loop-i : goal.invariant-loop-i
invariant-loop-i l = record {
  all : l.copy ++ l.rest ≡ l.view;
  left : l._i + length l.rest ≡ length l.view;
}
