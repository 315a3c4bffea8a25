use Rattle.std.proofs.Common.{◌≡◌, ◌≤◌, ◌-◌, ◌++◌, length, take}
use Rattle.journal_start.specs.Grammar.Hexadecimal.{hex}
use Rattle.session.specs.Spelling.{AreLineBytes}
use Rattle.session.proofs.front.pack.Given as goal

abbrev pub invariant-loop-taken : goal.invariant-loop-taken
invariant-loop-taken l = record {
  within : l.taken ≤ length l.bytes;
  so_far : hex l.packed ≡ hex l.fn.packed ++ take l.taken l.bytes;
  bytes : AreLineBytes l.packed;
}

abbrev pub decreases-loop-taken : goal.decreases-loop-taken
decreases-loop-taken l = length l.bytes - l.taken
