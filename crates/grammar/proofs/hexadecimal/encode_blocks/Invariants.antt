use Rattle.std.proofs.Common.{◌≡◌, ◌++◌, length, take}
use Rattle.grammar.specs.Hexadecimal.{hex}
use Rattle.grammar.proofs.hexadecimal.encode_blocks.Given as goal

abbrev pub invariant-loop-rest : goal.invariant-loop-rest
invariant-loop-rest l = record {
  so_far : l.out ++ hex l.rest ≡ l.fn.out ++ hex l.bytes;
  begins : take (length l.fn.out) l.out ≡ l.fn.out;
}

abbrev pub decreases-loop-rest : goal.decreases-loop-rest
decreases-loop-rest l = length l.rest
