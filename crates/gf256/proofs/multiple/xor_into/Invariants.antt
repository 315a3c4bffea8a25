use Rattle.std.proofs.Common.{◌*◌}
use Rattle.gf256.proofs.Blocks.{AddedBelow}
use Rattle.gf256.proofs.multiple.xor_into.Given as goal

abbrev pub invariant-loop-i : goal.invariant-loop-i
invariant-loop-i l = AddedBelow (l.i * 16) 1 l.source l.fn.target l.target
