use Rattle.std.proofs.Common.{◌*◌}
use Rattle.gf256.proofs.Blocks.{AddedBelow}
use Rattle.gf256.proofs.multiple.mul_into.Given as goal

abbrev pub invariant-loop-i : goal.invariant-loop-i
invariant-loop-i l = AddedBelow (l.i * 16) l.c l.src l.fn.dst l.dst
