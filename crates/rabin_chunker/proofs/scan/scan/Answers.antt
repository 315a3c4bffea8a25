use Rattle.std.proofs.Common.{arith}
use Rattle.rabin_chunker.proofs.scan.scan.Goals as goal

pub loop-at-init : goal.loop-at-init
loop-at-init c = record {
  past = omega arith;
  some = c.requires.some;
  kept = c.requires.kept;
  unmarked = λ q a b. absurd (omega arith);
}
