use Rattle.std.proofs.Common.{length, ap, arith}
use Rattle.std.proofs.lemmas.List.{length-drop}
use Rattle.session.proofs.KitDigits.{more_taken}
use Rattle.session.proofs.front.pack.Goals as goal

pub loop-taken-preserved : goal.loop-taken-preserved
loop-taken-preserved c = record {
  within = omega (arith, c.in_ok-n.ensures.within, ap length c.after.ensures, length-drop c.loop-taken.taken c.args.bytes.now, c.loop-taken.invariant.within);
  so_far = more_taken c.args.packed.now c.loop-taken.packed c.pack_block.new.packed c.args.bytes.now c.after.result.now c.loop-taken.taken c.in_ok-n.n c.loop-taken.invariant.so_far c.after.ensures c.in_ok-n.ensures.taken;
  bytes = c.pack_block.ensures.bytes;
}
