use Rattle.std.proofs.Common.{arith}
use Rattle.std.proofs.lemmas.Grind.{div_ceil_times}
use Rattle.checkpoints.proofs.Tallied.{one_puts_tally}
use Rattle.checkpoints.proofs.tally.count_puts.Goals as goal

pub loop-left-preserved : goal.loop-left-preserved
loop-left-preserved c =
    let at = c.args.at.now in let more = c.loop-left-test.true in let ceil = div_ceil_times c.count_owned-count.result 256 (omega arith) in
    let n = c.div_ceil.ensures in let low = ceil.0 in let high = ceil.1 in let word = c.count_owned-count.type_inv in
    one_puts_tally c.args.shares.now at.left at.user at.owner c.loop-left.left c.loop-left.user c.loop-left.from c.loop-left.puts c.loop-left.items c.loop-left.invariant
    (omega (arith, more)) c.count_owned-count.result c.div_ceil.result c.count_owned-count.ensures.count c.count_owned-count.ensures.long c.requires.places (omega (arith, word))
    (omega (arith, n, low), omega (arith, n, high))
