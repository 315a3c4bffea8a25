use Rattle.std.proofs.Common.{◌≡◌, ℕ, take, subst, arith}
use Rattle.checkpoints.specs.Steps.{AreKept}
use Rattle.checkpoints.proofs.Unowned.{one_taken, filled}
use Rattle.checkpoints.proofs.kept.take_batch.Goals as goal

pub loop-count-preserved : goal.loop-count-preserved
loop-count-preserved c =
    one_taken c.args.shares.now c.args.from c.loop-count.items c.loop-count.at c.loop-count.count c.loop-count.invariant
    c.in-Some.behind c.in-Some.item c.in-Some.ensures.next c.in-Some.ensures.fits (let more = c.loop-count-test.true in omega (arith, more))

pub returns-clause-batch : goal.returns-clause-batch
returns-clause-batch c =
    let count_is : c.loop-count.count ≡ 256 = let no = c.loop-count-test.false in let most = c.loop-count.auto.count-end in omega (arith, no, most) in
    subst (λ (n : ℕ). AreKept c.args.shares.now c.args.from (take n c.loop-count.items) c.loop-count.at) count_is
    (filled c.args.shares.now c.args.from c.loop-count.items c.loop-count.at c.loop-count.count c.loop-count.invariant count_is)
