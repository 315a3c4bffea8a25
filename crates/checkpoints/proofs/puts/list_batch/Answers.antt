use Rattle.std.proofs.Common.{◌≡◌, ℕ, take, subst, arith}
use Rattle.checkpoints.specs.Records.{listed}
use Rattle.checkpoints.specs.Steps.{AreListedNext}
use Rattle.checkpoints.proofs.Shares.{one_listed, filled}
use Rattle.std.proofs.Common.{refl}
use Rattle.checkpoints.proofs.puts.list_batch.Goals as goal

pub loop-count-preserved : goal.loop-count-preserved
loop-count-preserved c =
    let fps = listed c.args.shares.now.owner_slots c.args.user c.loop-count.at in
    one_listed c.args.shares.now c.args.user c.args.from c.loop-count.marks c.loop-count.items c.loop-count.at c.loop-count.count c.loop-count.invariant
    c.list_share.new.marks _ c.in-Some.fp c.in-Some.behind c.list_share.result c.in-Some.ensures
    (c.list_share.ensures.item fps c.loop-count.invariant.listing) (c.list_share.ensures.marks fps c.loop-count.invariant.listing) c.list_share.ensures.fits
    (let more = c.loop-count-test.true in omega (arith, more)) refl

pub returns-clause-batch : goal.returns-clause-batch
returns-clause-batch c =
    let count_is : c.loop-count.count ≡ 256 = let no = c.loop-count-test.false in let most = c.loop-count.auto.count-end in omega (arith, no, most) in
    subst (λ (n : ℕ). AreListedNext c.args.shares.now c.args.user c.args.from (take n c.loop-count.items) c.loop-count.at) count_is
    (filled c.args.shares.now c.args.user c.args.from c.loop-count.marks c.loop-count.items c.loop-count.at c.loop-count.count c.loop-count.invariant count_is)
