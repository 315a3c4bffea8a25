use Rattle.std.proofs.Common.{arith}
use Rattle.std.proofs.lemmas.Result.{err_from_is_err_and}
use Rattle.recipe.specs.Totals.{total_at}
use Rattle.recipe.proofs.Loop.{goes_on, stops, is_done}
use Rattle.recipe.proofs.reading.total_of.Goals as goal

pub returns-in_err-len : goal.returns-in_err-len
returns-in_err-len c =
    let p = err_from_is_err_and c.from_residual.result c.from_residual.ensures.1 in
    rw (p.1, p.2) (stops c.in_err-len.field-0.0.0 c.loop-i.sum c.args.count c.loop-i.i c.loop-i.rest.now (total_at c.args.count c.args.bytes.now) c.loop-i-test.true c.in_err-len.ensures.gives c.loop-i.invariant.so_far)

pub loop-i-preserved : goal.loop-i-preserved
loop-i-preserved c = record {
  few = let few = c.in_ok-len.ensures.few in let so_far = c.loop-i.invariant.few in omega arith;
  so_far = goes_on c.loop-i.sum c.args.count c.loop-i.i c.loop-i.rest.now c.in_ok-len.len c.in_ok-len.after.now (total_at c.args.count c.args.bytes.now) c.loop-i-test.true c.in_ok-len.ensures.gives c.loop-i.invariant.so_far;
}

pub returns : goal.returns
returns c = is_done c.loop-i.sum c.args.count c.loop-i.i c.loop-i.rest.now (total_at c.args.count c.args.bytes.now) c.loop-i-test.false c.loop-i.invariant.so_far
