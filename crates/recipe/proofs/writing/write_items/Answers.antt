use Rattle.std.proofs.Common.{arith}
use Rattle.recipe.proofs.Written.{one_written}
use Rattle.recipe.proofs.writing.write_items.Goals as goal

pub loop-place-preserved : goal.loop-place-preserved
loop-place-preserved c =
    one_written c.args.items.now c.loop-place.place _ c.loop-place.out c.write_item.new.out c.loop-place-test.true (omega (arith, c.loop-place.auto.out)) c.write_item.ensures.bytes c.write_item.ensures.len c.loop-place.invariant
