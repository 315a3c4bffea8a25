use Rattle.std.proofs.Common.{sym, refl}
use Rattle.recipe.proofs.Lengths.{obeys}
use Rattle.recipe.proofs.rules.are_items_of.Goals as goal

pub loop-place-preserved : goal.loop-place-preserved
loop-place-preserved c = record {
  all = refl;
  same = obeys c.args.items.now c.loop-place.place _ c.loop-place-test.true c.loop-place.invariant.same c.is_item_of.ensures.fp (sym c.if-not-is_item_of.ensures.len);
}
