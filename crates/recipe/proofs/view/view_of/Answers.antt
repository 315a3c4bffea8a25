use Rattle.std.proofs.Common.{arith}
use Rattle.recipe.proofs.Recipes.{recipe_takes}
use Rattle.recipe.proofs.Tails.{left_is}
use Rattle.recipe.proofs.view.view_of.Goals as goal

pub invariant_of-result : goal.invariant_of-result
invariant_of-result c = record {
  spelled = (recipe_takes c.args.shape c.args.bytes.now _ (λ i. omega (arith, c.type_inv.bytes i))
      (left_is c.args.shape c.args.bytes.now c.in_ok-name_len.name_len c.in_ok-name_len.rest.now c.in_ok-name_share.name_share.now c.in_ok-name_share.rest.now c.in_ok-tail.tail.file_len _
      c.in_ok-name_len.ensures c.in_ok-name_share.ensures c.in_ok-tail.ensures.gives)).1;
  room = c.in_ok-tail.ensures.room;
  few = c.in_ok-tail.ensures.few;
}
