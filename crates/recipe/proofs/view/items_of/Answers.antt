use Rattle.std.proofs.Common.{◌∙◌, ◌++◌, ◌∷◌, [], List, ap}
use Rattle.recipe.specs.declared.items.Item.{Item}
use Rattle.recipe.proofs.Tails.{one_more, all_here}
use Rattle.recipe.proofs.view.items_of.Goals as goal

pub loop-place-preserved : goal.loop-place-preserved
loop-place-preserved c =
    c.in_ok-push.ensures.ok ∙ ap (λ (is : List Item). is ++ c.item_in.result ∷ []) c.loop-place.invariant
    ∙ one_more c.args.count c.args.bytes.now c.loop-place.place c.item_in.result c.loop-place-test.true c.item_in.ensures

pub returns : goal.returns
returns c = c.loop-place.invariant ∙ all_here c.args.count c.args.bytes.now c.loop-place.place c.loop-place-test.false
