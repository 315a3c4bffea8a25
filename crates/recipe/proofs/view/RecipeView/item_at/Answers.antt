use Rattle.std.proofs.Common.{slice_get, ap, ◌∙◌}
use Rattle.recipe.specs.declared.recipe.Recipe.{Recipe}
use Rattle.recipe.proofs.Tails.{got, not_got}
use Rattle.recipe.proofs.view.RecipeView.item_at.Goals as goal

pub returns-then-place-self : goal.returns-then-place-self
returns-then-place-self c =
    got c.self.inside.count c.self.inside.items.now c.args.place c.item_in.result c.if-place-self.true c.item_in.ensures ∙ ap (λ (r : Recipe). slice_get r.items c.args.place) c.self.view_is

pub returns-else-place-self : goal.returns-else-place-self
returns-else-place-self c = not_got c.self.inside.count c.self.inside.items.now c.args.place c.if-place-self.false ∙ ap (λ (r : Recipe). slice_get r.items c.args.place) c.self.view_is
