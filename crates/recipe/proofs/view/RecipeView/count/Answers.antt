use Rattle.std.proofs.Common.{length, sym, ap, ◌∙◌}
use Rattle.recipe.specs.declared.recipe.Recipe.{Recipe}
use Rattle.recipe.proofs.Tails.{length-items_in}
use Rattle.recipe.proofs.view.RecipeView.count.Goals as goal

pub returns : goal.returns
returns c = sym (length-items_in c.self.inside.count c.self.inside.items.now) ∙ ap (λ (r : Recipe). length r.items) c.self.view_is
