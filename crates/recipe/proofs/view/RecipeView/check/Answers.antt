use Rattle.std.proofs.Common.{arith}
use Rattle.recipe.proofs.Recipes.{recipe_law}
use Rattle.recipe.proofs.view.RecipeView.check.Goals as goal

pub returns-in-Ok-clause-grammar : goal.returns-in-Ok-clause-grammar
returns-in-Ok-clause-grammar c = λ r. recipe_law c.args.shape c.args.bytes.now r (λ i. omega (arith, c.type_inv.bytes i))

pub returns-in-Err-clause-grammar : goal.returns-in-Err-clause-grammar
returns-in-Err-clause-grammar c = λ r. recipe_law c.args.shape c.args.bytes.now r (λ i. omega (arith, c.type_inv.bytes i))
