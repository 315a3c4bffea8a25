use Rattle.recipe.proofs.Written.{again}
use Rattle.file_recipe.specs.FileRecipe.{recipe_of}
use Rattle.file_recipe.proofs.Recipes.{recipe_fits, length-shares_at}
use Rattle.file_recipe.proofs.laws.recipe_laws.Goals as goal

pub returns : goal.returns
returns c = record {
  fits = recipe_fits;
  reads = λ s j path file name few. again s (recipe_of s j path file) (recipe_fits s j path file name few);
  shares_length = length-shares_at;
}
