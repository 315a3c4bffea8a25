use Rattle.std.proofs.Common.{◌∙◌}
use Rattle.file_recipe.specs.Clouds.{dispersed}
use Rattle.file_recipe.proofs.disperse.disperse_file.Goals as goal

pub returns : goal.returns
unfolding dispersed
returns c = c.of.ensures ∙ c.in_ok-files.ensures
