use Rattle.recipe.proofs.Written.{again, one, length-spelling, longest}
use Rattle.recipe.proofs.laws.spelling_laws.Goals as goal

pub returns : goal.returns
returns c = record { again = again; one = one; len = length-spelling; longest = longest }
