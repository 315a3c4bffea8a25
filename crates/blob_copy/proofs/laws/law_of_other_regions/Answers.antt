use Rattle.blob_copy.proofs.Regions.{shares_apart, recipes_apart}
use Rattle.blob_copy.proofs.laws.law_of_other_regions.Goals as goal

pub returns-clause-shares : goal.returns-clause-shares
returns-clause-shares c = shares_apart

pub returns-clause-recipes : goal.returns-clause-recipes
returns-clause-recipes c = recipes_apart
