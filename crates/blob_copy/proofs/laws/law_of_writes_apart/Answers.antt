use Rattle.blob_copy.proofs.Beside.{flush_torn, flush_written, shares_torn, recipes_torn, below_apart, behind_apart}
use Rattle.blob_copy.proofs.laws.law_of_writes_apart.Goals as goal

pub returns-clause-torn : goal.returns-clause-torn
returns-clause-torn c = flush_torn

pub returns-clause-written : goal.returns-clause-written
returns-clause-written c = flush_written

pub returns-clause-shares : goal.returns-clause-shares
returns-clause-shares c = shares_torn

pub returns-clause-recipes : goal.returns-clause-recipes
returns-clause-recipes c = recipes_torn

pub returns-clause-below : goal.returns-clause-below
returns-clause-below c = below_apart

pub returns-clause-behind : goal.returns-clause-behind
returns-clause-behind c = behind_apart
