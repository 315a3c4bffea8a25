use Rattle.migration_model.proofs.Large.{by_kept, exact, passed, all_within}
use Rattle.migration_model.proofs.laws.law_of_too_large.Goals as goal

pub returns : goal.returns
returns c = record { by_kept = by_kept; exact = exact; passed = passed; within = all_within }
