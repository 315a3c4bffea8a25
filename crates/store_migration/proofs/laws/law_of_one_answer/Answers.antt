use Rattle.store_migration.proofs.OneMigration.{one_migration}
use Rattle.store_migration.proofs.laws.law_of_one_answer.Goals as goal

pub returns : goal.returns
returns c = record { one = one_migration }
