use Rattle.fresh_checkpoints.proofs.Switch.{migrates, migrated}
use Rattle.fresh_checkpoints.proofs.laws.law_of_migrations.Goals as goal

pub returns : goal.returns
returns c = record { any_moment = migrates; settled = migrated }
