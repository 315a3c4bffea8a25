use Rattle.restore_command.proofs.Whole.{fetched_file, stopped_fetch}
use Rattle.restore_command.proofs.following.law_of_fetched_files.Goals as goal

pub returns-clause-fetched : goal.returns-clause-fetched
returns-clause-fetched c = fetched_file

pub returns-clause-stopped : goal.returns-clause-stopped
returns-clause-stopped c = stopped_fetch
