use Rattle.kept_files.proofs.Keeping.{keeps_still, committed_keeps}
use Rattle.kept_files.proofs.law_of_keeping.Goals as goal

pub returns-clause-stays : goal.returns-clause-stays
returns-clause-stays c = keeps_still

pub returns-clause-committed : goal.returns-clause-committed
returns-clause-committed c = committed_keeps
