use Rattle.cloud_memory.proofs.CommitLaw.{commit_remembered}
use Rattle.cloud_memory.proofs.laws.law_of_commits.Goals as goal

pub returns : goal.returns
returns c = commit_remembered
