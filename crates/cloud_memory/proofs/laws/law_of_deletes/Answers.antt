use Rattle.cloud_memory.proofs.DeleteLaw.{delete_remembered}
use Rattle.cloud_memory.proofs.laws.law_of_deletes.Goals as goal

pub returns : goal.returns
returns c = delete_remembered
