use Rattle.cloud_memory.proofs.PutLaw.{put_remembered}
use Rattle.cloud_memory.proofs.laws.law_of_puts.Goals as goal

pub returns : goal.returns
returns c = put_remembered
