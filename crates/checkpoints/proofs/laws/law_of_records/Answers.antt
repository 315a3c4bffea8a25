use Rattle.checkpoints.proofs.RecordsLaw.{records_law}
use Rattle.checkpoints.proofs.laws.law_of_records.Goals as goal

pub returns : goal.returns
returns c = records_law
