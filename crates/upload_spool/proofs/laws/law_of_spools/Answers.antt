use Rattle.upload_spool.proofs.Chains.{one_spool, open_job}
use Rattle.upload_spool.proofs.laws.law_of_spools.Goals as goal

pub returns : goal.returns
returns c = record { one = one_spool; open_job = open_job }
