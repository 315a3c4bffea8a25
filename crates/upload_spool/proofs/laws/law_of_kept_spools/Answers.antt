use Rattle.upload_spool.proofs.Again.{found_again}
use Rattle.upload_spool.proofs.laws.law_of_kept_spools.Goals as goal

pub returns : goal.returns
returns c = found_again
