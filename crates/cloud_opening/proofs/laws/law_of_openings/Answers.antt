use Rattle.cloud_opening.proofs.OneOpening.{one_opening}
use Rattle.cloud_opening.proofs.laws.law_of_openings.Goals as goal

pub returns : goal.returns
returns c = record { one = one_opening }
