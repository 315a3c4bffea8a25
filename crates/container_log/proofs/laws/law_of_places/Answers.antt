use Rattle.container_log.proofs.Least.{least_place}
use Rattle.container_log.proofs.laws.law_of_places.Goals as goal

pub returns : goal.returns
returns c = least_place
