use Rattle.fresh_checkpoints.proofs.Switch.{switches, switched}
use Rattle.fresh_checkpoints.proofs.laws.law_of_switches.Goals as goal

pub returns : goal.returns
returns c = record { any_moment = switches; settled = switched }
