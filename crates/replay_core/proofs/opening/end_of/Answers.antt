use Rattle.replay_core.proofs.Clouds.{damaged_end}
use Rattle.replay_core.proofs.opening.end_of.Goals as goal

pub returns-in_default : goal.returns-in_default
returns-in_default c = damaged_end c.args.cloud c.args.error c.damage_of-at.result.0 c.damage_of-at.result.1 c.in_default.not-Fault c.damage_of-at.ensures
