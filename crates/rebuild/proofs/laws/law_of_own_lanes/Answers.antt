use Rattle.rebuild.proofs.Telling.{own_turn}
use Rattle.rebuild.proofs.laws.law_of_own_lanes.Goals as goal

pub returns : goal.returns
returns c shape user target turns turn own has = own_turn shape user target own.0 turns turn own.1 has
