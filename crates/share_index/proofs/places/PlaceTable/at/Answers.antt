use Rattle.pool_map.specs.Slots.{listed-shown}
use Rattle.share_index.proofs.Placing.{fp_total}
use Rattle.share_index.proofs.places.PlaceTable.at.Goals as goal

pub returns-in-Some-clause-each : goal.returns-in-Some-clause-each
returns-in-Some-clause-each c = rw (← c.self.view_is) (listed-shown _ fp_total c.self.inside.table c.at.ensures.each)

pub returns-in-None-clause-each : goal.returns-in-None-clause-each
returns-in-None-clause-each c = rw (← c.self.view_is) (listed-shown _ fp_total c.self.inside.table c.at.ensures.each)
