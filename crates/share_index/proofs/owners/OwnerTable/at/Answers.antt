use Rattle.pool_map.specs.Slots.{listed-shown}
use Rattle.share_index.proofs.Owning.{owner_total}
use Rattle.share_index.proofs.owners.OwnerTable.at.Goals as goal

pub returns-in-Some-clause-each : goal.returns-in-Some-clause-each
returns-in-Some-clause-each c = rw (← c.self.view_is) (listed-shown _ owner_total c.self.inside.table c.at.ensures.each)

pub returns-in-None-clause-each : goal.returns-in-None-clause-each
returns-in-None-clause-each c = rw (← c.self.view_is) (listed-shown _ owner_total c.self.inside.table c.at.ensures.each)
