use Rattle.file_index.proofs.Order.{key_total}
use Rattle.pool_map.specs.Slots.{listed-shown}
use Rattle.file_index.proofs.FileIndex.entry_at.Goals as goal

pub returns-in-Some-clause-each : goal.returns-in-Some-clause-each
returns-in-Some-clause-each c = rw (← c.self.view_is) (listed-shown _ key_total c.self.inside.table c.at.ensures.each)

pub returns-in-None-clause-each : goal.returns-in-None-clause-each
returns-in-None-clause-each c = rw (← c.self.view_is) (listed-shown _ key_total c.self.inside.table c.at.ensures.each)
