use Rattle.pool_map.proofs.Standing.{slot-answer, slot-present}
use Rattle.pool_map.proofs.sorted.SortedTableTable.slot_of.Goals as goal

pub returns-clause-slot : goal.returns-clause-slot
returns-clause-slot g c = rw (← c.self.view_is) (slot-answer g.K.Ord.cmp g.met.K.Ord.total g.met.K.Key.exact g.K.Key.word_of c.self.inside.pool.slots c.self.inside.chains.heads.items c.self.inside.chains.next.items c.self.invariant.2 c.args.key.now c.find.result c.find.ensures.found)

pub returns-clause-present : goal.returns-clause-present
returns-clause-present g c = rw (← c.self.view_is) (slot-present g.K.Ord.cmp g.met.K.Ord.total g.met.K.Key.exact g.K.Key.word_of c.self.inside.pool.slots c.self.inside.chains.heads.items c.self.inside.chains.next.items c.self.invariant.2 c.args.key.now c.find.result c.find.ensures.found c.find.ensures.absent)
