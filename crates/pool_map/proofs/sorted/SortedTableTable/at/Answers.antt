use Rattle.pool_map.proofs.Above.{listing}
use Rattle.pool_map.proofs.Order.{once}
use Rattle.pool_map.proofs.sorted.SortedTableTable.at.Goals as goal

pub returns-then-slot-slots-clause-each : goal.returns-then-slot-slots-clause-each
returns-then-slot-slots-clause-each g c = rw (← c.self.view_is) (listing g.K.Ord.cmp g.met.K.Ord.total g.met.K.Key.exact c.self.inside.pool (once g.K.Ord.cmp g.met.K.Ord.total c.self.inside.pool.slots _ c.self.invariant.0.index))

pub returns-in-Held-clause-each : goal.returns-in-Held-clause-each
returns-in-Held-clause-each g c = rw (← c.self.view_is) (listing g.K.Ord.cmp g.met.K.Ord.total g.met.K.Key.exact c.self.inside.pool (once g.K.Ord.cmp g.met.K.Ord.total c.self.inside.pool.slots _ c.self.invariant.0.index))

pub returns-in-Empty-clause-each : goal.returns-in-Empty-clause-each
returns-in-Empty-clause-each g c = rw (← c.self.view_is) (listing g.K.Ord.cmp g.met.K.Ord.total g.met.K.Key.exact c.self.inside.pool (once g.K.Ord.cmp g.met.K.Ord.total c.self.inside.pool.slots _ c.self.invariant.0.index))
