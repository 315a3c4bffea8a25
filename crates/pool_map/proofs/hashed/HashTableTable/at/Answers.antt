use Rattle.pool_map.proofs.Above.{listing}
use Rattle.pool_map.proofs.hashed.HashTableTable.at.Goals as goal

pub returns-then-slot-slots-clause-each : goal.returns-then-slot-slots-clause-each
returns-then-slot-slots-clause-each g c = rw (← c.self.view_is) (listing g.K.Ord.cmp g.met.K.Ord.total g.met.K.Key.exact c.self.inside.pool c.self.invariant.0.apart)

pub returns-in-Held-clause-each : goal.returns-in-Held-clause-each
returns-in-Held-clause-each g c = rw (← c.self.view_is) (listing g.K.Ord.cmp g.met.K.Ord.total g.met.K.Key.exact c.self.inside.pool c.self.invariant.0.apart)

pub returns-in-Empty-clause-each : goal.returns-in-Empty-clause-each
returns-in-Empty-clause-each g c = rw (← c.self.view_is) (listing g.K.Ord.cmp g.met.K.Ord.total g.met.K.Key.exact c.self.inside.pool c.self.invariant.0.apart)
