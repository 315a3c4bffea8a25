use Rattle.pool_map.proofs.Walks.{get-some, get-none, at-none}
use Rattle.pool_map.proofs.hashed.HashTableTable.get.Goals as goal

pub returns-in-Some-clause-value : goal.returns-in-Some-clause-value
returns-in-Some-clause-value g c = rw (← c.self.view_is) (get-some g.K.Ord.cmp g.met.K.Ord.total g.met.K.Key.exact g.K.Key.word_of c.self.inside.pool.slots c.self.inside.chains.heads.items c.self.inside.chains.next.items c.self.invariant.0 c.args.key.now c.in-Some.number c.get-entry.result.now c.in-Some.ensures.found c.get-entry.ensures)

pub returns-in-None-clause-value : goal.returns-in-None-clause-value
returns-in-None-clause-value g c = rw (← c.self.view_is) (get-none g.K.Ord.cmp g.met.K.Ord.total g.met.K.Key.exact g.K.Key.word_of c.self.inside.pool.slots c.args.key.now c.in-None.ensures.absent)

pub returns-in-None-clause-absent : goal.returns-in-None-clause-absent
returns-in-None-clause-absent g c = rw (← c.self.view_is) (at-none g.K.Ord.cmp g.met.K.Ord.total g.met.K.Key.exact g.K.Key.word_of c.self.inside.pool.slots c.args.key.now c.in-None.ensures.absent)
