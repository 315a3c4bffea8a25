use Rattle.std.proofs.Common.{sym}
use Rattle.pool_map.proofs.Order.{held-from}
use Rattle.slot_pool.specs.Pool.{content}
use Rattle.pool_map.proofs.Standing.{stands}
use Rattle.pool_map.proofs.Walks.{get-some, at-none}
use Rattle.pool_map.proofs.hashed.HashTable.find.Goals as goal

pub returns-in-Some-clause-value : goal.returns-in-Some-clause-value
returns-in-Some-clause-value g c = rw (← c.self.view_is) (sym (get-some g.K.Ord.cmp g.met.K.Ord.total g.met.K.Key.exact g.K.Key.word_of c.self.inside.pool.slots c.self.inside.chains.heads.items c.self.inside.chains.next.items c.self.invariant.0 c.args.key.now c.in-Some.number c.get-entry.result.now c.in-Some.ensures.found c.get-entry.ensures))

pub returns-in-Some-clause-slot : goal.returns-in-Some-clause-slot
returns-in-Some-clause-slot g c = rw (← c.self.view_is) (stands g.K.Ord.cmp g.met.K.Ord.total c.self.inside.pool c.in-Some.number g.met.K.Key.exact c.args.key.now c.in-Some.ensures.found)

pub returns-in-Some-clause-held : goal.returns-in-Some-clause-held
returns-in-Some-clause-held g c =
    let here = c.in-Some.ensures.found in
    rw (← c.self.view_is) (held-from (content c.self.inside.pool c.in-Some.number) here.account here.entry here.holds)

pub returns-in-None-clause-absent : goal.returns-in-None-clause-absent
returns-in-None-clause-absent g c = rw (← c.self.view_is) (at-none g.K.Ord.cmp g.met.K.Ord.total g.met.K.Key.exact g.K.Key.word_of c.self.inside.pool.slots c.args.key.now c.in-None.ensures.absent)
