use Rattle.std.proofs.Common.{◌∙◌, length, ap}
use Rattle.pool_map.specs.Table.{pairs}
use Rattle.std.specs.FinMap.{from_entries}
use Rattle.pool_map.proofs.Counts.{contents-replicate}
use Rattle.pool_map.proofs.Unhash.{fresh-hashed}
use Rattle.pool_map.proofs.hashed.HashTableTable.clear.Goals as goal

pub invariant_of-self : goal.invariant_of-self
invariant_of-self g c =
    rw (c.empty.ensures.slots, c.reset.ensures.heads, c.reset.ensures.next)
    (fresh-hashed g.K.Ord.cmp g.met.K.Ord.total g.met.K.Key.exact g.K.Key.word_of (length c.self.inside.pool.slots) (length c.self.inside.chains.heads.items) c.self.inside.chains.next.items c.self.invariant.0.buckets c.self.invariant.0.small c.self.invariant.0.lengths)

pub returns-clause-emptied : goal.returns-clause-emptied
returns-clause-emptied g c =
    ap (λ cells. from_entries {R = g.K.Ord.cmp} (pairs cells)) c.empty.ensures.slots
    ∙ contents-replicate g.K.Ord.cmp (length c.self.inside.pool.slots)
