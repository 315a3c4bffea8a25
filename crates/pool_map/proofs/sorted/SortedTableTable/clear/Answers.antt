use Rattle.std.proofs.Common.{◌≡◌, ◌∙◌, ◌<◌, length, length-set, get_or, set, ap, subst, sym, arith}
use Rattle.std.proofs.lemmas.List.{get_or-set_same}
use Rattle.pool_map.specs.Table.{pairs}
use Rattle.std.specs.FinMap.{from_entries}
use Rattle.pool_map.proofs.Counts.{contents-replicate}
use Rattle.pool_map.proofs.Ring.{fresh-ordered}
use Rattle.pool_map.proofs.Unhash.{fresh-hashed}
use Rattle.pool_map.proofs.sorted.SortedTableTable.clear.Goals as goal

pub invariant_of-self : goal.invariant_of-self
invariant_of-self g c =
    let n = length c.self.inside.pool.slots in
    let items = c.self.inside.next.items in
    let links = set items c.slots-end.result c.slots-end.result in
    let was = c.self.invariant.0.lengths in
    let below : length c.self.inside.pool.slots < length c.self.inside.next.items = omega arith in
    let last = subst (λ x. get_or (set items x x) n 0 ≡ n) (sym c.slots-end.ensures) (get_or-set_same items n n 0 below) in
    let fresh = fresh-hashed g.K.Ord.cmp g.met.K.Ord.total g.met.K.Key.exact g.K.Key.word_of n (length c.self.inside.chains.heads.items) c.self.inside.chains.next.items c.self.invariant.2.buckets c.self.invariant.2.small c.self.invariant.2.lengths in
    rw (c.empty.ensures.slots, c.reset.ensures.heads, c.reset.ensures.next)
    (fresh-ordered g.K.Ord.cmp n links c.self.invariant.0.index.small (length-set items c.slots-end.result c.slots-end.result ∙ was) last, fresh.1, fresh.0)

pub returns-clause-emptied : goal.returns-clause-emptied
returns-clause-emptied g c =
    ap (λ cells. from_entries {R = g.K.Ord.cmp} (pairs cells)) c.empty.ensures.slots
    ∙ contents-replicate g.K.Ord.cmp (length c.self.inside.pool.slots)
