use Rattle.std.proofs.Common.{◌∙◌, ap, arith}
use Rattle.slot_pool.specs.Pool.{PoolContents}
use Rattle.pool_map.specs.declared.KeyedValue.{KeyedValue}
use Rattle.pool_map.specs.Table.{contents}
use Rattle.pool_map.proofs.Walks.{get-some, get-none, at-none}
use Rattle.pool_map.proofs.Contents.{absent-remove}
use Rattle.pool_map.proofs.Unhash.{drop-step, drop-count}
use Rattle.pool_map.proofs.hashed.HashTableTable.remove.Goals as goal

pub invariant_of-self : goal.invariant_of-self
invariant_of-self g c =
    let slots = ap (λ (p : PoolContents (KeyedValue g.row.K.Denot g.row.W.Denot)). p.slots) c.give-entry.ensures.emptied in
    let count = drop-count g.K.Ord.cmp g.met.K.Ord.total g.met.K.Key.exact g.K.Key.word_of c.self.inside.pool c.self.inside.chains.heads.items c.self.inside.chains.next.items c.self.invariant.0 c.args.key.now c.in-Some.number c.in-Some.ensures.found in
    let was = c.self.invariant.1 in
    rw slots (c.unlink.ensures, omega arith)

pub returns-in-Some-clause-value : goal.returns-in-Some-clause-value
returns-in-Some-clause-value g c = rw (← c.self.view_is) (get-some g.K.Ord.cmp g.met.K.Ord.total g.met.K.Key.exact g.K.Key.word_of c.self.inside.pool.slots c.self.inside.chains.heads.items c.self.inside.chains.next.items c.self.invariant.0 c.args.key.now c.in-Some.number c.give-entry.result c.in-Some.ensures.found c.give-entry.ensures.value)

pub returns-in-Some-clause-removed : goal.returns-in-Some-clause-removed
returns-in-Some-clause-removed g c =
    ap (contents g.K.Ord.cmp) c.give-entry.ensures.emptied
    ∙ (rw (← c.self.view_is) (drop-step g.K.Ord.cmp g.met.K.Ord.total g.met.K.Key.exact g.K.Key.word_of c.self.inside.pool c.self.inside.chains.heads.items c.self.inside.chains.next.items c.self.invariant.0 c.args.key.now c.in-Some.number c.in-Some.ensures.found).0)

pub returns-in-Some-clause-slots : goal.returns-in-Some-clause-slots
returns-in-Some-clause-slots g c =
    rw (← c.self.view_is, c.give-entry.ensures.emptied) (drop-step g.K.Ord.cmp g.met.K.Ord.total g.met.K.Key.exact g.K.Key.word_of c.self.inside.pool c.self.inside.chains.heads.items c.self.inside.chains.next.items c.self.invariant.0 c.args.key.now c.in-Some.number c.in-Some.ensures.found).1

pub returns-in-None-clause-value : goal.returns-in-None-clause-value
returns-in-None-clause-value g c = rw (← c.self.view_is) (get-none g.K.Ord.cmp g.met.K.Ord.total g.met.K.Key.exact g.K.Key.word_of c.self.inside.pool.slots c.args.key.now c.in-None.ensures.absent)

pub returns-in-None-clause-removed : goal.returns-in-None-clause-removed
returns-in-None-clause-removed g c =
    rw (← c.self.view_is) (absent-remove g.K.Ord.cmp g.met.K.Ord.total g.met.K.Key.exact (contents g.K.Ord.cmp c.self.inside.pool) c.args.key.now (at-none g.K.Ord.cmp g.met.K.Ord.total g.met.K.Key.exact g.K.Key.word_of c.self.inside.pool.slots c.args.key.now c.in-None.ensures.absent))
