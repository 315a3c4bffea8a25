use Rattle.std.proofs.Common.{◌∙◌, ap, arith}
use Rattle.slot_pool.specs.Pool.{PoolContents}
use Rattle.pool_map.specs.declared.KeyedValue.{KeyedValue}
use Rattle.pool_map.specs.Table.{contents}
use Rattle.pool_map.proofs.Standing.{here-at, key-read}
use Rattle.pool_map.proofs.Walks.{get-some}
use Rattle.pool_map.proofs.Unhash.{drop-step, drop-count}
use Rattle.pool_map.proofs.hashed.HashTable.remove_at.Goals as goal

pub unlink-requires-clause-here : goal.unlink-requires-clause-here
unlink-requires-clause-here g c = key-read g.K.Ord.cmp g.met.K.Ord.total c.self.inside.pool c.args.slot c.get-held.result.now c.get-held.ensures

pub overflow_sub-self : goal.overflow_sub-self
overflow_sub-self g c =
    let count = drop-count g.K.Ord.cmp g.met.K.Ord.total g.met.K.Key.exact g.K.Key.word_of c.self.inside.pool c.self.inside.chains.heads.items c.self.inside.chains.next.items c.self.invariant.0 c.get-held.result.now.key c.args.slot (key-read g.K.Ord.cmp g.met.K.Ord.total c.self.inside.pool c.args.slot c.get-held.result.now c.get-held.ensures) in
    let was = c.self.invariant.1 in
    omega arith

pub invariant_of-self : goal.invariant_of-self
invariant_of-self g c =
    let slots = ap (λ (p : PoolContents (KeyedValue g.row.K.Denot g.row.W.Denot)). p.slots) c.give-entry.ensures.emptied in
    let count = drop-count g.K.Ord.cmp g.met.K.Ord.total g.met.K.Key.exact g.K.Key.word_of c.self.inside.pool c.self.inside.chains.heads.items c.self.inside.chains.next.items c.self.invariant.0 c.get-held.result.now.key c.args.slot (key-read g.K.Ord.cmp g.met.K.Ord.total c.self.inside.pool c.args.slot c.get-held.result.now c.get-held.ensures) in
    let was = c.self.invariant.1 in
    rw slots (c.unlink.ensures, omega arith)

pub returns-clause-value : goal.returns-clause-value
returns-clause-value g c = rw (← c.self.view_is) (λ key stands.
    get-some g.K.Ord.cmp g.met.K.Ord.total g.met.K.Key.exact g.K.Key.word_of c.self.inside.pool.slots c.self.inside.chains.heads.items c.self.inside.chains.next.items c.self.invariant.0 key c.args.slot c.give-entry.result (here-at g.K.Ord.cmp g.met.K.Ord.total c.self.inside.pool c.args.slot key stands) c.give-entry.ensures.value)

pub returns-clause-removed : goal.returns-clause-removed
returns-clause-removed g c = rw (← c.self.view_is) (λ key stands.
    ap (contents g.K.Ord.cmp) c.give-entry.ensures.emptied
    ∙ (drop-step g.K.Ord.cmp g.met.K.Ord.total g.met.K.Key.exact g.K.Key.word_of c.self.inside.pool c.self.inside.chains.heads.items c.self.inside.chains.next.items c.self.invariant.0 key c.args.slot (here-at g.K.Ord.cmp g.met.K.Ord.total c.self.inside.pool c.args.slot key stands)).0)

pub returns-clause-slots : goal.returns-clause-slots
returns-clause-slots g c = rw (← c.self.view_is, c.give-entry.ensures.emptied) (λ key stands.
    (drop-step g.K.Ord.cmp g.met.K.Ord.total g.met.K.Key.exact g.K.Key.word_of c.self.inside.pool c.self.inside.chains.heads.items c.self.inside.chains.next.items c.self.invariant.0 key c.args.slot (here-at g.K.Ord.cmp g.met.K.Ord.total c.self.inside.pool c.args.slot key stands)).1)
