use Rattle.std.proofs.Common.{◌∙◌, ◌+◌, get_or, ap, arith, sym}
use Rattle.std.proofs.lemmas.List.{get_or_default}
use Rattle.slot_pool.specs.Pool.{PoolContents}
use Rattle.pool_map.specs.declared.KeyedValue.{KeyedValue}
use Rattle.pool_map.specs.Table.{contents}
use Rattle.pool_map.proofs.Walks.{insert-hashed, fill-count, lacks-from-none, find-none-from}
use Rattle.pool_map.proofs.Contents.{fill-contents}
use Rattle.pool_map.proofs.Counts.{charged-uses, by-map}
use Rattle.pool_map.proofs.hashed.HashTableTable.insert.Goals as goal

pub overflow_add-self : goal.overflow_add-self
overflow_add-self g c =
    let e : KeyedValue g.row.K.Denot g.row.W.Denot = record { key = c.args.key; value = c.args.value } in
    let counts = fill-count c.self.inside.pool.slots c.in-Ok.slot.number c.args.account e c.in-Ok.ensures.in_range c.in-Ok.ensures.was_empty in
    let small = c.self.invariant.0.small in
    let len = c.self.invariant.1 in
    omega arith

pub invariant_of-self : goal.invariant_of-self
invariant_of-self g c =
    let e : KeyedValue g.row.K.Denot g.row.W.Denot = record { key = c.args.key; value = c.args.value } in
    let counts = fill-count c.self.inside.pool.slots c.in-Ok.slot.number c.args.account e c.in-Ok.ensures.in_range c.in-Ok.ensures.was_empty in
    let slots = ap (λ (p : PoolContents (KeyedValue g.row.K.Denot g.row.W.Denot)). p.slots) c.in-Ok.ensures.ok in
    let lacks = lacks-from-none g.K.Ord.cmp g.met.K.Ord.total g.met.K.Key.exact g.K.Key.word_of c.self.inside.pool.slots c.args.key (rw (← c.self.view_is) at c.requires.absent) in
    rw (slots, c.link.ensures.heads, c.link.ensures.next) (
      insert-hashed g.K.Ord.cmp g.met.K.Ord.total g.met.K.Key.exact g.K.Key.word_of c.self.inside.pool.slots c.self.inside.chains.heads.items c.self.inside.chains.next.items c.self.invariant.0 c.in-Ok.slot.number c.args.account e c.in-Ok.ensures.in_range c.in-Ok.ensures.was_empty c.bucket-start.result (get_or c.self.inside.chains.heads.items c.bucket-start.result 0) c.bucket-start.ensures.same c.bucket-start.ensures.in_range (get_or_default c.self.inside.chains.heads.items c.bucket-start.result 0 (get_or c.self.inside.chains.heads.items c.bucket-start.result 0) c.bucket-start.ensures.in_range) lacks,
      ap (λ m. m + 1) c.self.invariant.1 ∙ counts.0,
    )

pub returns-in-Ok-clause-ok : goal.returns-in-Ok-clause-ok
returns-in-Ok-clause-ok g c =
    let e : KeyedValue g.row.K.Denot g.row.W.Denot = record { key = c.args.key; value = c.args.value } in
    ap (contents g.K.Ord.cmp) c.in-Ok.ensures.ok
    ∙ (rw (← c.self.view_is) (fill-contents g.K.Ord.cmp g.met.K.Ord.total g.met.K.Key.exact c.self.inside.pool.slots c.in-Ok.slot.number c.args.account e c.in-Ok.ensures.in_range c.in-Ok.ensures.was_empty (find-none-from g.K.Ord.cmp g.met.K.Ord.total g.met.K.Key.exact g.K.Key.word_of c.self.inside.pool.slots c.args.key (rw (← c.self.view_is) at c.requires.absent))))

pub returns-in-Ok-clause-refuses : goal.returns-in-Ok-clause-refuses
returns-in-Ok-clause-refuses g c = rw (← c.self.view_is) (by-map g.K.Ord.cmp g.met.K.Ord.total c.self.inside.pool c.self.invariant.0.apart c.args.account _ c.in-Ok.ensures.refuses)

pub returns-in-Err-clause-refuses : goal.returns-in-Err-clause-refuses
returns-in-Err-clause-refuses g c = rw (← c.self.view_is) (by-map g.K.Ord.cmp g.met.K.Ord.total c.self.inside.pool c.self.invariant.0.apart c.args.account _ c.in-Err.ensures.refuses)

pub returns-in-Err-clause-used : goal.returns-in-Err-clause-used
returns-in-Err-clause-used g c = rw (← c.self.view_is) (c.in-Err.ensures.used ∙ sym (charged-uses g.K.Ord.cmp g.met.K.Ord.total c.self.inside.pool c.self.invariant.0.apart c.args.account))
