use Rattle.std.proofs.Common.{◌≡◌, ◌+◌, length, get_or, set, subst, ap, ◌∙◌, arith, length-set, sym}
use Rattle.std.proofs.lemmas.List.{take_at, get_or_default}
use Rattle.slot_pool.specs.Pool.{PoolContents}
use Rattle.pool_map.specs.declared.KeyedValue.{KeyedValue}
use Rattle.pool_map.specs.Index.{IsBeforeGap}
use Rattle.pool_map.specs.Table.{contents}
use Rattle.pool_map.proofs.Walks.{fill-count, insert-hashed, lacks-from-none}
use Rattle.pool_map.proofs.Order.{once}
use Rattle.pool_map.proofs.Ring.{gap-below, ordered-insert}
use Rattle.pool_map.proofs.Steps.{insert-step, not-absent}
use Rattle.pool_map.proofs.Counts.{charged-uses, by-map}
use Rattle.pool_map.proofs.sorted.SortedTableTable.insert.Goals as goal

pub unreachable-requires : goal.unreachable-requires
unreachable-requires g c =
    let h = c.in-Ok.ensures.found in
    not-absent g.K.Ord.cmp g.met.K.Ord.total c.self.inside.pool.slots h.ordered.order h.ordered.index c.args.key h.place h.found (rw (← c.self.view_is) at c.requires.absent)

pub link-after-requires-clause-before : goal.link-after-requires-clause-before
link-after-requires-clause-before g c = omega (arith, c.deref.ensures.len, c.deref_mut.ensures.len, gap-below g.K.Ord.cmp g.met.K.Ord.total c.self.inside.pool.slots c.deref.result.now c.args.key c.in-Err.before c.in-Err.ensures.absent)

pub overflow_add-self : goal.overflow_add-self
overflow_add-self g c =
    let e : KeyedValue g.row.K.Denot g.row.W.Denot = record { key = c.args.key; value = c.args.value } in
    let counts = fill-count c.self.inside.pool.slots c.in-Ok-take.slot.number c.args.account e c.in-Ok-take.ensures.in_range c.in-Ok-take.ensures.was_empty in
    let small = c.self.invariant.0.index.small in
    let len = c.self.invariant.1 in
    omega arith

pub invariant_of-self : goal.invariant_of-self
invariant_of-self g c =
    let s = c.in-Ok-take.slot.number in
    let b = c.in-Err.before in
    let e : KeyedValue g.row.K.Denot g.row.W.Denot = record { key = c.args.key; value = c.args.value } in
    let gap = subst (λ o. IsBeforeGap g.K.Ord.cmp c.self.inside.pool.slots o c.args.key b) c.deref.ensures.value c.in-Err.ensures.absent in
    let slots : c.take.new.self.slots ≡ _ = ap (λ (p : PoolContents (KeyedValue g.row.K.Denot g.row.W.Denot)). p.slots) c.in-Ok-take.ensures.ok in
    let links : c.link-after.new.next ≡ set (set c.self.inside.next.items s (get_or c.self.inside.next.items b 0)) b s = c.link-after.ensures.linked ∙ ap (λ d. set (set d s (get_or d b 0)) b s) c.deref_mut.ensures.value in
    let n : length c.link-after.new.next ≡ length c.self.inside.next.items = ap length links ∙ length-set (set c.self.inside.next.items s (get_or c.self.inside.next.items b 0)) b s ∙ length-set c.self.inside.next.items s (get_or c.self.inside.next.items b 0) in
    let m : length c.link-after.new.next ≡ c.self.inside.next.len = omega arith in
    let counts = fill-count c.self.inside.pool.slots s c.args.account e c.in-Ok-take.ensures.in_range c.in-Ok-take.ensures.was_empty in
    let lacks = lacks-from-none g.K.Ord.cmp g.met.K.Ord.total g.met.K.Key.exact g.K.Key.word_of c.self.inside.pool.slots c.args.key (rw (← c.self.view_is) at c.requires.absent) in
    let heads = c.self.inside.chains.heads.items in
    let start = c.bucket-start.result in
    rw (slots, take_at c.link-after.new.next _ _ m, links, c.link.ensures.heads, c.link.ensures.next) (
      ordered-insert g.K.Ord.cmp g.met.K.Ord.total c.self.inside.pool.slots c.self.inside.next.items b s c.args.account e gap c.in-Ok-take.ensures.in_range c.in-Ok-take.ensures.was_empty,
      ap (λ k. k + 1) c.self.invariant.1 ∙ counts.0,
      insert-hashed g.K.Ord.cmp g.met.K.Ord.total g.met.K.Key.exact g.K.Key.word_of c.self.inside.pool.slots heads c.self.inside.chains.next.items c.self.invariant.2 s c.args.account e c.in-Ok-take.ensures.in_range c.in-Ok-take.ensures.was_empty start (get_or heads start 0) c.bucket-start.ensures.same c.bucket-start.ensures.in_range (get_or_default heads start 0 (get_or heads start 0) c.bucket-start.ensures.in_range) lacks,
    )

pub returns-in-Ok-take-clause-ok : goal.returns-in-Ok-take-clause-ok
returns-in-Ok-take-clause-ok g c =
    let h = c.in-Err.ensures.absent in
    let e : KeyedValue g.row.K.Denot g.row.W.Denot = record { key = c.args.key; value = c.args.value } in
    ap (contents g.K.Ord.cmp) c.in-Ok-take.ensures.ok
    ∙ (rw (← c.self.view_is) (insert-step g.K.Ord.cmp g.met.K.Ord.total g.met.K.Key.exact c.self.inside.pool.slots h.ordered.order h.ordered.index h.place c.in-Ok-take.slot.number c.args.account e h.gap c.in-Ok-take.ensures.in_range c.in-Ok-take.ensures.was_empty))

pub returns-in-Ok-take-clause-refuses : goal.returns-in-Ok-take-clause-refuses
returns-in-Ok-take-clause-refuses g c = rw (← c.self.view_is) (by-map g.K.Ord.cmp g.met.K.Ord.total c.self.inside.pool (once g.K.Ord.cmp g.met.K.Ord.total c.self.inside.pool.slots _ c.self.invariant.0.index) c.args.account _ c.in-Ok-take.ensures.refuses)

pub returns-in-Err-take-clause-refuses : goal.returns-in-Err-take-clause-refuses
returns-in-Err-take-clause-refuses g c = rw (← c.self.view_is) (by-map g.K.Ord.cmp g.met.K.Ord.total c.self.inside.pool (once g.K.Ord.cmp g.met.K.Ord.total c.self.inside.pool.slots _ c.self.invariant.0.index) c.args.account _ c.in-Err-take.ensures.refuses)

pub returns-in-Err-take-clause-used : goal.returns-in-Err-take-clause-used
returns-in-Err-take-clause-used g c = rw (← c.self.view_is) (c.in-Err-take.ensures.used ∙ sym (charged-uses g.K.Ord.cmp g.met.K.Ord.total c.self.inside.pool (once g.K.Ord.cmp g.met.K.Ord.total c.self.inside.pool.slots _ c.self.invariant.0.index) c.args.account))
