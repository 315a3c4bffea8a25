use Rattle.std.proofs.Common.{◌≡◌, ℕ, ◌+◌, ◌∙◌, ap, sym, arith, refl}
use Rattle.std.specs.FinMap.{insert}
use Rattle.pool_map.specs.SlotPool.Pool.{PoolContents}
use Rattle.pool_map.specs.declared.KeyedValue.{KeyedValue as Pair}
use Rattle.share_index.specs.declared.key.UserNumber.{UserNumber}
use Rattle.pool_map.specs.Table.{contents}
use Rattle.pool_map.specs.Shown.{shown, shown-insert}
use Rattle.share_index.specs.Counts.{UserCounts, number_cmp, number_of, count_at, begun}
use Rattle.share_index.proofs.Counting.{plain, number_total, number_exact, sub-fits, count-fits, batches-fit, one-more-fits, had, had-none, has-room, none-copied, rewritten-is, counting-put, put-sum-is}
use Rattle.share_index.proofs.counts.UserCounts.raise.Goals as goal

pub overflow_sub-self : goal.overflow_sub-self
overflow_sub-self c =
    let h = had c.self.inside.table c.self.inside.batches c.self.invariant c.args.user c.in-Some.count (sym c.in-Some.is ∙ c.copied.ensures ∙ c.get.ensures.value) in
    sub-fits c.self.inside.table c.self.inside.batches c.self.invariant c.args.user c.in-Some.count c.begun.result (sym h.4) c.begun.ensures

pub overflow_add-count : goal.overflow_add-count
overflow_add-count c =
    let h = had c.self.inside.table c.self.inside.batches c.self.invariant c.args.user c.in-Some.count (sym c.in-Some.is ∙ c.copied.ensures ∙ c.get.ensures.value) in
    let fits = count-fits c.self.inside.table c.self.inside.batches c.self.invariant c.args.user c.in-Some.count (sym h.4) (rw (← c.self.view_is) at c.requires) in omega arith

pub overflow_add-self : goal.overflow_add-self
overflow_add-self c =
    let h = had c.self.inside.table c.self.inside.batches c.self.invariant c.args.user c.in-Some.count (sym c.in-Some.is ∙ c.copied.ensures ∙ c.get.ensures.value) in
    let fits = batches-fit c.self.inside.table c.self.inside.batches c.self.invariant c.args.user c.in-Some.count c.begun.result c.begun-in-Some.result (sym h.4) c.begun.ensures c.begun-in-Some.ensures (rw (← c.self.view_is) at c.requires) in omega arith

pub overflow_add-count-in-Some : goal.overflow_add-count-in-Some
overflow_add-count-in-Some c =
    let h = had c.self.inside.table c.self.inside.batches c.self.invariant c.args.user c.in-Some.count (sym c.in-Some.is ∙ c.copied.ensures ∙ c.get.ensures.value) in
    let fits = count-fits c.self.inside.table c.self.inside.batches c.self.invariant c.args.user c.in-Some.count (sym h.4) (rw (← c.self.view_is) at c.requires) in omega arith

pub invariant_of-self : goal.invariant_of-self
invariant_of-self c =
    let h = had c.self.inside.table c.self.inside.batches c.self.invariant c.args.user c.in-Some.count (sym c.in-Some.is ∙ c.copied.ensures ∙ c.get.ensures.value) in
    counting-put c.self.inside.table c.self.inside.batches c.self.invariant c.replace.new.self c.args.user (c.in-Some.count + 1) _ (ap (λ (p : PoolContents (Pair UserNumber ℕ)). p.limits) c.replace.ensures.slots.now_is)
    (c.replace.ensures.replaced ∙ rewritten-is c.self.inside.table c.self.inside.batches c.self.invariant c.args.user (c.in-Some.count + 1) h.0 h.1 h.2)
    (omega arith)
    c.ranges.user.fits
    (put-sum-is c.self.inside.table c.self.inside.batches c.self.invariant c.args.user c.in-Some.count (c.in-Some.count + 1) c.begun.result c.begun-in-Some.result (sym h.4) c.begun.ensures c.begun-in-Some.ensures)

pub overflow_add-self-in-None : goal.overflow_add-self-in-None
overflow_add-self-in-None c = let fits = one-more-fits c.self.inside.table c.self.inside.batches c.self.invariant (rw (← c.self.view_is) at c.requires) in omega arith

pub invariant_of-self-in-Ok : goal.invariant_of-self-in-Ok
invariant_of-self-in-Ok c =
    let none = (had-none c.self.inside.table c.self.inside.batches c.self.invariant c.args.user (none-copied c.get.result _ (sym c.copied.ensures ∙ c.in-None.is) c.get.ensures.absent)) in
    counting-put c.self.inside.table c.self.inside.batches c.self.invariant c.insert.new.self c.args.user 1 _ (ap (λ (p : PoolContents (Pair UserNumber ℕ)). p.limits) c.in-Ok.ensures.placed.now_is)
    c.in-Ok.ensures.ok
    (omega arith)
    c.ranges.user.fits
    (let here : begun (count_at (shown plain (contents number_cmp c.self.inside.table)) c.args.user) ≡ 0 = ap (λ n. begun n) none in omega arith)

pub unreachable-requires : goal.unreachable-requires
unreachable-requires c = has-room c.self.inside.table c.self.inside.batches c.self.invariant (rw (← c.self.view_is) at c.requires) (c.in-Err.ensures.refuses.0 refl)

pub returns-in-Some-clause-counts : goal.returns-in-Some-clause-counts
returns-in-Some-clause-counts c =
    let h = had c.self.inside.table c.self.inside.batches c.self.invariant c.args.user c.in-Some.count (sym c.in-Some.is ∙ c.copied.ensures ∙ c.get.ensures.value) in
    ap (shown plain) (c.replace.ensures.replaced ∙ rewritten-is c.self.inside.table c.self.inside.batches c.self.invariant c.args.user (c.in-Some.count + 1) h.0 h.1 h.2)
    ∙ shown-insert plain number_total number_exact (contents number_cmp c.self.inside.table) (number_of c.args.user) (0, c.in-Some.count + 1)
    ∙ ap (λ n. insert (shown plain (contents number_cmp c.self.inside.table)) (number_of c.args.user) (n + 1)) (sym h.4)
    ∙ ap (λ (u : UserCounts). insert u.counts (number_of c.args.user) (count_at u.counts c.args.user + 1)) c.self.view_is

pub returns-in-Ok-clause-counts : goal.returns-in-Ok-clause-counts
returns-in-Ok-clause-counts c =
    ap (shown plain) c.in-Ok.ensures.ok
    ∙ shown-insert plain number_total number_exact (contents number_cmp c.self.inside.table) (number_of c.args.user) (0, 1)
    ∙ ap (λ n. insert (shown plain (contents number_cmp c.self.inside.table)) (number_of c.args.user) (n + 1)) (sym (had-none c.self.inside.table c.self.inside.batches c.self.invariant c.args.user (none-copied c.get.result _ (sym c.copied.ensures ∙ c.in-None.is) c.get.ensures.absent)))
    ∙ ap (λ (u : UserCounts). insert u.counts (number_of c.args.user) (count_at u.counts c.args.user + 1)) c.self.view_is
