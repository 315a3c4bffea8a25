use Rattle.std.proofs.Common.{ℕ, ◌-◌, ◌<◌, ◌∙◌, ap, sym, arith}
use Rattle.std.specs.Prelude.{is_some}
use Rattle.std.specs.FinMap.{insert}
use Rattle.pool_map.specs.SlotPool.Pool.{PoolContents}
use Rattle.pool_map.specs.declared.KeyedValue.{KeyedValue as Pair}
use Rattle.share_index.specs.declared.key.UserNumber.{UserNumber}
use Rattle.pool_map.specs.Table.{contents}
use Rattle.pool_map.specs.Shown.{shown, shown-insert, shown-remove}
use Rattle.share_index.specs.Counts.{UserCounts, number_cmp, number_of, count_at, lowered}
use Rattle.share_index.proofs.Counting.{plain, number_total, number_exact, sub-fits, owning, rewritten-is, counting-put, counting-take, put-sum-is, take-sum-is, lowered-one, lowered-more}
use Rattle.share_index.proofs.counts.UserCounts.lower.Goals as goal

pub overflow_sub-self : goal.overflow_sub-self
overflow_sub-self c = sub-fits c.self.inside.table c.self.inside.batches c.self.invariant c.args.user c.count-count.result c.begun.result (c.count-count.ensures ∙ ap (λ (u : UserCounts). count_at u.counts c.args.user) (sym c.self.view_is)) c.begun.ensures

pub replace-requires : goal.replace-requires
replace-requires c =
    let some : 0 < count_at (shown plain (contents number_cmp c.self.inside.table)) c.args.user = rw (← c.self.view_is) at c.requires in
    ap is_some (owning c.self.inside.table c.self.inside.batches c.self.invariant c.args.user some).1

pub invariant_of-self : goal.invariant_of-self
invariant_of-self c =
    let some : 0 < count_at (shown plain (contents number_cmp c.self.inside.table)) c.args.user = rw (← c.self.view_is) at c.requires in
    let x = owning c.self.inside.table c.self.inside.batches c.self.invariant c.args.user some in
    counting-take c.self.inside.table c.self.inside.batches c.self.invariant c.remove.new.self c.args.user _ x.0 c.remove.ensures.slots.limits c.remove.ensures.removed x.1
    (take-sum-is c.self.inside.table c.self.inside.batches c.self.invariant c.args.user c.count-count.result c.begun.result c.begun-2.result x.0.1 (c.count-count.ensures ∙ ap (λ (u : UserCounts). count_at u.counts c.args.user) (sym c.self.view_is)) c.if-count-eq1.true c.begun.ensures c.begun-2.ensures (x.3 ∙ sym (c.count-count.ensures ∙ ap (λ (u : UserCounts). count_at u.counts c.args.user) (sym c.self.view_is))))

pub invariant_of-self-else-count-eq1 : goal.invariant_of-self-else-count-eq1
invariant_of-self-else-count-eq1 c =
    let some : 0 < count_at (shown plain (contents number_cmp c.self.inside.table)) c.args.user = rw (← c.self.view_is) at c.requires in
    let x = owning c.self.inside.table c.self.inside.batches c.self.invariant c.args.user some in
    let same = (c.count-count.ensures ∙ ap (λ (u : UserCounts). count_at u.counts c.args.user) (sym c.self.view_is)) in
    let other = c.if-count-eq1.false in
    counting-put c.self.inside.table c.self.inside.batches c.self.invariant c.replace.new.self c.args.user (c.count-count.result - 1) _ (ap (λ (p : PoolContents (Pair UserNumber ℕ)). p.limits) c.replace.ensures.slots.now_is)
    (c.replace.ensures.replaced ∙ rewritten-is c.self.inside.table c.self.inside.batches c.self.invariant c.args.user (c.count-count.result - 1) x.0 x.1 x.2)
    (omega arith)
    c.ranges.user.fits
    (put-sum-is c.self.inside.table c.self.inside.batches c.self.invariant c.args.user c.count-count.result (c.count-count.result - 1) c.begun.result c.begun-2.result same c.begun.ensures c.begun-2.ensures)

pub returns-then-count-eq1-clause-counts : goal.returns-then-count-eq1-clause-counts
returns-then-count-eq1-clause-counts c =
    ap (shown plain) c.remove.ensures.removed
    ∙ shown-remove plain number_total number_exact (contents number_cmp c.self.inside.table) (number_of c.args.user)
    ∙ lowered-one (shown plain (contents number_cmp c.self.inside.table)) c.args.user (sym (c.count-count.ensures ∙ ap (λ (u : UserCounts). count_at u.counts c.args.user) (sym c.self.view_is)) ∙ c.if-count-eq1.true)
    ∙ ap (λ (u : UserCounts). lowered u.counts c.args.user) c.self.view_is

pub returns-else-count-eq1-clause-counts : goal.returns-else-count-eq1-clause-counts
returns-else-count-eq1-clause-counts c =
    let some : 0 < count_at (shown plain (contents number_cmp c.self.inside.table)) c.args.user = rw (← c.self.view_is) at c.requires in
    let x = owning c.self.inside.table c.self.inside.batches c.self.invariant c.args.user some in
    ap (shown plain) (c.replace.ensures.replaced ∙ rewritten-is c.self.inside.table c.self.inside.batches c.self.invariant c.args.user (c.count-count.result - 1) x.0 x.1 x.2)
    ∙ shown-insert plain number_total number_exact (contents number_cmp c.self.inside.table) (number_of c.args.user) (0, c.count-count.result - 1)
    ∙ ap (λ n. insert (shown plain (contents number_cmp c.self.inside.table)) (number_of c.args.user) (n - 1)) (c.count-count.ensures ∙ ap (λ (u : UserCounts). count_at u.counts c.args.user) (sym c.self.view_is))
    ∙ lowered-more (shown plain (contents number_cmp c.self.inside.table)) c.args.user (λ e. c.if-count-eq1.false ((c.count-count.ensures ∙ ap (λ (u : UserCounts). count_at u.counts c.args.user) (sym c.self.view_is)) ∙ e))
    ∙ ap (λ (u : UserCounts). lowered u.counts c.args.user) c.self.view_is
