use Rattle.std.proofs.Common.{◌≡◌, ◌∙◌, ap, sym, subst, ◌<◌, ◌^◌, [], ◌∷◌}
use Rattle.pool_map.specs.Shown.{shown, shown-empty}
use Rattle.pool_map.specs.Slots.{contents-fresh}
use Rattle.share_index.specs.Counts.{number_cmp}
use Rattle.share_index.specs.Counting.{room_of}
use Rattle.share_index.proofs.Counting.{plain, number_total, number_exact, counting-empty}
use Rattle.share_index.proofs.counts.UserCounts.make.Goals as goal

pub invariant_of-result : goal.invariant_of-result
invariant_of-result c =
    let limits : c.in_ok-table.table.limits ≡ c.args.room ∷ [] = c.in_ok-table.ensures.limits ∙ c.as_slice.ensures in
    counting-empty c.in_ok-table.table
    (limits ∙ ap (λ l. room_of l ∷ []) (sym limits))
    (subst (λ l. room_of l < 2 ^ 32) (sym limits) c.ranges.room.fits)
    (contents-fresh number_cmp c.in_ok-table.table _ c.in_ok-table.ensures.slots)

pub returns-clause-counts : goal.returns-clause-counts
returns-clause-counts c = ap (shown plain) (contents-fresh number_cmp c.in_ok-table.table _ c.in_ok-table.ensures.slots) ∙ shown-empty plain number_total number_exact
