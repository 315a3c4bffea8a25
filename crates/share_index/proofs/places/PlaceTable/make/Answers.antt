use Rattle.std.proofs.Common.{◌≡◌, ◌∙◌, ap, sym, subst, ◌<◌, ◌^◌, [], ◌∷◌}
use Rattle.pool_map.specs.Shown.{shown, shown-empty}
use Rattle.pool_map.specs.Slots.{contents-fresh}
use Rattle.cd_base.specs.Order.{fp_cmp, fp_exact}
use Rattle.share_index.specs.Counting.{room_of}
use Rattle.share_index.proofs.Placing.{fp_total, kept_of, placing-empty}
use Rattle.share_index.proofs.places.PlaceTable.make.Goals as goal

pub invariant_of-result : goal.invariant_of-result
invariant_of-result c =
    let limits : c.in_ok-table.table.limits ≡ c.args.room ∷ [] = c.in_ok-table.ensures.limits ∙ c.as_slice.ensures in
    placing-empty c.in_ok-table.table
    (limits ∙ ap (λ l. room_of l ∷ []) (sym limits))
    (subst (λ l. room_of l < 2 ^ 32) (sym limits) c.ranges.room.fits)
    (contents-fresh fp_cmp c.in_ok-table.table _ c.in_ok-table.ensures.slots)

pub returns-clause-kept : goal.returns-clause-kept
returns-clause-kept c = ap (shown kept_of) (contents-fresh fp_cmp c.in_ok-table.table _ c.in_ok-table.ensures.slots) ∙ shown-empty kept_of fp_total fp_exact
