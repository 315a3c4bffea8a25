use Rattle.std.proofs.Common.{◌∙◌, ap, sym, length}
use Rattle.std.proofs.lemmas.List.{length-replicate}
use Rattle.pool_map.specs.SlotPool.Content.TheVariants.{Empty}
use Rattle.pool_map.specs.Shown.{shown, shown-empty}
use Rattle.pool_map.specs.Slots.{contents-fresh}
use Rattle.share_index.specs.Order.{owner_cmp, owner_exact}
use Rattle.share_index.proofs.Counting.{plain}
use Rattle.share_index.proofs.Owning.{owner_total, owning-empty}
use Rattle.share_index.proofs.owners.OwnerTable.make.Goals as goal

pub invariant_of-result : goal.invariant_of-result
invariant_of-result c =
    owning-empty c.in_ok-table.table c.in_ok-counts.counts c.args.accounts
    (c.in_ok-table.ensures.limits ∙ c.deref.ensures.value ∙ c.in_ok-limits.ensures)
    (contents-fresh owner_cmp c.in_ok-table.table _ c.in_ok-table.ensures.slots)
    c.in_ok-counts.ensures.counts
    (c.in_ok-counts.ensures.room ∙ c.slots-2.ensures.slots ∙ sym c.slots.ensures.slots ∙ sym (ap length c.in_ok-table.ensures.slots ∙ length-replicate c.slots.result Empty))

pub returns-clause-owners : goal.returns-clause-owners
returns-clause-owners c = ap (shown plain) (contents-fresh owner_cmp c.in_ok-table.table _ c.in_ok-table.ensures.slots) ∙ shown-empty plain owner_total owner_exact
