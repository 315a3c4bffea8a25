use Rattle.std.proofs.Common.{◌∙◌, ap, sym, length}
use Rattle.std.proofs.lemmas.List.{length-replicate}
use Rattle.pool_map.specs.SlotPool.Content.TheVariants.{Empty}
use Rattle.pool_map.specs.Shown.{shown, shown-empty}
use Rattle.share_index.specs.Order.{owner_exact}
use Rattle.share_index.proofs.Counting.{plain}
use Rattle.share_index.proofs.Owning.{owner_total, owning-empty}
use Rattle.share_index.proofs.owners.OwnerTable.clear.Goals as goal

pub invariant_of-self : goal.invariant_of-self
invariant_of-self c =
    owning-empty c.clear.new.self c.clear-2.new.self c.self.inside.accounts (c.clear.ensures.limits ∙ c.self.invariant.limits) c.clear.ensures.emptied c.clear-2.ensures.counts
    (c.clear-2.ensures.room ∙ c.self.invariant.room ∙ sym (ap length c.clear.ensures.slots ∙ length-replicate (length c.self.inside.table.slots) Empty))

pub returns-clause-owners : goal.returns-clause-owners
returns-clause-owners c = ap (shown plain) c.clear.ensures.emptied ∙ shown-empty plain owner_total owner_exact
