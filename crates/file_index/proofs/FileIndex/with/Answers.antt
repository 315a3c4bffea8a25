use Rattle.std.proofs.Common.{◌∙◌, ap}
use Rattle.pool_map.specs.Shown.{shown, shown-empty}
use Rattle.pool_map.specs.Slots.{contents-fresh}
use Rattle.file_index.specs.Order.{key_cmp, key_exact}
use Rattle.file_index.proofs.Order.{key_total}
use Rattle.file_index.proofs.Keeping.{value, kept-fresh}
use Rattle.file_index.proofs.FileIndex.with.Goals as goal

pub invariant_of-result : goal.invariant_of-result
invariant_of-result c = kept-fresh c.in_ok-table.table c.args.accounts (c.in_ok-table.ensures.limits ∙ c.deref.ensures.value ∙ c.in_ok-limits.ensures) (contents-fresh key_cmp c.in_ok-table.table _ c.in_ok-table.ensures.slots)

pub returns-clause-empty : goal.returns-clause-empty
returns-clause-empty c = ap (shown value) (contents-fresh key_cmp c.in_ok-table.table _ c.in_ok-table.ensures.slots) ∙ shown-empty value key_total key_exact
