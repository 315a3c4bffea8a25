use Rattle.std.proofs.Common.{◌∙◌, ap}
use Rattle.pool_map.specs.Shown.{shown, shown-empty}
use Rattle.file_index.specs.Order.{key_exact}
use Rattle.file_index.proofs.Order.{key_total}
use Rattle.file_index.proofs.Keeping.{value, kept-fresh}
use Rattle.file_index.proofs.FileIndex.clear.Goals as goal

pub invariant_of-self : goal.invariant_of-self
invariant_of-self c = kept-fresh c.clear.new.self c.self.inside.accounts (c.clear.ensures.limits ∙ c.self.invariant.limits) c.clear.ensures.emptied

pub returns-clause-empty : goal.returns-clause-empty
returns-clause-empty c = ap (shown value) c.clear.ensures.emptied ∙ shown-empty value key_total key_exact
