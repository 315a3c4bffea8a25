use Rattle.std.proofs.Common.{◌∙◌, ap}
use Rattle.pool_map.specs.Shown.{shown, shown-empty}
use Rattle.cd_base.specs.Order.{fp_exact}
use Rattle.share_index.specs.Indexed.{place_in}
use Rattle.share_index.proofs.Placing.{fp_total}
use Rattle.share_index.proofs.Indexing.{indexed-empty}
use Rattle.share_index.proofs.ShareIndex.clear.Goals as goal

pub invariant_of-self : goal.invariant_of-self
invariant_of-self c = indexed-empty c.clear.new.self c.clear-2.new.self c.clear.ensures.kept c.clear-2.ensures.owners

pub returns-clause-places : goal.returns-clause-places
returns-clause-places c = ap (shown place_in) c.clear.ensures.kept ∙ shown-empty place_in fp_total fp_exact
