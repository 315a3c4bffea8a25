use Rattle.std.proofs.Common.{◌∙◌, ap}
use Rattle.pool_map.specs.Shown.{shown, shown-empty}
use Rattle.cd_base.specs.Order.{fp_exact}
use Rattle.share_index.specs.Indexed.{place_in}
use Rattle.share_index.proofs.Placing.{fp_total}
use Rattle.share_index.proofs.Indexing.{indexed-empty}
use Rattle.share_index.proofs.ShareIndex.with.Goals as goal

pub invariant_of-result : goal.invariant_of-result
invariant_of-result c = indexed-empty c.in_ok-places.places c.in_ok-owners.owners c.in_ok-places.ensures.kept c.in_ok-owners.ensures.owners

pub returns-clause-places : goal.returns-clause-places
returns-clause-places c = ap (shown place_in) c.in_ok-places.ensures.kept ∙ shown-empty place_in fp_total fp_exact
