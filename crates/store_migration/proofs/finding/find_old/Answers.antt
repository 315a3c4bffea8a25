use Rattle.std.proofs.Common.{◌≡◌, true, false, sym, ◌∙◌}
use Rattle.fresh_checkpoints.specs.CdEdges.area.Area.TheVariants.{Journal}
use Rattle.store_migration.proofs.Opened.{not_found, find_counts, find_memory}
use Rattle.store_migration.proofs.finding.find_old.Goals as goal

pub returns-in-Err-clause-found : goal.returns-in-Err-clause-found
returns-in-Err-clause-found g c told =
    not_found c.args.shape c.args.cloud ((g.V.Shelf.cloud_at c.args.shelf.now c.args.cloud.0).now Journal).read c.in-Err.error c.unfound.result c.unfound.ensures (c.in-Err.ensures.found told)

pub returns-in-Err-clause-memory : goal.returns-in-Err-clause-memory
returns-in-Err-clause-memory g c = find_memory c.in-Err.error c.unfound.result c.unfound.ensures

pub returns-in-Err-clause-counts : goal.returns-in-Err-clause-counts
returns-in-Err-clause-counts g c = find_counts c.in-Err.error c.unfound.result _ _ c.unfound.ensures c.in-Err.ensures.counts

pub returns-then-is_new-clause-found : goal.returns-then-is_new-clause-found
returns-then-is_new-clause-found g c told = (c.in-Ok.found.half, c.in-Ok.found.start, c.in-Ok.ensures.found told, c.is_new.ensures.0 c.if-is_new.true)

pub returns-else-is_new-clause-found : goal.returns-else-is_new-clause-found
returns-else-is_new-clause-found g c told =
    (c.in-Ok.found.start, c.in-Ok.ensures.found told, λ new. let no : true ≡ false = sym (c.is_new.ensures.1 new) ∙ c.if-is_new.false in cc)
