use Rattle.std.proofs.Common.{Ok, sym, subst}
use Rattle.fresh_checkpoints.specs.CdEdges.area.Area.TheVariants.{Journal}
use Rattle.fresh_checkpoints.specs.CdEdges.Disk.{Areas}
use Rattle.fresh_checkpoints.proofs.CdEdges.Calls.{called_twice}
use Rattle.fresh_checkpoints.proofs.CdEdges.Moments.{told_on}
use Rattle.cloud_opening.specs.CommitJournal.Openings.{IsSynced}
use Rattle.cloud_opening.specs.CommitJournal.States.{state_of}
use Rattle.cloud_opening.proofs.Synced.{still}
use Rattle.store_migration.specs.Finding.{FoundAs, OpenedAs}
use Rattle.store_migration.proofs.Cases.{counted_behind}
use Rattle.store_migration.proofs.Opened.{none_opened}
use Rattle.store_migration.proofs.finding.open_synced.Goals as goal

pub returns-in-Ok-clause-opened : goal.returns-in-Ok-clause-opened
returns-in-Ok-clause-opened g c told synced =
    let number = c.args.cloud.0 in let c0 = g.V.Shelf.cloud_at c.args.shelf.now number in let c1 = g.V.Shelf.cloud_at c.find_old.new.shelf number in
    let told1 = told_on c0 c1 c.find_old.ensures.call.told told in let back = c.find_old.ensures.stays.now in
    let there = subst (λ (a : Areas). FoundAs c.args.shape c.args.cloud (a Journal).read (Ok c.in-Ok.half)) (sym back) (c.in-Ok.ensures.found told) in
    subst (λ (a : Areas). OpenedAs c.args.shape c.args.cloud (state_of c.open_found.new.journal) (a Journal) c.open_found.result) back
    (c.open_found.ensures.opened told1 (subst (λ (a : Areas). IsSynced (a Journal)) (sym back) synced) there)

pub returns-in-Ok-clause-stays : goal.returns-in-Ok-clause-stays
returns-in-Ok-clause-stays g c = still _ _ _ c.find_old.ensures.stays c.open_found.ensures.stays

pub returns-in-Ok-clause-call : goal.returns-in-Ok-clause-call
returns-in-Ok-clause-call g c = called_twice _ _ _ _ _ _ _ c.find_old.ensures.call c.open_found.ensures.call

pub returns-in-Ok-clause-counts : goal.returns-in-Ok-clause-counts
returns-in-Ok-clause-counts g c =
    counted_behind c.open_found.result (g.V.Shelf.cloud_at c.args.shelf.now) (g.V.Shelf.cloud_at c.find_old.new.shelf) (g.V.Shelf.cloud_at c.open_found.new.shelf) c.args.cloud.0 (g.V.Shelf.faults c.args.shelf.now) (g.V.Shelf.faults c.find_old.new.shelf) (g.V.Shelf.faults c.open_found.new.shelf)
    c.find_old.ensures.call c.in-Ok.ensures.counts c.open_found.ensures.counts

pub returns-in-Err-clause-opened : goal.returns-in-Err-clause-opened
returns-in-Err-clause-opened g c told synced =
    none_opened c.args.shape c.args.cloud ((g.V.Shelf.cloud_at c.args.shelf.now c.args.cloud.0).now Journal) (state_of c.find_old.new.journal) c.in-Err.error (c.in-Err.ensures.found told)
