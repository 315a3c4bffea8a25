use Rattle.std.proofs.Common.{refl, sym, subst}
use Rattle.fresh_checkpoints.specs.CdEdges.area.Area.TheVariants.{Journal}
use Rattle.fresh_checkpoints.specs.CdEdges.Disk.{Areas, IsImage}
use Rattle.fresh_checkpoints.proofs.CdEdges.Calls.{called_twice}
use Rattle.fresh_checkpoints.proofs.CdEdges.Moments.{told_on}
use Rattle.cloud_opening.specs.CommitJournal.Openings.{IsSynced}
use Rattle.cloud_opening.specs.CommitJournal.States.{state_of}
use Rattle.cloud_opening.proofs.Opened.{then_stays}
use Rattle.cloud_opening.proofs.Synced.{synced_at, none_behind}
use Rattle.store_migration.specs.Finding.{OpenedAs}
use Rattle.store_migration.proofs.Cases.{of_all, counted_behind}
use Rattle.store_migration.proofs.finding.open_old.Goals as goal

pub returns-in-Ok-clause-any_moment : goal.returns-in-Ok-clause-any_moment
returns-in-Ok-clause-any_moment g c told =
    let number = c.args.cloud.0 in let c0 = g.V.Shelf.cloud_at c.args.shelf.now number in let c1 = g.V.Shelf.cloud_at c.sync_all.new.shelf number in let c2 = g.V.Shelf.cloud_at c.open_synced.new.shelf number in
    then_stays c0 c1 c2 (IsImage c0.now) (c.sync_all.ensures.any_moment told) c.open_synced.ensures.stays

pub returns-in-Ok-clause-synced : goal.returns-in-Ok-clause-synced
returns-in-Ok-clause-synced g c told =
    let number = c.args.cloud.0 in let c0 = g.V.Shelf.cloud_at c.args.shelf.now number in let c1 = g.V.Shelf.cloud_at c.sync_all.new.shelf number in let c2 = g.V.Shelf.cloud_at c.open_synced.new.shelf number in
    of_all c.open_synced.result _ (none_behind c0 c1 c2 (c.in-Ok.ensures.synced told) c.open_synced.ensures.stays)

pub returns-in-Ok-clause-opened : goal.returns-in-Ok-clause-opened
returns-in-Ok-clause-opened g c told =
    let number = c.args.cloud.0 in let c0 = g.V.Shelf.cloud_at c.args.shelf.now number in let c1 = g.V.Shelf.cloud_at c.sync_all.new.shelf number in
    let told1 = told_on c0 c1 c.sync_all.ensures.call.told told in
    let stable_is : IsSynced (c1.now Journal) = subst IsSynced (sym (synced_at c0 c1 (c.in-Ok.ensures.synced told) Journal)) refl in
    subst (λ (a : Areas). OpenedAs c.args.shape c.args.cloud (state_of c.open_synced.new.journal) (a Journal) c.open_synced.result) (sym c.open_synced.ensures.stays.now)
    (c.open_synced.ensures.opened told1 stable_is)

pub returns-in-Ok-clause-call : goal.returns-in-Ok-clause-call
returns-in-Ok-clause-call g c = called_twice _ _ _ _ _ _ _ c.sync_all.ensures.call c.open_synced.ensures.call

pub returns-in-Ok-clause-counts : goal.returns-in-Ok-clause-counts
returns-in-Ok-clause-counts g c =
    counted_behind c.open_synced.result (g.V.Shelf.cloud_at c.args.shelf.now) (g.V.Shelf.cloud_at c.sync_all.new.shelf) (g.V.Shelf.cloud_at c.open_synced.new.shelf) c.args.cloud.0 (g.V.Shelf.faults c.args.shelf.now) (g.V.Shelf.faults c.sync_all.new.shelf) (g.V.Shelf.faults c.open_synced.new.shelf)
    c.sync_all.ensures.call c.in-Ok.ensures.uncounted c.open_synced.ensures.counts
