use Rattle.std.proofs.Common.{refl, sym, subst}
use Rattle.cloud_disk.specs.CdEdges.area.Area.TheVariants.{Journal}
use Rattle.cloud_disk.proofs.CdEdges.Calls.{called_twice}
use Rattle.cloud_disk.proofs.CdEdges.Moments.{told_on}
use Rattle.cloud_disk.specs.CommitJournal.Openings.{IsSynced}
use Rattle.cloud_disk.specs.CommitJournal.States.{state_of}
use Rattle.cloud_opening.proofs.Synced.{synced_at, not_synced, synced_started, counted_behind, on_ok}
use Rattle.cloud_opening.proofs.Current.{region_small}
use Rattle.cloud_opening.proofs.journal.open_journal.Goals as goal

pub returns-in-Err-clause-started : goal.returns-in-Err-clause-started
returns-in-Err-clause-started g c told =
    let number = c.args.cloud.0 in let c0 = g.V.Shelf.cloud_at c.args.shelf.now number in let c1 = g.V.Shelf.cloud_at c.sync_all.new.shelf number in
    not_synced c.args.header.now c.args.begin c0 c1 (c.sync_all.ensures.any_moment told) _

pub returns-in-Ok-clause-started : goal.returns-in-Ok-clause-started
returns-in-Ok-clause-started g c told =
    let number = c.args.cloud.0 in let c0 = g.V.Shelf.cloud_at c.args.shelf.now number in let c1 = g.V.Shelf.cloud_at c.sync_all.new.shelf number in
    let c2 = g.V.Shelf.cloud_at c.open.new.shelf number in let told1 = told_on c0 c1 c.sync_all.ensures.call.told told in
    let synced = c.in-Ok.ensures.synced told in
    let stable_is : IsSynced (c1.now Journal) = subst IsSynced (sym (synced_at c0 c1 synced Journal)) refl in
    synced_started c.args.header.now c.args.begin c0 c1 (c.sync_all.ensures.any_moment told) c2 (g.met.V.Shelf.reads_image c.args.shelf.now number told) synced _ c.open.result
    (c.open.ensures.opens told1 stable_is) (c.open.ensures.begun told1) c.open.ensures.unasked

pub returns-in-Ok-clause-call : goal.returns-in-Ok-clause-call
returns-in-Ok-clause-call g c =
    called_twice _ _ _ _ _ _ _ c.sync_all.ensures.call c.open.ensures.call

pub returns-in-Ok-clause-counts : goal.returns-in-Ok-clause-counts
returns-in-Ok-clause-counts g c =
    counted_behind c.open.result (g.V.Shelf.cloud_at c.args.shelf.now) (g.V.Shelf.cloud_at c.sync_all.new.shelf) (g.V.Shelf.cloud_at c.open.new.shelf) c.args.cloud.0 (g.V.Shelf.faults c.args.shelf.now) (g.V.Shelf.faults c.sync_all.new.shelf) (g.V.Shelf.faults c.open.new.shelf)
    c.sync_all.ensures.call c.in-Ok.ensures.uncounted c.open.ensures.counts

pub returns-in-Ok-clause-small : goal.returns-in-Ok-clause-small
returns-in-Ok-clause-small g c =
    let state = state_of c.open.new.self in
    on_ok c.open.result _ _ (λ is. region_small state.current.half state.start.header.format state.start.checkpoint is.behind) c.open.ensures.start
