use Rattle.std.proofs.Common.{refl, false, Err, subst}
use Rattle.fresh_checkpoints.specs.CdEdges.area.Area.TheVariants.{Journal}
use Rattle.fresh_checkpoints.specs.CdEdges.Disk.{Areas}
use Rattle.cloud_opening.specs.JournalStart.start.Header.{Header}
use Rattle.cloud_opening.specs.CommitJournal.Openings.{IsOpened, OpensIs}
use Rattle.cloud_opening.specs.CommitJournal.States.{state_of}
use Rattle.store_migration.proofs.Opened.{old_opened, not_opened, open_counts, open_memory}
use Rattle.store_migration.proofs.finding.open_found.Goals as goal

pub returns-in-Ok-clause-opened : goal.returns-in-Ok-clause-opened
returns-in-Ok-clause-opened g c told synced found =
    let number = c.args.cloud.0 in let c0 = g.V.Shelf.cloud_at c.args.shelf.now number in let after = state_of c.«open».new.self in
    let opening = c.in-Ok.ensures.opens told synced in
    let here = subst (λ (a : Areas). IsOpened after (a Journal) c.header_one.result) (c.in-Ok.ensures.unasked refl).now opening.opened in
    old_opened c.args.shape c.args.cloud (c0.now Journal) c.args.half found after (subst (λ (h : Header). IsOpened after (c0.now Journal) h) c.header_one.ensures.value here)

pub returns-in-Err-clause-opened : goal.returns-in-Err-clause-opened
returns-in-Err-clause-opened g c told synced found =
    let number = c.args.cloud.0 in let c0 = g.V.Shelf.cloud_at c.args.shelf.now number in let after = state_of c.«open».new.self in
    let opening = c.in-Err.ensures.opens told synced in
    not_opened c.args.shape c.args.cloud (c0.now Journal) c.args.half found after c.in-Err.error c.unopened.result c.unopened.ensures
    (subst (λ (h : Header). OpensIs (c0.now Journal).read h false (Err c.in-Err.error)) c.header_one.ensures.value opening.answer)

pub returns-in-Err-clause-memory : goal.returns-in-Err-clause-memory
returns-in-Err-clause-memory g c = open_memory c.in-Err.error c.unopened.result c.unopened.ensures

pub returns-in-Err-clause-counts : goal.returns-in-Err-clause-counts
returns-in-Err-clause-counts g c = open_counts c.in-Err.error c.unopened.result _ _ c.unopened.ensures c.in-Err.ensures.counts
