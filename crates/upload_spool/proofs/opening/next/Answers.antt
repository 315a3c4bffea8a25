use Rattle.std.proofs.Common.{Err, subst}
use Rattle.commit_journal.specs.CdEdges.area.Area.TheVariants.{Journal}
use Rattle.commit_journal.specs.JournalHalves.errors.RecordErr.{RecordErr}
use Rattle.commit_journal.specs.Outcomes as journal
use Rattle.commit_journal.specs.States as half
use Rattle.upload_spool.proofs.Steps.{next_ok, next_damaged}
use Rattle.upload_spool.proofs.opening.next.Goals as goal

pub returns-in-Ok-clause-reads : goal.returns-in-Ok-clause-reads
returns-in-Ok-clause-reads g c told shape notes is =
    let store = (g.V.Shelf.cloud_at c.args.shelf.now 0).now Journal in
    next_ok shape (half.state_of c.args.journal.now) (half.state_of c.next.new.self) store notes c.in-Ok.more is (c.in-Ok.ensures.reads told is.w is.reading) c.in-Ok.ensures.step

pub returns-in-Err-Damaged-clause-reads : goal.returns-in-Err-Damaged-clause-reads
returns-in-Err-Damaged-clause-reads g c told shape notes is =
    let store = (g.V.Shelf.cloud_at c.args.shelf.now 0).now Journal in let before = half.state_of c.args.journal.now in
    next_damaged shape before store notes c.in-Err-Damaged.at c.in-Err-Damaged.byte is
    (subst (λ (e : RecordErr). journal.NextIs before (half.state_of c.next.new.self) store is.w (Err e)) c.in-Err-Damaged.field-0-is (c.in-Err-Damaged.ensures.reads told is.w is.reading))
