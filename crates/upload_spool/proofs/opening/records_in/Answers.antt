use Rattle.std.proofs.Common.{Bool, Ok, None, subst}
use Rattle.commit_journal.specs.CdEdges.Disk.{Store}
use Rattle.commit_journal.specs.CdEdges.area.Area.TheVariants.{Journal}
use Rattle.commit_journal.specs.States as half
use Rattle.upload_spool.specs.Steps.{NextNoteIs, GateIs, IsAllRead, IsSpoolRefused, notes_of, fields_kept}
use Rattle.upload_spool.proofs.Steps.{unread, job_refused, behind_job, are_kept}
use Rattle.upload_spool.proofs.opening.records_in.Goals as goal

pub returns-in-Ok-false-clause-reads : goal.returns-in-Ok-false-clause-reads
returns-in-Ok-false-clause-reads g c told is =
    let store = (g.V.Shelf.cloud_at c.args.shelf.now 0).now Journal in
    subst (λ (b : Bool). NextNoteIs c.args.shape (half.state_of c.next.new.journal) store None (Ok b)) c.in-Ok-false.field-0-test (c.in-Ok-false.ensures.reads told c.args.shape None is)

pub returns-in-Err-clause-reads : goal.returns-in-Err-clause-reads
returns-in-Err-clause-reads g c told is =
    let store = (g.V.Shelf.cloud_at c.args.shelf.now 0).now Journal in
    unread c.args.shape (half.state_of c.next.new.journal) store None c.in-Err.error (c.in-Err.ensures.reads told c.args.shape None is)

pub returns-in-Ok-lanes_in-clause-reads : goal.returns-in-Ok-lanes_in-clause-reads
returns-in-Ok-lanes_in-clause-reads g c told is =
    let c0 = g.V.Shelf.cloud_at c.args.shelf.now 0 in let c1 = g.V.Shelf.cloud_at c.next.new.shelf 0 in
    let mid = half.state_of c.next.new.journal in let job = fields_kept c.in-Ok.job in
    let pending = subst (λ (b : Bool). NextNoteIs c.args.shape mid (c0.now Journal) None (Ok b)) c.in-Ok-true.field-0-test (c.in-Ok-true.ensures.reads told c.args.shape None is) in
    behind_job c.args.shape mid c0 c1 job (λ (store : Store). IsAllRead c.args.shape (half.state_of c.lanes_in.new.journal) store (notes_of job c.in-Ok-lanes_in.noted.items)) c.next.ensures.stays c.next.ensures.call.told told pending c.in-Ok.ensures
    (λ told1 here. c.in-Ok-lanes_in.ensures.reads told1 job here)

pub returns-in-Ok-lanes_in-clause-kept : goal.returns-in-Ok-lanes_in-clause-kept
returns-in-Ok-lanes_in-clause-kept g c =
    let before = half.state_of c.args.journal.now in let mid = half.state_of c.next.new.journal in
    let gate = subst (λ (b : Bool). GateIs before mid (Ok b)) c.in-Ok-true.field-0-test c.in-Ok-true.ensures.gate in
    are_kept c.args.shape before mid (half.state_of c.lanes_in.new.journal) (record { job = c.in-Ok.job; noted = c.in-Ok-lanes_in.noted }) gate c.in-Ok.ensures c.in-Ok-lanes_in.ensures.noted c.in-Ok-lanes_in.ensures.stage

pub returns-in-Err-lanes_in-clause-reads : goal.returns-in-Err-lanes_in-clause-reads
returns-in-Err-lanes_in-clause-reads g c told is =
    let c0 = g.V.Shelf.cloud_at c.args.shelf.now 0 in let c1 = g.V.Shelf.cloud_at c.next.new.shelf 0 in
    let mid = half.state_of c.next.new.journal in let job = fields_kept c.in-Ok.job in
    let pending = subst (λ (b : Bool). NextNoteIs c.args.shape mid (c0.now Journal) None (Ok b)) c.in-Ok-true.field-0-test (c.in-Ok-true.ensures.reads told c.args.shape None is) in
    behind_job c.args.shape mid c0 c1 job (λ (store : Store). IsSpoolRefused c.args.shape store.read c.in-Err-lanes_in.error) c.next.ensures.stays c.next.ensures.call.told told pending c.in-Ok.ensures
    (λ told1 here. c.in-Err-lanes_in.ensures.reads told1 job here)

pub returns-in-Err-job_in-clause-reads : goal.returns-in-Err-job_in-clause-reads
returns-in-Err-job_in-clause-reads g c told is =
    let store = (g.V.Shelf.cloud_at c.args.shelf.now 0).now Journal in let mid = half.state_of c.next.new.journal in
    let pending = subst (λ (b : Bool). NextNoteIs c.args.shape mid store None (Ok b)) c.in-Ok-true.field-0-test (c.in-Ok-true.ensures.reads told c.args.shape None is) in
    job_refused c.args.shape mid store pending c.in-Err-job_in.error c.in-Err-job_in.ensures
