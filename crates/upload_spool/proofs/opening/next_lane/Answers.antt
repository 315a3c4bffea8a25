use Rattle.std.proofs.Common.{Bool, Ok, subst}
use Rattle.commit_journal.specs.CdEdges.area.Area.TheVariants.{Journal}
use Rattle.commit_journal.specs.States as half
use Rattle.upload_spool.specs.Steps.{NextNoteIs, GateIs, notes_of}
use Rattle.upload_spool.proofs.Steps.{lane_more, lane_refused, lane_unread, lane_step}
use Rattle.upload_spool.proofs.opening.next_lane.Goals as goal

pub returns-in-Ok-clause-reads : goal.returns-in-Ok-clause-reads
returns-in-Ok-clause-reads g c told job is =
    let store = (g.V.Shelf.cloud_at c.args.shelf.now 0).now Journal in let after = half.state_of c.next.new.journal in let noted = c.args.noted.now.items in
    let pending = subst (λ (b : Bool). NextNoteIs c.args.shape after store (notes_of job noted) (Ok b)) c.in-Ok-true.field-0-test (c.in-Ok-true.ensures.reads told c.args.shape (notes_of job noted) is) in
    let lane = c.in-Ok.ensures in
    lane_more c.args.shape job noted c.lane_in.new.noted.items lane.0 after store pending lane.1 lane.2

pub returns-in-Ok-clause-more : goal.returns-in-Ok-clause-more
returns-in-Ok-clause-more g c =
    let lane = c.in-Ok.ensures in
    let gate = subst (λ (b : Bool). GateIs (half.state_of c.args.journal.now) (half.state_of c.next.new.journal) (Ok b)) c.in-Ok-true.field-0-test c.in-Ok-true.ensures.gate in
    lane_step c.args.shape c.args.noted.now.items c.lane_in.new.noted.items lane.0 (half.state_of c.args.journal.now) (half.state_of c.next.new.journal) lane.1 lane.2 gate

pub returns-in-Err-lane_in-clause-reads : goal.returns-in-Err-lane_in-clause-reads
returns-in-Err-lane_in-clause-reads g c told job is =
    let store = (g.V.Shelf.cloud_at c.args.shelf.now 0).now Journal in let after = half.state_of c.next.new.journal in let noted = c.args.noted.now.items in
    let pending = subst (λ (b : Bool). NextNoteIs c.args.shape after store (notes_of job noted) (Ok b)) c.in-Ok-true.field-0-test (c.in-Ok-true.ensures.reads told c.args.shape (notes_of job noted) is) in
    lane_refused c.args.shape job noted c.lane_in.new.noted.items after store pending c.in-Err-lane_in.error c.in-Err-lane_in.ensures

pub returns-in-Ok-false-clause-reads : goal.returns-in-Ok-false-clause-reads
returns-in-Ok-false-clause-reads g c told job is =
    let store = (g.V.Shelf.cloud_at c.args.shelf.now 0).now Journal in let after = half.state_of c.next.new.journal in let noted = c.args.noted.now.items in
    subst (λ (b : Bool). NextNoteIs c.args.shape after store (notes_of job noted) (Ok b)) c.in-Ok-false.field-0-test (c.in-Ok-false.ensures.reads told c.args.shape (notes_of job noted) is)

pub returns-in-Err-clause-reads : goal.returns-in-Err-clause-reads
returns-in-Err-clause-reads g c told job is =
    let store = (g.V.Shelf.cloud_at c.args.shelf.now 0).now Journal in let after = half.state_of c.next.new.journal in let noted = c.args.noted.now.items in
    lane_unread c.args.shape job noted after store c.in-Err.error (c.in-Err.ensures.reads told c.args.shape (notes_of job noted) is)
