use Rattle.std.proofs.Common.{Err, subst}
use Rattle.commit_journal.specs.CdEdges.area.Area.TheVariants.{Journal}
use Rattle.commit_journal.specs.JournalHalves.Beginnings.{new_of}
use Rattle.commit_journal.specs.JournalHalves.errors.RecordErr.{RecordErr}
use Rattle.commit_journal.specs.Outcomes.{NextIs}
use Rattle.commit_journal.specs.States as half
use Rattle.upload_spool.proofs.Begins.{next_new, next_wrong}
use Rattle.upload_spool.proofs.beginning.read_to_end.Goals as goal

pub returns-in-Ok-true-clause-ended : goal.returns-in-Ok-true-clause-ended
returns-in-Ok-true-clause-ended g c told header is =
    let before = half.state_of c.args.journal.now in let after = half.state_of c.next.new.self in
    let c0 = g.V.Shelf.cloud_at c.args.shelf.now 0 in let c1 = g.V.Shelf.cloud_at c.next.new.shelf 0 in
    let no = (next_new before after c0 c1 header c.in-Ok-true.field-0 is c.next.ensures.stays.now (c.in-Ok-true.ensures.reads told (new_of header) is.reading)).0 in
    let yes = c.in-Ok-true.field-0-is in
    absurd cc

pub returns-in-Ok-false-clause-ended : goal.returns-in-Ok-false-clause-ended
returns-in-Ok-false-clause-ended g c told header is =
    let before = half.state_of c.args.journal.now in let after = half.state_of c.next.new.self in
    let c0 = g.V.Shelf.cloud_at c.args.shelf.now 0 in let c1 = g.V.Shelf.cloud_at c.next.new.shelf 0 in
    (tt, (next_new before after c0 c1 header c.in-Ok-false.field-0 is c.next.ensures.stays.now (c.in-Ok-false.ensures.reads told (new_of header) is.reading)).1)

pub returns-in-Err-Damaged-clause-ended : goal.returns-in-Err-Damaged-clause-ended
returns-in-Err-Damaged-clause-ended g c told header is =
    let before = half.state_of c.args.journal.now in let after = half.state_of c.next.new.self in
    let c0 = g.V.Shelf.cloud_at c.args.shelf.now 0 in
    let next = subst (λ (e : RecordErr). NextIs before after (c0.now Journal) (new_of header) (Err e)) c.in-Err-Damaged.field-0-is (c.in-Err-Damaged.ensures.reads told (new_of header) is.reading) in
    (next_wrong before after c0 header c.in-Err-Damaged.at c.in-Err-Damaged.byte is next, tt)
