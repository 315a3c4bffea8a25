use Rattle.cloud_memory.specs.RecordBody.Seen.{seen}
use Rattle.record_checks.specs.Judging.{Outside, Unread, Damaged, Taken}
use Rattle.record_checks.proofs.Faults.{not_so}
use Rattle.record_checks.proofs.record.take.Goals as goal

pub returns-then-is_outside-clause-judged : goal.returns-then-is_outside-clause-judged
returns-then-is_outside-clause-judged c = let is = c.is_outside.ensures.0 c.if-is_outside.true in rw c.damaged.ensures (Outside is.0 is.1)

pub returns-in-Err-clause-judged : goal.returns-in-Err-clause-judged
returns-in-Err-clause-judged c = rw c.damaged_body.ensures (Unread c.in-Err.err (not_so c.is_outside.result c.is_outside.ensures c.if-is_outside.false) c.in-Err.ensures.reads)

pub returns-in-Ok-take_view-clause-judged : goal.returns-in-Ok-take_view-clause-judged
returns-in-Ok-take_view-clause-judged c =
    Taken (seen c.in-Ok.view) _ (not_so c.is_outside.result c.is_outside.ensures c.if-is_outside.false) c.in-Ok.ensures.reads c.in-Ok-take_view.ensures.judged

pub returns-in-Err-take_view-clause-judged : goal.returns-in-Err-take_view-clause-judged
returns-in-Err-take_view-clause-judged c =
    rw c.damaged-in-Err-take_view.ensures
    (Damaged (seen c.in-Ok.view) c.in-Err-take_view.place (not_so c.is_outside.result c.is_outside.ensures c.if-is_outside.false) c.in-Ok.ensures.reads c.in-Err-take_view.ensures.judged)
