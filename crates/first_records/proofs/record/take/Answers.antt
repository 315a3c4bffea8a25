use Rattle.std.proofs.Common.{Ok}
use Rattle.record_checks.specs.RecordBody.Seen.{seen}
use Rattle.record_checks.specs.CloudMemory.Rooms.{memory_of}
use Rattle.record_checks.proofs.Faults.{not_so}
use Rattle.first_records.specs.Judging.{Foreign, Unread, Refused, Taken}
use Rattle.first_records.proofs.Fits.{said_fits, said_unspent}
use Rattle.first_records.proofs.record.take.Goals as goal

pub returns-then-is_foreign-clause-judged : goal.returns-then-is_foreign-clause-judged
returns-then-is_foreign-clause-judged c = rw c.damaged.ensures (Foreign (c.is_foreign.ensures.0 c.if-is_foreign.true))

pub returns-in-Err-clause-judged : goal.returns-in-Err-clause-judged
returns-in-Err-clause-judged c = rw c.damaged_body.ensures (Unread c.in-Err.err (not_so c.is_foreign.result c.is_foreign.ensures c.if-is_foreign.false) c.in-Err.ensures.reads)

pub take_view-requires-clause-own : goal.take_view-requires-clause-own
take_view-requires-clause-own c = not_so c.is_foreign.result c.is_foreign.ensures c.if-is_foreign.false

pub returns-in-Ok-take_view-clause-judged : goal.returns-in-Ok-take_view-clause-judged
returns-in-Ok-take_view-clause-judged c =
    Taken (seen c.in-Ok.view) _ (not_so c.is_foreign.result c.is_foreign.ensures c.if-is_foreign.false) c.in-Ok.ensures.reads c.in-Ok-take_view.ensures.judged

pub returns-in-Ok-take_view-clause-unspent : goal.returns-in-Ok-take_view-clause-unspent
returns-in-Ok-take_view-clause-unspent c =
    said_unspent c.args.ground.now c.args.inside c.args.read.now (memory_of c.args.memory.now) (seen c.in-Ok.view) (Ok (memory_of c.take_view.new.memory)) c.in-Ok-take_view.ensures.judged

pub returns-in-Ok-take_view-clause-fit : goal.returns-in-Ok-take_view-clause-fit
returns-in-Ok-take_view-clause-fit c = λ fit.
    said_fits c.args.ground.now c.args.inside c.args.read.now (memory_of c.args.memory.now) (seen c.in-Ok.view) (Ok (memory_of c.take_view.new.memory)) c.in-Ok-take_view.ensures.judged
    ((c.in-Ok.ensures.grammar (seen c.in-Ok.view)).0 c.in-Ok.ensures.reads).fits fit

pub returns-in-Err-take_view-clause-judged : goal.returns-in-Err-take_view-clause-judged
returns-in-Err-take_view-clause-judged c =
    rw c.answer_for.ensures
    (Refused (seen c.in-Ok.view) c.in-Err-take_view.fault (not_so c.is_foreign.result c.is_foreign.ensures c.if-is_foreign.false) c.in-Ok.ensures.reads c.in-Err-take_view.ensures.judged)
