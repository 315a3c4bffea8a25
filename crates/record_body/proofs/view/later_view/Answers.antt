use Rattle.std.proofs.Common.{arith}
use Rattle.record_body.proofs.BodyLaws.{some_read, some_wrong}
use Rattle.record_body.proofs.view.later_view.Goals as goal

pub returns-in-Ok-clause-within : goal.returns-in-Ok-clause-within
returns-in-Ok-clause-within c = let some = some_read c.args.body.now _ c.in-Ok.ensures.reads in omega arith

pub returns-in-Err-clause-within : goal.returns-in-Err-clause-within
returns-in-Err-clause-within c = let some = some_wrong c.args.body.now c.in-Err.field-0.0 (omega arith) c.in-Err.ensures.reads in omega arith
