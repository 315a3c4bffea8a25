use Rattle.std.proofs.Common.{arith, refl, Ok, Err}
use Rattle.journal_start.specs.Reading.{fields_of}
use Rattle.journal_start.specs.declared.fault.StartFault.TheVariants.{Short}
use Rattle.journal_start.proofs.Whole.{fails, answer_law, rest_within, placed, reads_all, reads_left, reads_short, reads_wrong}
use Rattle.journal_start.proofs.start.Start.read.Goals as goal

pub wrong-requires-clause-within : goal.wrong-requires-clause-within
wrong-requires-clause-within c = rest_within c.args.half c.args.body.now _ c.in-Ok.rest.now (λ i. omega (arith, c.type_inv.body i)) c.in-Ok.ensures

pub wrong-requires-in-Err-clause-within : goal.wrong-requires-in-Err-clause-within
wrong-requires-in-Err-clause-within c = fails c.args.half c.args.body.now c.in-Err.field-0.0 (λ i. omega (arith, c.type_inv.body i)) c.in-Err.ensures

pub returns-in-Ok-default-empty-clause-grammar : goal.returns-in-Ok-default-empty-clause-grammar
returns-in-Ok-default-empty-clause-grammar c =
    answer_law c.args.half c.args.body.now (Ok c.in-Ok-default-empty.start) (λ i. omega (arith, c.type_inv.body i)) (reads_all c.args.half c.args.body.now (fields_of c.in-Ok-default-empty.start) c.in-Ok-default-empty.field-0-1.now c.in-Ok-default-empty.ensures (omega arith))

pub returns-in-Ok-clause-grammar : goal.returns-in-Ok-clause-grammar
returns-in-Ok-clause-grammar c =
    answer_law c.args.half c.args.body.now (Err c.wrong.result) (λ i. omega (arith, c.type_inv.body i)) (reads_left c.args.half c.args.body.now _ c.in-Ok.rest.now c.wrong.result c.in-Ok.ensures (omega arith) c.wrong.ensures)

pub returns-in-Ok-clause-within : goal.returns-in-Ok-clause-within
returns-in-Ok-clause-within c =
    let within = rest_within c.args.half c.args.body.now _ c.in-Ok.rest.now (λ i. omega (arith, c.type_inv.body i)) c.in-Ok.ensures in
    placed c.args.body.now _ c.wrong.result (omega arith) within c.wrong.ensures

pub returns-in-Err-eq0-clause-grammar : goal.returns-in-Err-eq0-clause-grammar
returns-in-Err-eq0-clause-grammar c = answer_law c.args.half c.args.body.now (Err Short) (λ i. omega (arith, c.type_inv.body i)) (reads_short c.args.half c.args.body.now c.in-Err-eq0.field-0.0 c.in-Err-eq0.ensures (omega arith))

pub returns-in-Err-clause-grammar : goal.returns-in-Err-clause-grammar
returns-in-Err-clause-grammar c =
    answer_law c.args.half c.args.body.now (Err c.wrong-in-Err.result) (λ i. omega (arith, c.type_inv.body i))
    (reads_wrong c.args.half c.args.body.now c.in-Err.field-0.0 c.wrong-in-Err.result c.in-Err.ensures (omega arith) c.wrong-in-Err.ensures)

pub returns-in-Err-clause-within : goal.returns-in-Err-clause-within
returns-in-Err-clause-within c =
    let within = fails c.args.half c.args.body.now c.in-Err.field-0.0 (λ i. omega (arith, c.type_inv.body i)) c.in-Err.ensures in
    placed c.args.body.now c.in-Err.field-0.0 c.wrong-in-Err.result (omega arith) within c.wrong-in-Err.ensures
