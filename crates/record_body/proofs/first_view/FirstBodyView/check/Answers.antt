use Rattle.std.proofs.Common.{arith}
use Rattle.record_body.proofs.FirstBodyLaws.{body_law, some_read, some_wrong}
use Rattle.record_body.proofs.first_view.FirstBodyView.check.Goals as goal

pub returns-in-Ok-default-empty-clause-grammar : goal.returns-in-Ok-default-empty-clause-grammar
returns-in-Ok-default-empty-clause-grammar c = λ b. body_law c.args.body.now b (λ i. omega (arith, c.type_inv.body i))

pub returns-in-Ok-clause-grammar : goal.returns-in-Ok-clause-grammar
returns-in-Ok-clause-grammar c = λ b. body_law c.args.body.now b (λ i. omega (arith, c.type_inv.body i))

pub returns-in-Ok-clause-within : goal.returns-in-Ok-clause-within
returns-in-Ok-clause-within c = let some = some_read c.args.body.now _ c.in-Ok.ensures.reads in omega arith

pub returns-in-Err-eq0-clause-grammar : goal.returns-in-Err-eq0-clause-grammar
returns-in-Err-eq0-clause-grammar c = λ b. body_law c.args.body.now b (λ i. omega (arith, c.type_inv.body i))

pub returns-in-Err-clause-grammar : goal.returns-in-Err-clause-grammar
returns-in-Err-clause-grammar c = λ b. body_law c.args.body.now b (λ i. omega (arith, c.type_inv.body i))

pub returns-in-Err-clause-within : goal.returns-in-Err-clause-within
returns-in-Err-clause-within c = let some = some_wrong c.args.body.now c.in-Err.field-0.0 (omega arith) c.in-Err.ensures.reads in omega arith
