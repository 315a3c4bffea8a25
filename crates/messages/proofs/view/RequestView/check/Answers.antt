use Rattle.std.proofs.Common.{arith}
use Rattle.messages.proofs.RequestLaws.{request_law}
use Rattle.messages.proofs.view.RequestView.check.Goals as goal

pub returns-in-Ok-clause-grammar : goal.returns-in-Ok-clause-grammar
returns-in-Ok-clause-grammar c = λ r. request_law c.args.content.now r (λ i. omega (arith, c.type_inv.content i))

pub returns-in-Err-clause-grammar : goal.returns-in-Err-clause-grammar
returns-in-Err-clause-grammar c = λ r. request_law c.args.content.now r (λ i. omega (arith, c.type_inv.content i))
