use Rattle.std.proofs.Common.{arith}
use Rattle.record_body.proofs.BodyLaws.{body_law}
use Rattle.record_body.proofs.view.BodyView.check.Goals as goal

pub returns-then-are_later-clause-grammar : goal.returns-then-are_later-clause-grammar
returns-then-are_later-clause-grammar c = λ b. body_law c.args.body.now b (λ i. omega (arith, c.type_inv.body i))

pub returns-else-are_later-clause-grammar : goal.returns-else-are_later-clause-grammar
returns-else-are_later-clause-grammar c = λ b. body_law c.args.body.now b (λ i. omega (arith, c.type_inv.body i))
