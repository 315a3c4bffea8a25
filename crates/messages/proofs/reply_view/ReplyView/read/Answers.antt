use Rattle.std.proofs.Common.{arith}
use Rattle.messages.proofs.ReplyLaws.{reply_law}
use Rattle.messages.proofs.reply_view.ReplyView.read.Goals as goal

pub returns-in-Ok-clause-grammar : goal.returns-in-Ok-clause-grammar
returns-in-Ok-clause-grammar c = λ r. reply_law c.args.content.now r (λ i. omega (arith, c.type_inv.content i))

pub returns-in-Err-Memory-clause-grammar : goal.returns-in-Err-Memory-clause-grammar
returns-in-Err-Memory-clause-grammar c = λ r. reply_law c.args.content.now r (λ i. omega (arith, c.type_inv.content i))

pub returns-in-Err-Left-clause-grammar : goal.returns-in-Err-Left-clause-grammar
returns-in-Err-Left-clause-grammar c = λ r. reply_law c.args.content.now r (λ i. omega (arith, c.type_inv.content i))
