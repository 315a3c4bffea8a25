use Rattle.certificate.proofs.Turns.{print_short}
use Rattle.certificate.proofs.fields.print_of.Goals as goal

pub returns-then-word-ne64 : goal.returns-then-word-ne64
returns-then-word-ne64 c = print_short c.args.word.now c.if-word-ne64.true
