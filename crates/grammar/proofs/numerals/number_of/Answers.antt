use Rattle.std.proofs.Common.{rules, arith}
use Rattle.grammar.proofs.NumeralLaws.{too_long}
use Rattle.grammar.proofs.numerals.number_of.Goals as goal

pub returns-in_default-parse-clause-value : goal.returns-in_default-parse-clause-value
returns-in_default-parse-clause-value c = too_long c.args.low c.args.high c.args.word.now c.in-Ok.text.now (omega arith) (search rules) (c.in-Ok.ensures.cases.0) c.in_default-parse.ensures.value.0
