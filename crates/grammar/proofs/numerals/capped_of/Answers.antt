use Rattle.std.proofs.Common.{rules}
use Rattle.grammar.proofs.NumeralLaws.{capped_small, capped_large}
use Rattle.grammar.proofs.numerals.capped_of.Goals as goal

pub returns-in-Some-clause-value : goal.returns-in-Some-clause-value
returns-in-Some-clause-value c = capped_small c.args.cap c.in-Some.n c.args.word.now c.in-Some.ensures.value

pub returns-in-None-clause-value : goal.returns-in-None-clause-value
returns-in-None-clause-value c = capped_large c.args.cap c.args.word.now (search rules) c.in-None.ensures.value
