use Rattle.grammar.proofs.Places.{first_place, no_place}
use Rattle.grammar.proofs.words.len_to.Goals as goal

pub returns-in-Some-clause-value : goal.returns-in-Some-clause-value
returns-in-Some-clause-value c = (first_place c.args.mark c.args.bytes.now c.in-Some.place c.in-Some.ensures).0

pub returns-in-None-clause-value : goal.returns-in-None-clause-value
returns-in-None-clause-value c = no_place c.args.mark c.args.bytes.now c.in-None.ensures
