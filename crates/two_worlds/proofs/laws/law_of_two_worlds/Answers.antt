use Rattle.two_worlds.proofs.Two.{two_worlds, alike}
use Rattle.two_worlds.proofs.laws.law_of_two_worlds.Goals as goal

pub returns-clause-own : goal.returns-clause-own
returns-clause-own c clouds run = two_worlds clouds run

pub returns-clause-alike : goal.returns-clause-alike
returns-clause-alike c clouds_one one clouds_two two = alike clouds_one one clouds_two two
