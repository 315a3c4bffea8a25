use Rattle.cd_edges.proofs.Overwritten.{length-overwritten, overwritten_before, overwritten_inside, overwritten_after}
use Rattle.cd_edges.proofs.laws.law_of_overwriting.Goals as goal

pub returns-clause-len : goal.returns-clause-len
returns-clause-len c = length-overwritten

pub returns-clause-inside : goal.returns-clause-inside
returns-clause-inside c = overwritten_inside

pub returns-clause-before : goal.returns-clause-before
returns-clause-before c = overwritten_before

pub returns-clause-after : goal.returns-clause-after
returns-clause-after c = overwritten_after
