use Rattle.journal_halves.proofs.Laying.{laying_stands}
use Rattle.journal_halves.proofs.laws.law_of_laying.Goals as goal

pub returns : goal.returns
returns c = laying_stands
