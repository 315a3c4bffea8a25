use Rattle.journal_halves.proofs.Turning.{turning_stands}
use Rattle.journal_halves.proofs.laws.law_of_turning.Goals as goal

pub returns : goal.returns
returns c = turning_stands
