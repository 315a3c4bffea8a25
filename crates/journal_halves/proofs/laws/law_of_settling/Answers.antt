use Rattle.journal_halves.proofs.Settling.{settles}
use Rattle.journal_halves.proofs.laws.law_of_settling.Goals as goal

pub returns : goal.returns
returns c = settles
