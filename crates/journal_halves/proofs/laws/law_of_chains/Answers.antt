use Rattle.journal_halves.proofs.Current.{one_chain}
use Rattle.journal_halves.proofs.laws.law_of_chains.Goals as goal

pub returns : goal.returns
returns c = one_chain
