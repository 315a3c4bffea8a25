use Rattle.compact_memories.proofs.Sums.{shares_few, recipes_few}
use Rattle.compact_memories.proofs.laws.law_of_live_sums.Goals as goal

pub returns : goal.returns
returns c = record { shares = shares_few; recipes = recipes_few }
