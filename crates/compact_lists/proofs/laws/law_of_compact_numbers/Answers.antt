use Rattle.compact_lists.proofs.Parts.{numbered}
use Rattle.compact_lists.proofs.laws.law_of_compact_numbers.Goals as goal

pub returns : goal.returns
returns c = numbered
