use Rattle.journal_start.proofs.Lengths.{plain_first, first, plain_second, second}
use Rattle.journal_start.proofs.laws.law_of_lengths.Goals as goal

pub returns : goal.returns
returns c = record { plain_first = λ half s _. plain_first s; first = λ half s checkpoint _. first s checkpoint; plain_second = λ half s _. plain_second s; second = λ half s checkpoint _. second s checkpoint }
