use Rattle.journal_start.proofs.Whole.{again, one, extra}
use Rattle.journal_start.proofs.laws.law_of_starts.Goals as goal

pub returns : goal.returns
returns c = record { again = again; one = one; extra = extra }
