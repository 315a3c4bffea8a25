use Rattle.journal_halves.proofs.Unique.{one_journal}
use Rattle.journal_halves.proofs.laws.law_of_journals.Goals as goal

pub returns : goal.returns
returns c = one_journal
