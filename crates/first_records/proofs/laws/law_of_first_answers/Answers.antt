use Rattle.first_records.proofs.OneAnswer.{one_answer}
use Rattle.first_records.proofs.laws.law_of_first_answers.Goals as goal

pub returns : goal.returns
returns c = one_answer
