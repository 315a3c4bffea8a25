use Rattle.record_checks.proofs.OneAnswer.{one_answer}
use Rattle.record_checks.proofs.laws.law_of_answers.Goals as goal

pub returns : goal.returns
returns c = one_answer
