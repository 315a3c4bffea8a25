use Rattle.user_dedup.proofs.New.{are_new}
use Rattle.user_dedup.proofs.laws.law_of_new_strings.Goals as goal

pub returns : goal.returns
returns c = are_new
