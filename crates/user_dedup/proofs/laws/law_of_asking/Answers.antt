use Rattle.user_dedup.proofs.Asked.{asked_law}
use Rattle.user_dedup.proofs.laws.law_of_asking.Goals as goal

pub returns : goal.returns
returns c = asked_law
