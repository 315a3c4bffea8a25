use Rattle.user_dedup.proofs.Suiting.{suits}
use Rattle.user_dedup.proofs.laws.law_of_replies.Goals as goal

pub returns : goal.returns
returns c = suits
