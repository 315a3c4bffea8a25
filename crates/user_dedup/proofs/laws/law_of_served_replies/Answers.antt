use Rattle.user_dedup.proofs.Suiting.{served_suits}
use Rattle.user_dedup.proofs.laws.law_of_served_replies.Goals as goal

pub returns : goal.returns
returns c = served_suits
