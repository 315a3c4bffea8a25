use Rattle.user_dedup.proofs.Replies.{same_reply, isolated}
use Rattle.user_dedup.proofs.Sound.{by_asker}
use Rattle.user_dedup.proofs.laws.law_of_isolation.Goals as goal

pub returns : goal.returns
returns c = record { by_view = same_reply; adds = by_asker; others = isolated }
