use Rattle.user_dedup.proofs.Owned.{among_decides}
use Rattle.user_dedup.proofs.Views.{held_is, owned_is_held, held_more}
use Rattle.user_dedup.proofs.laws.law_of_holding.Goals as goal

pub returns : goal.returns
returns c = record { owned = among_decides; held = held_is; is_held = owned_is_held; stays = held_more }
