use Rattle.user_dedup.proofs.Spending.{none_within, front_within, each_within}
use Rattle.user_dedup.proofs.Within.{next_within}
use Rattle.user_dedup.proofs.spent.law_of_rooms.Goals as goal

pub returns : goal.returns
returns c = record { none = none_within; front = front_within; each = each_within; next = next_within }
