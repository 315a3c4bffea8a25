use Rattle.user_dedup.proofs.Spending.{nothing_spent, deletes_nothing_spent, never_full, full_alone}
use Rattle.user_dedup.proofs.spent.law_of_spending.Goals as goal

pub returns : goal.returns
returns c = record { begun = nothing_spent; deletes = deletes_nothing_spent; never_full = never_full; alone = full_alone }
