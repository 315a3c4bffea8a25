use Rattle.user_dedup.specs.Dedup.{answer_over}
use Rattle.user_dedup.specs.Spending.{full_for}
use Rattle.user_dedup.proofs.Served.{has_room}
use Rattle.user_dedup.proofs.Within.{next_within}
use Rattle.user_dedup.proofs.spent.law_of_served_rooms.Goals as goal

pub returns : goal.returns
returns c shape rooms cloud list request command within adds =
    next_within shape rooms list command within (has_room (full_for shape rooms list) (answer_over shape cloud list request) command adds)
