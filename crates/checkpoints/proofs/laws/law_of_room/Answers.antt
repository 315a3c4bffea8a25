use Rattle.checkpoints.proofs.RoomLaw.{records_short, longest_is}
use Rattle.checkpoints.proofs.laws.law_of_room.Goals as goal

pub returns : goal.returns
returns c = record { room = records_short; longest = longest_is }
