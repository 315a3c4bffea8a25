use Rattle.container_log.proofs.Rooms.{room_staged}
use Rattle.container_log.proofs.laws.law_of_room.Goals as goal

pub returns : goal.returns
returns c = room_staged
