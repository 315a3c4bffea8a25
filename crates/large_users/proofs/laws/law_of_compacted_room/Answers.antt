use Rattle.large_users.proofs.CompactRoom.{compacted_room}
use Rattle.large_users.proofs.laws.law_of_compacted_room.Goals as goal

pub returns : goal.returns
returns c rooms old memory is none sized = compacted_room rooms old memory is none sized
