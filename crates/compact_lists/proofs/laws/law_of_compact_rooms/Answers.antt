use Rattle.compact_lists.proofs.RoomLaws.{by_end, stays}
use Rattle.compact_lists.proofs.laws.law_of_compact_rooms.Goals as goal

pub returns : goal.returns
returns c = record { by_end = by_end; stays = stays }
