use Rattle.std.proofs.Common.{refl}
use Rattle.first_records.proofs.Rooms.{rooms_kept, has_entry_room}
use Rattle.first_records.proofs.commits.enter.Goals as goal

pub unreachable-requires : goal.unreachable-requires
unreachable-requires c = has_entry_room c.args.memory.now c.args.commit.now c.requires.rooms c.requires.room (c.in-Err.ensures.full.0 refl)

pub returns-clause-rooms : goal.returns-clause-rooms
returns-clause-rooms c = rooms_kept c.args.memory.now c.take_entry.new.self c.take_entry.ensures.greatest c.requires.rooms
