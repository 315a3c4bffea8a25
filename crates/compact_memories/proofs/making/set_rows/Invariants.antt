use Rattle.compact_lists.specs.JournalStart.rooms.UserRooms.{UserRooms}
use Rattle.checkpoints.specs.CloudMemory.Greatest.{KeepsGreatest}
use Rattle.checkpoints.specs.CloudMemory.Rooms.{memory_of, HasRooms}
use Rattle.compact_memories.specs.Passes.{SetSoFar}
use Rattle.compact_memories.proofs.making.set_rows.Given as goal

abbrev pub invariant-loop-user : goal.invariant-loop-user
invariant-loop-user l = record {
  so_far : SetSoFar l.rows (memory_of l.fn.memory) (memory_of l.memory) l.user;
  rooms : (rooms : UserRooms) → HasRooms rooms l.fn.memory → HasRooms rooms l.memory;
  greatest : KeepsGreatest l.fn.memory l.memory;
}
