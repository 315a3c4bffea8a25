use Rattle.compact_lists.specs.JournalStart.rooms.UserRooms.{UserRooms}
use Rattle.checkpoints.specs.CloudMemory.Greatest.{KeepsGreatest}
use Rattle.checkpoints.specs.CloudMemory.Rooms.{HasRooms}
use Rattle.compact_memories.specs.Passes.{DroppedSoFar}
use Rattle.compact_memories.proofs.dropping.drop_dead.Given as goal

abbrev pub invariant-loop-slot : goal.invariant-loop-slot
invariant-loop-slot l = record {
  so_far : DroppedSoFar l.fn.memory l.memory l.slot;
  rooms : (rooms : UserRooms) → HasRooms rooms l.fn.memory → HasRooms rooms l.memory;
  greatest : KeepsGreatest l.fn.memory l.memory;
}
