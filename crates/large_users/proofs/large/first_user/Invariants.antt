use Rattle.std.proofs.Common.{ℕ, ◌≤◌}
use Rattle.compact_memories.specs.CloudMemory.Memory.{Memory}
use Rattle.compact_memories.specs.CloudMemory.Rooms.{memory_of}
use Rattle.large_users.specs.Counting.{AreNoneBelow}
use Rattle.large_users.specs.Large.{IsCountedBy}
use Rattle.large_users.proofs.large.first_user.Given as goal

abbrev pub invariant-loop-user : goal.invariant-loop-user
invariant-loop-user l = record {
  none : (m : Memory) (users : ℕ) → IsCountedBy users m (memory_of l.memory) → l.rooms.users ≤ users → AreNoneBelow l.user l.rooms m;
}
