use Rattle.std.proofs.Common.{◌≡◌, ◌++◌, take}
use Rattle.cloud_memory.specs.Rooms.{memory_of}
use Rattle.server_reads.specs.Owned.{owned_flags}
use Rattle.server_reads.proofs.owning.put_marks.Given as goal

abbrev pub invariant-loop-place : goal.invariant-loop-place
invariant-loop-place l = l.reply ≡ l.initial.reply ++ owned_flags (memory_of l.memory) l.user (take l.place l.fps)
