use Rattle.std.proofs.Common.{◌≡◌, drop}
use Rattle.cloud_memory.specs.Rooms.{memory_of}
use Rattle.server_reads.specs.Owned.{unowned_from, first_unowned}
use Rattle.server_reads.proofs.owning.first_foreign.Given as goal

abbrev pub invariant-loop-place : goal.invariant-loop-place
invariant-loop-place l = first_unowned (memory_of l.memory) l.user l.fps ≡ unowned_from (memory_of l.memory) l.user l.place (drop l.place l.fps)
