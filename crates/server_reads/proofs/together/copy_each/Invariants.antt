use Rattle.cloud_memory.specs.Rooms.{memory_of}
use Rattle.server_reads.proofs.Copied.{Copied}
use Rattle.server_reads.proofs.together.copy_each.Given as goal

abbrev pub invariant-loop-place : goal.invariant-loop-place
invariant-loop-place g l =
    Copied (g.V.Shelf.cloud_at l.initial.shelf) (g.V.Shelf.cloud_at l.shelf) l.cloud.0 (g.V.Shelf.faults l.initial.shelf) (g.V.Shelf.faults l.shelf)
    l.initial.log l.log (memory_of l.memory) l.fps l.place l.initial.reply l.reply
