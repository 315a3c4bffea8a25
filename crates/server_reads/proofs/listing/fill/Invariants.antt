use Rattle.std.proofs.Common.{take}
use Rattle.cloud_memory.specs.Rooms.{memory_of}
use Rattle.server_reads.proofs.Keys.{Risen}
use Rattle.server_reads.proofs.listing.fill.Given as goal

abbrev pub invariant-loop-i : goal.invariant-loop-i
invariant-loop-i l = Risen (memory_of l.memory) l.user l.fn.after l.last (take l.i l.keys)
