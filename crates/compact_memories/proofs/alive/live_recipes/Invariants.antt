use Rattle.std.proofs.Common.{Option}
use Rattle.checkpoints.specs.FileIndex.key.Entry.{Entry}
use Rattle.checkpoints.specs.FileIndex.key.FileKey.{FileKey}
use Rattle.compact_memories.proofs.Summing.{SumsTo}
use Rattle.compact_memories.proofs.alive.live_recipes.Given as goal

abbrev pub invariant-loop-slot : goal.invariant-loop-slot
invariant-loop-slot l = SumsTo (λ (e : Option (FileKey × Entry)). e) (λ (x : FileKey × Entry). x.1.len) l.memory.files.slots l.slot l.sum
