use Rattle.std.specs.Prelude.{Option}
use Rattle.record_laws.specs.FileIndex.key.Entry.{Entry}
use Rattle.record_laws.specs.FileIndex.key.FileKey.{FileKey}
use Rattle.fresh_checkpoints.proofs.Checkpoints.Picks.{Passed}
use Rattle.blob_copy.proofs.steps.has_entry.Given as goal

abbrev pub invariant-loop-slot : goal.invariant-loop-slot
invariant-loop-slot l = Passed (λ (e : Option (FileKey × Entry)). e) l.memory.files.slots l.from l.slot
