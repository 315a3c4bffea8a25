use Rattle.std.proofs.Common.{◌≡◌, length}
use Rattle.std.specs.Prelude.{Option}
use Rattle.record_laws.specs.FileIndex.key.Entry.{Entry}
use Rattle.record_laws.specs.FileIndex.key.FileKey.{FileKey}
use Rattle.blob_copy.specs.Copies.{entry_blob}
use Rattle.blob_copy.proofs.Going.{Going}
use Rattle.blob_copy.proofs.staging.stage_recipes.Given as goal

abbrev pub invariant-loop-slot : goal.invariant-loop-slot
invariant-loop-slot g l = record {
  going : Going (λ (e : Option (FileKey × Entry)). e) entry_blob l.memory.files.slots l.from l.slot
      (g.V.Shelf.cloud_at l.fn.shelf) (g.V.Shelf.cloud_at l.shelf) l.cloud.0 (g.V.Shelf.faults l.fn.shelf) (g.V.Shelf.faults l.shelf) l.fn.log l.log;
  long : length l.buffer ≡ length l.fn.buffer;
}
