use Rattle.std.proofs.Common.{◌≡◌, length}
use Rattle.fresh_checkpoints.specs.CompactMemories.Kept.{live_at}
use Rattle.blob_copy.specs.Copies.{share_blob}
use Rattle.blob_copy.proofs.Going.{Going}
use Rattle.blob_copy.proofs.staging.stage_shares.Given as goal

abbrev pub invariant-loop-slot : goal.invariant-loop-slot
invariant-loop-slot g l = record {
  going : Going (live_at l.memory.shares.owners) share_blob l.memory.shares.place_slots l.from l.slot
      (g.V.Shelf.cloud_at l.fn.shelf) (g.V.Shelf.cloud_at l.shelf) l.cloud.0 (g.V.Shelf.faults l.fn.shelf) (g.V.Shelf.faults l.shelf) l.fn.log l.log;
  long : length l.buffer ≡ length l.fn.buffer;
}
