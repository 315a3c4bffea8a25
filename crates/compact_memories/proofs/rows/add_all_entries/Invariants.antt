use Rattle.std.proofs.Common.{◌≡◌, length}
use Rattle.checkpoints.specs.ShareIndex.Shares.{Shares}
use Rattle.compact_memories.specs.Passes.{AreRowsSmall, KeptSoFar}
use Rattle.compact_memories.proofs.rows.add_all_entries.Given as goal

abbrev pub invariant-loop-slot : goal.invariant-loop-slot
invariant-loop-slot l = record {
  so_far : (shares : Shares) → KeptSoFar shares l.files l.fn.rows 0 → KeptSoFar shares l.files l.rows l.slot;
  small : AreRowsSmall l.rows l.slot;
  users : length l.rows ≡ length l.fn.rows;
}
