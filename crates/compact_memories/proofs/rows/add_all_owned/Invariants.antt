use Rattle.std.proofs.Common.{◌≡◌, length}
use Rattle.compact_memories.specs.Passes.{OwnedSoFar}
use Rattle.compact_memories.proofs.rows.add_all_owned.Given as goal

abbrev pub invariant-loop-slot : goal.invariant-loop-slot
invariant-loop-slot l = record { so_far : OwnedSoFar l.shares l.rows l.slot; users : length l.rows ≡ length l.fn.rows }
