use Rattle.std.proofs.Common.{ℕ, ◌<◌}
use Rattle.std.specs.Prelude.{slice_index_or}
use Rattle.record_laws.specs.SpentTable.Spending.{nothing}
use Rattle.blob_copy.specs.Switched.{IsRowWithin}
use Rattle.blob_copy.proofs.room.are_rows_within.Given as goal

abbrev pub invariant-loop-user : goal.invariant-loop-user
invariant-loop-user l = (k : ℕ) → k < l.user → IsRowWithin l.rooms (slice_index_or l.memory.spent k nothing)
