use Rattle.std.proofs.Common.{◌-◌, length}
use Rattle.fresh_checkpoints.specs.JournalHalves.Halves.{half_len}
use Rattle.cloud_opening.specs.CommitJournal.States.{state_of}
use Rattle.store_migration.proofs.Along.{Along}
use Rattle.store_migration.proofs.records.take_all.Given as goal

abbrev pub invariant-loop-records : goal.invariant-loop-records
invariant-loop-records g l =
    Along (g.V.Shelf.cloud_at l.initial.shelf) (g.V.Shelf.cloud_at l.shelf) l.cloud.0 (g.V.Shelf.faults l.initial.shelf) (g.V.Shelf.faults l.shelf)
    l.ground (state_of l.initial.journal) (state_of l.journal) l.initial.memory l.memory l.records (length l.initial.buffer) (length l.buffer)

abbrev pub decreases-loop-records : goal.decreases-loop-records
decreases-loop-records g l = half_len - l.journal.records.gate
