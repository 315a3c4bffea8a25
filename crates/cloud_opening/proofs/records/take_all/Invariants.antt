use Rattle.std.proofs.Common.{◌-◌}
use Rattle.cloud_disk.specs.JournalHalves.Halves.{half_len}
use Rattle.cloud_disk.specs.CommitJournal.States.{state_of}
use Rattle.cloud_opening.proofs.Along.{Looking}
use Rattle.cloud_opening.proofs.records.take_all.Given as goal

abbrev pub invariant-loop-records : goal.invariant-loop-records
invariant-loop-records g l =
    Looking (g.V.Shelf.cloud_at l.initial.shelf) (g.V.Shelf.cloud_at l.shelf) l.cloud.0 (g.V.Shelf.faults l.initial.shelf) (g.V.Shelf.faults l.shelf)
    l.ground (state_of l.initial.journal) (state_of l.journal) l.initial.memory l.memory l.initial.taking l.taking l.records l.initial.buffer l.buffer l.window

abbrev pub decreases-loop-records : goal.decreases-loop-records
decreases-loop-records g l = half_len - l.journal.records.gate
