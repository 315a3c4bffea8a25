use Rattle.cloud_disk.specs.CommitJournal.States.{state_of}
use Rattle.checkpoints.proofs.Along.{Along}
use Rattle.checkpoints.proofs.laying.lay_checkpoint.Given as goal

abbrev pub invariant-loop-i : goal.invariant-loop-i
invariant-loop-i g l =
    g.R.CheckpointRecords.is_ready l.records
    × Along (g.V.Shelf.cloud_at l.fn.shelf) (g.V.Shelf.cloud_at l.shelf) l.cloud.0 (g.V.Shelf.faults l.fn.shelf) (g.V.Shelf.faults l.shelf)
    (state_of l.fn.journal) (state_of l.journal) l.header l.commands l.count l.region (g.R.CheckpointRecords.to_come l.fn.records) (g.R.CheckpointRecords.to_come l.records) l._i
