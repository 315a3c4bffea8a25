use Rattle.std.proofs.Common.{length}
use Rattle.checkpoints.specs.Records.{coming}
use Rattle.checkpoints.specs.Ready.{IsReadyToWrite}
use Rattle.checkpoints.proofs.Counted.{Counted}
use Rattle.checkpoints.proofs.whole.count_written.Given as goal

abbrev pub invariant-each : goal.invariant-each
invariant-each l = record {
  ready : IsReadyToWrite l.records.shares.now l.records.files.now l.records.spent.now l.records.chains.now l.records.marks.now l.records.at;
  counted : Counted (coming l.fn.records.shares.now l.fn.records.files.now l.fn.records.spent.now l.fn.records.at) (coming l.records.shares.now l.records.files.now l.records.spent.now l.records.at) l.count l.len;
}

abbrev pub decreases-each : goal.decreases-each
decreases-each l = length (coming l.records.shares.now l.records.files.now l.records.spent.now l.records.at)
