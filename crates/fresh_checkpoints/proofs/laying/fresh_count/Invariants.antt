use Rattle.std.proofs.Common.{length}
use Rattle.compact_memories.specs.Checkpoints.Records.{coming}
use Rattle.compact_memories.specs.Checkpoints.Ready.{IsReadyToWrite}
use Rattle.compact_memories.proofs.Checkpoints.Counted.{Counted}
use Rattle.fresh_checkpoints.proofs.laying.fresh_count.Given as goal

abbrev pub invariant-each : goal.invariant-each
invariant-each l = record {
  ready : IsReadyToWrite l.records.shares.now l.records.files.now l.records.spent.now l.records.chains.now l.records.marks.now l.records.at;
  counted : Counted (coming l.fn.records.shares.now l.fn.records.files.now l.fn.records.spent.now l.fn.records.at) (coming l.records.shares.now l.records.files.now l.records.spent.now l.records.at) l.count l.len;
}

abbrev pub decreases-each : goal.decreases-each
decreases-each l = length (coming l.records.shares.now l.records.files.now l.records.spent.now l.records.at)
