use Rattle.cloud_memory.specs.RecordBody.Spelling.{FitsSpent}
use Rattle.checkpoints.specs.Records.{spents_from}
use Rattle.checkpoints.proofs.Tallied.{Tally}
use Rattle.checkpoints.proofs.tally.count_spents.Given as goal

abbrev pub invariant-loop-count : goal.invariant-loop-count
invariant-loop-count l = Tally (FitsSpent) (spents_from l.table l.from) (spents_from l.table l.at) l.count
