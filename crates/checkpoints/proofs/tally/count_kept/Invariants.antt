use Rattle.cloud_memory.specs.RecordBody.Spelling.{FitsKept}
use Rattle.checkpoints.specs.Records.{kept_from}
use Rattle.checkpoints.proofs.Tallied.{Tally}
use Rattle.checkpoints.proofs.tally.count_kept.Given as goal

abbrev pub invariant-loop-count : goal.invariant-loop-count
invariant-loop-count l = Tally (FitsKept) (kept_from l.shares l.from) (kept_from l.shares l.at) l.count
