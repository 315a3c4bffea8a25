use Rattle.cloud_memory.specs.RecordBody.FirstSpelling.{FitsCommit}
use Rattle.checkpoints.specs.Records.{commits_from}
use Rattle.checkpoints.proofs.Tallied.{Tally}
use Rattle.checkpoints.proofs.tally.count_commits.Given as goal

abbrev pub invariant-loop-count : goal.invariant-loop-count
invariant-loop-count l = Tally (FitsCommit) (commits_from l.files l.from) (commits_from l.files l.at) l.count
