use Rattle.cloud_disk.proofs.Standing.{on_read}
use Rattle.cloud_disk.proofs.laws.law_of_reads.Goals as goal

pub returns : goal.returns
returns c = on_read
