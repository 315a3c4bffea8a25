use Rattle.std.proofs.Common.{length}
use Rattle.restore_job.proofs.fetching.+fetch_batch.Given as goal

abbrev pub decreases-fetch_batch : goal.decreases-fetch_batch
decreases-fetch_batch g l = length l.clouds.now
