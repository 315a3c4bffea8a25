use Rattle.std.proofs.Common.{length}
use Rattle.restore_job.proofs.comparing.+compare.Given as goal

abbrev pub decreases-compare : goal.decreases-compare
decreases-compare l = length l.clouds.now
