use Rattle.std.proofs.Common.{length}
use Rattle.subset_restore.proofs.refusals.Refusals.+hold.Given as goal

abbrev pub decreases-hold : goal.decreases-hold
decreases-hold l = length l.clouds.now
