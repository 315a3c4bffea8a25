use Rattle.std.proofs.Common.{length}
use Rattle.subset_restore.proofs.trying.+try_from.Given as goal

abbrev pub decreases-try_from : goal.decreases-try_from
decreases-try_from g l = length l.choices.now.rest.now
