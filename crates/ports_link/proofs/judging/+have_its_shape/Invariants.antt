use Rattle.std.proofs.Common.{length}
use Rattle.ports_link.proofs.judging.+have_its_shape.Given as goal

abbrev pub decreases-have_its_shape : goal.decreases-have_its_shape
decreases-have_its_shape l = length l.before.now
