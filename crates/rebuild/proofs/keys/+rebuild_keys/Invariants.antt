use Rattle.std.proofs.Common.{length}
use Rattle.rebuild.proofs.keys.+rebuild_keys.Given as goal

abbrev pub decreases-rebuild_keys : goal.decreases-rebuild_keys
decreases-rebuild_keys g l = length l.keys.now
