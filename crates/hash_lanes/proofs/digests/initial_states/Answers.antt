use Rattle.std.proofs.Common.{refl}
use Rattle.hash_lanes.proofs.Vectors.{below_four}
use Rattle.hash_lanes.proofs.digests.initial_states.Goals as goal

pub returns : goal.returns
returns c = below_four _ refl refl refl refl
