use Rattle.hash_lanes.proofs.Vectors.{not_first}
use Rattle.hash_lanes.proofs.words.and_not.Goals as goal

pub returns : goal.returns
returns c = not_first c.args.x c.fits-x.0 c.args.y c.fits-y.0
