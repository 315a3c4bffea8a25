use Rattle.hash_lanes.proofs.Vectors.{shifts_rotate}
use Rattle.hash_lanes.proofs.words.rotate.Goals as goal

pub returns : goal.returns
returns c = shifts_rotate c.args.by c.requires.0 c.requires.1 c.args.x c.fits-x.0
