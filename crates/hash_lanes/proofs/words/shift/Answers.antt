use Rattle.hash_lanes.proofs.Vectors.{shifted_word}
use Rattle.hash_lanes.proofs.words.shift.Goals as goal

pub returns : goal.returns
returns c = shifted_word c.args.by c.args.x c.fits-x.0
