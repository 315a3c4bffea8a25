use Rattle.hash_lanes.proofs.Vectors.{added_word}
use Rattle.hash_lanes.proofs.words.add_word.Goals as goal

pub returns : goal.returns
returns c = added_word c.args.y c.args.x c.fits-x.0
