use Rattle.aes256.proofs.Spread.{masked_lanes}
use Rattle.aes256.proofs.planes.bit_mask.Goals as goal

pub returns : goal.returns
returns c = masked_lanes c.args.x c.args.bit c.fits-x.0
