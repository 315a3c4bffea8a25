use Rattle.aes256.proofs.MaskLaws.{take-mask}
use Rattle.aes256.proofs.laws.mask_begins_longer.Goals as goal

pub returns : goal.returns
returns c = take-mask c.args.h.now c.args.len c.args.longer c.told-h c.requires
