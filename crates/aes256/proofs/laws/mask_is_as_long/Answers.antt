use Rattle.aes256.proofs.MaskLaws.{length-mask}
use Rattle.aes256.proofs.laws.mask_is_as_long.Goals as goal

pub returns : goal.returns
returns c = length-mask c.args.h.now c.args.len c.told-h
