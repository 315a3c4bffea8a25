use Rattle.aes256.proofs.MaskLaws.{mask-at}
use Rattle.aes256.proofs.laws.mask_byte_at.Goals as goal

pub returns : goal.returns
returns c = mask-at c.args.h.now c.args.len c.args.i c.told-h c.requires
