use Rattle.aes256.proofs.MaskLaws.{mask_bytes}
use Rattle.aes256.proofs.laws.mask_has_bytes.Goals as goal

pub returns : goal.returns
returns c = mask_bytes c.args.h.now c.args.len c.told-h (λ i. c.fits-h i)
