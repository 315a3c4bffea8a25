use Rattle.std.proofs.Common.{length, sym}
use Rattle.aes256.proofs.MaskLaws.{length-mask, added_twice}
use Rattle.aes256.proofs.laws.mask_undoes_itself.Goals as goal

pub returns : goal.returns
returns c = added_twice c.args.text.now _ (sym (length-mask c.args.h.now (length c.args.text.now) c.told-h))
