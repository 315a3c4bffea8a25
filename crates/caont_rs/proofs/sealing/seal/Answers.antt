use Rattle.std.proofs.Common.{length, arith}
use Rattle.caont_rs.proofs.Packages.{sealed}
use Rattle.caont_rs.proofs.sealing.seal.Goals as goal

pub returns : goal.returns
returns c = sealed c.args.shape c.args.secret.now c.write_padded.new.text c.seal_text.new.text c.seal_text.new.tail (length c.split_at_mut-text.result.0.now)
    (omega (arith, c.split_at_mut-text.ensures.front_len)) c.write_padded.ensures c.seal_text.ensures.body c.seal_text.ensures.tail
