use Rattle.std.proofs.Common.{arith}
use Rattle.grammar.proofs.KitHex.{hex_done}
use Rattle.transcript.proofs.gathering.spell_piece.Goals as goal

pub returns : goal.returns
returns c =
    let written = c.encode_to_slice-written.ensures in
    hex_done c.args.bytes.now c.encode_to_slice-written.new.output c.encode_to_slice-written.result (λ i. let f = c.type_inv.bytes i in omega arith) (written.fits.1 c.requires) written.written
