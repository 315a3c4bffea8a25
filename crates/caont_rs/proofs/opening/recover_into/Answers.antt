use Rattle.std.proofs.Common.{length, sym, ap, ◌∙◌, arith}
use Rattle.reed_solomon.specs.CdBase.Lengths.{share_len_of}
use Rattle.reed_solomon.proofs.Recovery.{whole_rows}
use Rattle.caont_rs.specs.Opening.{opened, opened_package}
use Rattle.caont_rs.proofs.opening.recover_into.Goals as goal

pub unite-requires-clause-whole : goal.unite-requires-clause-whole
unite-requires-clause-whole c = (whole_rows c.args.shape.k (share_len_of c.args.shape.k c.args.secret_len) (length c.args.shares.now) (omega (arith, c.args.shape.several)) c.requires.whole).1

pub returns : goal.returns
unfolding opened
returns c = ap (opened_package c.args.secret_len) (sym c.unite.ensures) ∙ c.open_package.ensures
