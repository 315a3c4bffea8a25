use Rattle.std.proofs.Common.{arith}
use Rattle.caont_rs.proofs.Opened.{length-padded, fewest, length-package_of, length-share, share_below, names_apart}
use Rattle.caont_rs.proofs.laws.sharing_laws.Goals as goal

pub returns : goal.returns
returns c = record {
  padded_length = λ s text. length-padded s text;
  fewest = λ s len more m e. fewest s.k len more m (omega (arith, s.several)) e;
  package_length = λ s text. length-package_of s text;
  share_length = λ s j text. length-share s j text;
  pieces = λ s j text bytes l. share_below s j text bytes l;
  names_apart = λ s p q hp hq e. names_apart s p q hp.no_zero hq.no_zero e;
}
