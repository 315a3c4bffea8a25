use Rattle.std.proofs.Common.{rules, arith}
use Rattle.own_certificate.proofs.lines.share_of.Goals as goal

pub returns-clause-fits : goal.returns-clause-fits
returns-clause-fits c = record {
  fp = (search rules, c.are_bytes.ensures);
  at = let f = c.ranges.at.fits in omega arith;
  len = let f = c.ranges.len.fits in omega arith;
}
