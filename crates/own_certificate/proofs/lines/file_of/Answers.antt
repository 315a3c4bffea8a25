use Rattle.std.proofs.Common.{rules, arith}
use Rattle.own_certificate.proofs.lines.file_of.Goals as goal

pub returns-clause-fits : goal.returns-clause-fits
returns-clause-fits c = record {
  user = let f = c.ranges.user.fits in omega arith;
  tag = (search rules, c.are_bytes.ensures);
  version = let f = c.ranges.version.fits in omega arith;
  at = let f = c.ranges.at.fits in omega arith;
  len = let f = c.ranges.len.fits in omega arith;
  fp = (search rules, c.are_bytes-2.ensures);
}
