use Rattle.std.proofs.Common.{arith}
use Rattle.gf256.proofs.Tables.{logarithm_below, logarithm_is}
use Rattle.gf256.proofs.generator.logarithm.Goals as goal

pub returns-clause-below : goal.returns-clause-below
returns-clause-below c = logarithm_below c.args.a c.requires (omega arith)

pub returns-clause-is : goal.returns-clause-is
returns-clause-is c = logarithm_is c.args.a c.requires (omega arith)
