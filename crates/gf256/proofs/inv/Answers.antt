use Rattle.std.proofs.Common.{arith}
use Rattle.gf256.proofs.Laws.{inverse_only}
use Rattle.gf256.proofs.Tables.{inverse_log}
use Rattle.gf256.proofs.inv.Goals as goal

pub returns-clause-one : goal.returns-clause-one
returns-clause-one c = inverse_log c.args.a c.logarithm.result c.exponential.result c.logarithm.ensures.below c.logarithm.ensures.is c.exponential.ensures

pub returns-clause-is : goal.returns-clause-is
returns-clause-is c =
    inverse_only c.args.a c.exponential.result (omega arith) (omega arith) c.requires
    (inverse_log c.args.a c.logarithm.result c.exponential.result c.logarithm.ensures.below c.logarithm.ensures.is c.exponential.ensures)
