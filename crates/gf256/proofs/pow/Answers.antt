use Rattle.std.proofs.Common.{◌∙◌, sym, ap, ℕ}
use Rattle.gf256.specs.Field.{power}
use Rattle.gf256.proofs.Tables.{power_zero, power_log, power_of_zero}
use Rattle.gf256.proofs.pow.Goals as goal

pub returns-then-e-eq0 : goal.returns-then-e-eq0
returns-then-e-eq0 c = sym (ap (λ (z : ℕ). power c.args.a z) c.if-e-eq0.true ∙ power_zero c.args.a)

pub returns-then-a-eq0 : goal.returns-then-a-eq0
returns-then-a-eq0 c = sym (ap (λ (z : ℕ). power z c.args.e) c.if-a-eq0.true ∙ power_of_zero c.args.e c.if-e-eq0.false)

pub returns : goal.returns
returns c = power_log c.args.a c.args.e c.logarithm.result c.exponential.result c.logarithm.ensures.is c.exponential.ensures
