use Rattle.std.proofs.Common.{sym, ◌∙◌}
use Rattle.gf256.proofs.Laws.{product_zero, product_comm}
use Rattle.gf256.proofs.Tables.{product_logs}
use Rattle.gf256.proofs.mul.Goals as goal
use Rattle.gf256.proofs.mul.Goals.{then-a-eq0-via-then-a-eq0, then-a-eq0-via-else-a-eq0+then-b-eq0}

pub returns-then-a-eq0 : goal.returns-then-a-eq0
returns-then-a-eq0 c = elim c.then-a-eq0.branch [
  | then-a-eq0-via-then-a-eq0 w ↦ rw w.if-a-eq0.true (sym (product_zero c.args.b))
  | then-a-eq0-via-else-a-eq0+then-b-eq0 w ↦ rw w.if-b-eq0.true (sym (product_zero c.args.a) ∙ product_comm 0 c.args.a)
]

pub returns : goal.returns
returns c = product_logs c.args.a c.args.b c.logarithm.result c.logarithm-2.result c.exponential.result
    c.logarithm.ensures.is c.logarithm-2.ensures.is c.exponential.ensures
