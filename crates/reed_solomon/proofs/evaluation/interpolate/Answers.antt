use Rattle.std.proofs.Common.{◌≡◌, ℕ, ◌∙◌, ap, refl, arith, length}
use Rattle.reed_solomon.specs.Interpolation.{column_sum}
use Rattle.reed_solomon.proofs.Lagrange.{column_first, column_next, column_all}
use Rattle.reed_solomon.proofs.Rows.{row_at, first_row_at}
use Rattle.reed_solomon.proofs.evaluation.interpolate.Goals as goal

pub loop-t-init : goal.loop-t-init
loop-t-init c = λ col h.
    column_first c.args.points.now c.args.values.now _ c.args.width c.args.at col c.weight_of.result _
    (c.write_multiple.ensures col (omega arith)) c.weight_of.ensures (first_row_at c.args.values.now c.args.width col h)

pub loop-t-preserved : goal.loop-t-preserved
loop-t-preserved c = λ col h.
    column_next c.args.points.now c.args.values.now _ c.args.width c.args.at col c.loop-t.t c.weight_of-in-loop-t.result _ _
    (c.loop-t.invariant col h) (c.mul_into.ensures col (omega arith)) c.weight_of-in-loop-t.ensures
    (row_at c.args.values.now c.loop-t.t c.args.width c.args.width col refl h)

pub returns : goal.returns
returns c = λ col h.
    let e : c.loop-t.t ≡ length c.args.points.now = omega arith in
    c.loop-t.invariant col h ∙ ap (λ (t : ℕ). column_sum c.args.points.now c.args.values.now c.args.width c.args.at col t) e
    ∙ column_all c.args.points.now c.args.values.now c.args.width c.args.at col
