use Rattle.std.proofs.Common.{List, ℕ, ap, sym, ◌∙◌, refl, arith, slice_index, ◌*◌, ◌+◌}
use Rattle.reed_solomon.specs.Interpolation.{column_value}
use Rattle.reed_solomon.proofs.Lagrange.{column_at}
use Rattle.reed_solomon.proofs.Rows.{row_at}
use Rattle.reed_solomon.proofs.evaluation.evaluate.Goals as goal

pub returns-in-Some : goal.returns-in-Some
returns-in-Some c = λ col h.
    let found = c.in-Some.ensures in
    ap (λ (z : List ℕ). slice_index z col) c.copy_from_slice.ensures.after
    ∙ row_at c.args.values.now c.in-Some.t c.args.width c.args.width col refl h
    ∙ sym (column_at c.args.points.now c.args.values.now c.args.width col c.in-Some.t c.requires.apart found.0 (omega (arith, c.type_inv.values (c.in-Some.t * c.args.width + col))))
    ∙ ap (λ (z : ℕ). column_value c.args.points.now c.args.values.now c.args.width z col) found.1
