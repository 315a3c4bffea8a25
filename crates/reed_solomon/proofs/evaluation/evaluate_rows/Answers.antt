use Rattle.std.proofs.Common.{◌≤◌, ◌*◌, ◌∙◌, arith, length, below_more}
use Rattle.reed_solomon.proofs.Rows.{row_kept, row_put, rows_fit}
use Rattle.reed_solomon.proofs.evaluation.evaluate_rows.Goals as goal

pub loop-j-preserved : goal.loop-j-preserved
loop-j-preserved c =
    let fits : c.loop-j.j * c.args.width ≤ length c.loop-j.target = rows_fit c.loop-j.j c.args.rows c.args.width (length c.loop-j.target) c.loop-j-test.true (omega arith) in
    below_more _ _
    (λ j h col l. row_kept c.loop-j.target c.evaluate.new.target j c.loop-j.j c.args.width _ col h l fits ∙ c.loop-j.invariant j h col l)
    (λ col l. row_put c.loop-j.target c.evaluate.new.target c.loop-j.j c.args.width _ col (omega arith) fits ∙ c.evaluate.ensures col l)

pub returns : goal.returns
returns c = λ j col h l. c.loop-j.invariant j (omega arith) col l
