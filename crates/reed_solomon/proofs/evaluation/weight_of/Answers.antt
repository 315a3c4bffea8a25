use Rattle.std.proofs.Common.{ℕ, sym, ◌∙◌, ap, arith, slice_index, length}
use Rattle.gf256.specs.Field.{product}
use Rattle.reed_solomon.proofs.Lagrange.{numerator_own, weight_from}
use Rattle.reed_solomon.proofs.evaluation.weight_of.Goals as goal

pub inv-requires : goal.inv-requires
inv-requires c = λ e. numerator_own (length c.args.points.now) (λ t. slice_index c.args.points.now t) c.args.t c.requires.apart c.requires.within
    (length c.args.points.now) (omega arith) (sym c.numerator_of.ensures ∙ e)

pub returns : goal.returns
returns c = weight_from (λ t. slice_index c.args.points.now t) (length c.args.points.now) c.args.t c.args.at c.inv.result c.mul.result
    c.requires.apart c.requires.within (omega arith)
    (ap (λ (z : ℕ). product z c.inv.result) (sym c.numerator_of.ensures) ∙ c.inv.ensures.one)
    (c.mul.ensures ∙ ap (λ (z : ℕ). product c.inv.result z) c.numerator_of-2.ensures)
