use Rattle.std.proofs.Common.{◌≡◌, ◌≢◌, ℕ, sym, ◌∙◌, ap, add-one, bit_xor, slice_index, ◌+◌}
use Rattle.gf256.specs.Field.{product}
use Rattle.reed_solomon.specs.Interpolation.{numerator}
use Rattle.reed_solomon.proofs.Lagrange.{numerator_none, numerator_skip, numerator_take}
use Rattle.reed_solomon.proofs.evaluation.numerator_of.Goals as goal
use Rattle.reed_solomon.proofs.evaluation.numerator_of.Goals.{then-s-skipped, else-s-skipped}

pub loop-s-init : goal.loop-s-init
loop-s-init c = sym (numerator_none (λ t. slice_index c.args.points.now t) c.args.skipped c.args.at)

took : (p : ℕ → ℕ) (t s y x r : ℕ) → s ≢ t → x ≡ numerator p t s y → r ≡ product (bit_xor y (p s)) x → r ≡ numerator p t (s + 1) y
took p t s y x r h e er = er ∙ ap (λ (z : ℕ). product (bit_xor y (p s)) z) e ∙ sym (rw add-one (numerator_take p t s y h))

skipped : (p : ℕ → ℕ) (t s y x : ℕ) → s ≡ t → x ≡ numerator p t s y → x ≡ numerator p t (s + 1) y
skipped p t s y x h e = e ∙ sym (rw add-one (numerator_skip p t s y h))

pub loop-s-preserved : goal.loop-s-preserved
loop-s-preserved c = elim c.if-s-skipped.branch [
  | then-s-skipped w ↦ w.product-is ∙ took (λ t. slice_index c.args.points.now t) c.args.skipped c.loop-s.s c.args.at c.loop-s.product w.mul-product.result
      w.if-s-skipped.true c.loop-s.invariant w.mul-product.ensures
  | else-s-skipped w ↦ w.product-is ∙ skipped (λ t. slice_index c.args.points.now t) c.args.skipped c.loop-s.s c.args.at c.loop-s.product
      w.if-s-skipped.false c.loop-s.invariant
]
