use Rattle.std.proofs.Common.{◌≡◌, slice_index}
use Rattle.reed_solomon.specs.Interpolation.{numerator}
use Rattle.reed_solomon.proofs.evaluation.numerator_of.Given as goal

abbrev pub invariant-loop-s : goal.invariant-loop-s
invariant-loop-s l = l.product ≡ numerator (λ t. slice_index l.points t) l.skipped l.s l.at
