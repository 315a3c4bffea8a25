use Rattle.std.proofs.Common.{◌≡◌, ℕ, ◌<◌, slice_index}
use Rattle.reed_solomon.specs.Interpolation.{column_sum}
use Rattle.reed_solomon.proofs.evaluation.interpolate.Given as goal

abbrev pub invariant-loop-t : goal.invariant-loop-t
invariant-loop-t l = (c : ℕ) → c < l.width → slice_index l.target c ≡ column_sum l.fn.points l.fn.values l.width l.fn.at c l.t
