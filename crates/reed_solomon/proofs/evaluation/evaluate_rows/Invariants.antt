use Rattle.std.proofs.Common.{◌≡◌, ℕ, ◌<◌, ◌+◌, ◌*◌, slice_index}
use Rattle.reed_solomon.specs.Interpolation.{column_value}
use Rattle.reed_solomon.proofs.evaluation.evaluate_rows.Given as goal

abbrev pub invariant-loop-j : goal.invariant-loop-j
invariant-loop-j l = (j : ℕ) → j < l.j → (c : ℕ) → c < l.width → slice_index l.target (j * l.width + c)
    ≡ column_value l.fn.points l.fn.values l.width j c
