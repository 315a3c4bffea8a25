use Rattle.std.proofs.Common.{◌≢◌, ℕ, ◌<◌, slice_index}
use Rattle.reed_solomon.proofs.are_choice.Given as goal

abbrev pub invariant-loop-t : goal.invariant-loop-t
invariant-loop-t l =
    ((x : ℕ) → x < l.t → slice_index l.points x < l.shape.n)
    × ((x y : ℕ) → x < y → y < l.t → slice_index l.points x ≢ slice_index l.points y)
