use Rattle.std.proofs.Common.{◌≡◌, ◌-◌, ◌*◌, ◌≤◌}
use Rattle.recipe.specs.Reading.{items_at}
use Rattle.recipe.specs.Totals.{with_sum, total_at}
use Rattle.recipe.proofs.reading.total_of.Given as goal

abbrev pub invariant-loop-i : goal.invariant-loop-i
invariant-loop-i l = record { few : l.sum ≤ l.i * 16384; so_far : with_sum l.sum (items_at (l.count - l.i) l.rest) ≡ total_at l.count l.bytes }
