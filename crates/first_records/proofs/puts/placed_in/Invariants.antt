use Rattle.std.proofs.Common.{◌≡◌, ◌+◌, ◌≤◌, length}
use Rattle.std.specs.Prelude.{count_by}
use Rattle.record_checks.specs.Steps.{has_place}
use Rattle.first_records.proofs.puts.placed_in.Given as goal

abbrev pub invariant-loop-found : goal.invariant-loop-found
invariant-loop-found l =
    (l.count + count_by has_place l.walk.items ≡ count_by has_place l.fn.items.items)
    × (l.count + length l.walk.items ≤ length l.fn.items.items)

abbrev pub decreases-loop-found : goal.decreases-loop-found
decreases-loop-found l = length l.walk.items
