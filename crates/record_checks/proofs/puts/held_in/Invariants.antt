use Rattle.std.proofs.Common.{◌≡◌, ◌+◌, ◌*◌, ◌≤◌, length}
use Rattle.std.specs.Prelude.{sum_by}
use Rattle.std.specs.FinMap.{get}
use Rattle.cloud_memory.specs.RecordBody.body.PutItem.{PutItem}
use Rattle.cloud_memory.specs.Steps.{placed_len}
use Rattle.record_checks.proofs.puts.held_in.Given as goal

abbrev pub invariant-loop-found : goal.invariant-loop-found
invariant-loop-found l =
    (l.sum + sum_by (λ (item : PutItem). placed_len (get l.fn.memory.shares.places item.fp.0)) l.items.items
    ≡ sum_by (λ (item : PutItem). placed_len (get l.fn.memory.shares.places item.fp.0)) l.fn.items.items)
    × (l.sum + 4294967296 * length l.items.items ≤ 4294967296 * length l.fn.items.items)

abbrev pub decreases-loop-found : goal.decreases-loop-found
decreases-loop-found l = length l.items.items
