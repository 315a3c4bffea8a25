use Rattle.std.proofs.Common.{◌≡◌, length, take, drop}
use Rattle.cloud_memory.specs.Rooms.{memory_of}
use Rattle.cloud_memory.specs.Steps.{with_items}
use Rattle.record_checks.proofs.Walking.{Walking}
use Rattle.record_checks.proofs.items.look_over.Given as goal

abbrev pub invariant-loop-found : goal.invariant-loop-found
invariant-loop-found l =
    Walking l.fn.ground l.fn.inside l.fn.user (memory_of l.fn.memory) (with_items l.fn.user (memory_of l.fn.memory) (take l.seen l.fn.items.items)) l.fn.items l.walk
    × ((drop l.seen l.fn.items.items ≡ l.walk.items)
    × (l.end ≡ (with_items l.fn.user (memory_of l.fn.memory) (take l.seen l.fn.items.items)).shares_end))

abbrev pub decreases-loop-found : goal.decreases-loop-found
decreases-loop-found l = length l.walk.items
