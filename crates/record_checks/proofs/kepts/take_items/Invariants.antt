use Rattle.std.proofs.Common.{◌≡◌, length}
use Rattle.cloud_memory.specs.Rooms.{memory_of}
use Rattle.record_checks.specs.Noting.{kept_field}
use Rattle.record_checks.specs.Steps.{HasKeptRoom}
use Rattle.record_checks.proofs.KeptWalking.{Walking}
use Rattle.record_checks.proofs.kepts.take_items.Given as goal

abbrev pub invariant-loop-found : goal.invariant-loop-found
invariant-loop-found l =
    Walking l.ground l.inside (memory_of l.initial.memory) (memory_of l.memory) l.initial.items l.items
    × (HasKeptRoom l.ground.rooms l.memory l.items.items
    × (kept_field l.at l.body l.memory.shares_end l.items.at l.field l.items.items ≡ kept_field l.at l.body l.initial.memory.shares_end l.initial.items.at l.initial.field l.initial.items.items))

abbrev pub decreases-loop-found : goal.decreases-loop-found
decreases-loop-found l = length l.items.items
