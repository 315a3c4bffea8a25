use Rattle.std.proofs.Common.{◌≡◌, length}
use Rattle.cloud_memory.specs.Rooms.{memory_of}
use Rattle.record_checks.specs.Noting.{put_field}
use Rattle.record_checks.specs.Steps.{HasRoomForItems}
use Rattle.record_checks.proofs.Walking.{Walking}
use Rattle.record_checks.proofs.items.take_items.Given as goal

abbrev pub invariant-loop-found : goal.invariant-loop-found
invariant-loop-found l =
    Walking l.ground l.inside l.user (memory_of l.initial.memory) (memory_of l.memory) l.initial.items l.items
    × (HasRoomForItems l.ground.rooms l.memory l.user l.items.items
    × (put_field l.at l.body l.memory.shares_end l.items.at l.field l.items.items ≡ put_field l.at l.body l.initial.memory.shares_end l.initial.items.at l.initial.field l.initial.items.items))

abbrev pub decreases-loop-found : goal.decreases-loop-found
decreases-loop-found l = length l.items.items
