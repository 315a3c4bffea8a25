use Rattle.std.proofs.Common.{◌≡◌}
use Rattle.pool_map.specs.Slots.{slot_of}
use Rattle.own_certificate.specs.Inner.{some_below}
use Rattle.own_certificate.proofs.slots.file_slots.Given as goal

abbrev pub invariant-loop-slot : goal.invariant-loop-slot
invariant-loop-slot l = l.slots.items ≡ some_below (slot_of l.memory.files.slots) l.slot
