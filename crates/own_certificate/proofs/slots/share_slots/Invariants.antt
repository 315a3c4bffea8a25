use Rattle.std.proofs.Common.{◌≡◌}
use Rattle.audit_base.specs.CloudMemory.Live.{live_at}
use Rattle.own_certificate.specs.Inner.{some_below}
use Rattle.own_certificate.proofs.slots.share_slots.Given as goal

abbrev pub invariant-loop-slot : goal.invariant-loop-slot
invariant-loop-slot l = l.slots.items ≡ some_below (live_at l.memory.shares) l.slot
