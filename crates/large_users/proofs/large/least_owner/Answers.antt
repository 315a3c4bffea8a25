use Rattle.std.proofs.Common.{None, arith}
use Rattle.compact_memories.specs.ShareIndex.key.Owner.{Owner}
use Rattle.large_users.specs.Large.{IsOwnerSized}
use Rattle.large_users.proofs.Counts.{each_begins, each_past, seen_begins, seen_past}
use Rattle.large_users.proofs.large.least_owner.Goals as goal

pub loop-slot-init : goal.loop-slot-init
loop-slot-init c = record { seen = seen_begins (λ (k : Owner). k.user) c.args.from c.args.shares.now.owner_slots None; found = tt; sized = each_begins IsOwnerSized c.args.shares.now.owner_slots }

pub returns-clause-seen : goal.returns-clause-seen
returns-clause-seen c =
    seen_past (λ (k : Owner). k.user) c.args.from c.args.shares.now.owner_slots c.loop-slot.slot c.loop-slot.least
    (let past = c.loop-slot-test.false in omega (arith, past, c.owner_slots-slot-end.ensures)) c.loop-slot.invariant.seen

pub returns-clause-sized : goal.returns-clause-sized
returns-clause-sized c =
    each_past IsOwnerSized c.args.shares.now.owner_slots c.loop-slot.slot (let past = c.loop-slot-test.false in omega (arith, past, c.owner_slots-slot-end.ensures)) c.loop-slot.invariant.sized
