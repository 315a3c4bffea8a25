use Rattle.std.proofs.Common.{None, arith}
use Rattle.compact_memories.specs.FileIndex.key.FileKey.{FileKey}
use Rattle.large_users.specs.Large.{IsEntrySized}
use Rattle.large_users.proofs.Counts.{each_begins, each_past, seen_begins, seen_past}
use Rattle.large_users.proofs.large.least_with.Goals as goal

pub loop-slot-init : goal.loop-slot-init
loop-slot-init c = record { seen = seen_begins (λ (k : FileKey). k.user) c.args.from c.args.files.now.slots None; found = tt; sized = each_begins IsEntrySized c.args.files.now.slots }

pub returns-clause-seen : goal.returns-clause-seen
returns-clause-seen c =
    seen_past (λ (k : FileKey). k.user) c.args.from c.args.files.now.slots c.loop-slot.slot c.loop-slot.least
    (let past = c.loop-slot-test.false in omega (arith, past, c.slots-slot-end.ensures)) c.loop-slot.invariant.seen

pub returns-clause-sized : goal.returns-clause-sized
returns-clause-sized c =
    each_past IsEntrySized c.args.files.now.slots c.loop-slot.slot (let past = c.loop-slot-test.false in omega (arith, past, c.slots-slot-end.ensures)) c.loop-slot.invariant.sized
