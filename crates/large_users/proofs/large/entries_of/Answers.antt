use Rattle.std.proofs.Common.{arith}
use Rattle.large_users.proofs.Counts.{count_begins, counted, summed}
use Rattle.large_users.proofs.large.entries_of.Goals as goal

pub loop-slot-init : goal.loop-slot-init
loop-slot-init c = record { so_far = count_begins c.args.user.0 c.args.files.now.slots }

pub returns-clause-count : goal.returns-clause-count
returns-clause-count c =
    counted c.args.files.now.files c.args.files.now.slots c.args.user.0 c.entry_at.ensures.each c.loop-slot.slot c.loop-slot.entries
    (let past = c.loop-slot-test.false in omega (arith, past, c.slots-slot-end.ensures)) c.loop-slot.invariant.so_far

pub returns-clause-bytes : goal.returns-clause-bytes
returns-clause-bytes c =
    summed c.args.files.now.files c.args.files.now.slots c.args.user.0 c.entry_at.ensures.each c.loop-slot.slot c.loop-slot.entries
    (let past = c.loop-slot-test.false in omega (arith, past, c.slots-slot-end.ensures)) c.loop-slot.invariant.so_far
