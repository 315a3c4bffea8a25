use Rattle.std.proofs.Common.{None, sym, arith}
use Rattle.checkpoints.specs.Records.{owned_at}
use Rattle.checkpoints.proofs.Chaining.{passed_to}
use Rattle.checkpoints.proofs.Picks.{passes, finds}
use Rattle.checkpoints.proofs.puts.next_owned.Goals as goal

pub loop-slot-init : goal.loop-slot-init
loop-slot-init c = passed_to c.args.shares.now.owner_slots c.args.user c.args.from c.start_of-start.result c.start_of-start.ensures.ahead c.start_of-start.ensures.others

pub returns-in-Some : goal.returns-in-Some
returns-in-Some c =
    finds (owned_at c.args.user) c.args.shares.now.owner_slots c.args.from c.loop-slot.slot None c.loop-slot.invariant
    (let more = c.loop-slot-test.true in omega (arith, more, c.owner_slots-slot-end.ensures)) c.in-Some.fp (sym c.in-Some.ensures)

pub loop-slot-preserved : goal.loop-slot-preserved
loop-slot-preserved c =
    passes (owned_at c.args.user) c.args.shares.now.owner_slots c.args.from c.loop-slot.slot None c.loop-slot.invariant
    (let more = c.loop-slot-test.true in omega (arith, more, c.owner_slots-slot-end.ensures)) (sym c.in-None.ensures)
