use Rattle.std.proofs.Common.{None, sym, arith}
use Rattle.checkpoints.specs.Records.{kept_at}
use Rattle.checkpoints.proofs.Picks.{passes, finds}
use Rattle.checkpoints.proofs.kept.next_kept.Goals as goal

pub returns-in-Some-clause-next : goal.returns-in-Some-clause-next
returns-in-Some-clause-next c =
    finds (kept_at c.args.shares.now.owners) c.args.shares.now.place_slots c.args.from c.loop-slot.slot None c.loop-slot.invariant
    (let more = c.loop-slot-test.true in omega (arith, more, c.place_slots-slot-end.ensures)) c.in-Some.item (sym c.in-Some.ensures.kept)

pub loop-slot-preserved : goal.loop-slot-preserved
loop-slot-preserved c =
    passes (kept_at c.args.shares.now.owners) c.args.shares.now.place_slots c.args.from c.loop-slot.slot None c.loop-slot.invariant
    (let more = c.loop-slot-test.true in omega (arith, more, c.place_slots-slot-end.ensures)) (sym c.in-None.ensures.kept)
