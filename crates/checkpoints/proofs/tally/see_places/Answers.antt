use Rattle.std.proofs.Common.{arith}
use Rattle.checkpoints.proofs.Tallied.{none_seen, one_seen, all_seen}
use Rattle.checkpoints.proofs.tally.see_places.Goals as goal

pub loop-slot-init : goal.loop-slot-init
loop-slot-init c = none_seen c.args.shares.now.place_slots

pub loop-slot-preserved : goal.loop-slot-preserved
loop-slot-preserved c = one_seen c.args.shares.now.place_slots c.loop-slot.slot c.loop-slot.invariant c.see_place.ensures

pub returns : goal.returns
returns c =
    all_seen c.args.shares.now c.loop-slot.slot c.requires c.place_at.ensures.each c.loop-slot.invariant
    (let no = c.loop-slot-test.false in omega (arith, no, c.place_slots-slot-end.ensures))
