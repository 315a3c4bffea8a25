use Rattle.std.proofs.Common.{length, ap, ◌∙◌, arith}
use Rattle.checkpoints.specs.ShareIndex.Shares.{Shares}
use Rattle.compact_memories.proofs.Emptying.{none_dropped, all_dropped}
use Rattle.compact_memories.proofs.dropping.drop_dead.Goals as goal

pub loop-slot-init : goal.loop-slot-init
loop-slot-init c = record { so_far = none_dropped c.args.memory.now; rooms = λ rooms h. h; greatest = λ fps owners files users h. h }

pub loop-slot-preserved : goal.loop-slot-preserved
loop-slot-preserved c = record {
  so_far = c.drop_slot.ensures.so_far c.args.memory.now c.loop-slot.invariant.so_far;
  rooms = λ rooms h. c.drop_slot.ensures.rooms rooms (c.loop-slot.invariant.rooms rooms h);
  greatest = λ fps owners files users h. c.drop_slot.ensures.greatest fps owners files users (c.loop-slot.invariant.greatest fps owners files users h);
}

pub returns-clause-dropped : goal.returns-clause-dropped
returns-clause-dropped c =
    all_dropped c.args.memory.now c.loop-slot.memory c.loop-slot.slot
    (let past = c.loop-slot-test.false in let same = c.place_slots-slots.ensures ∙ ap (λ (s : Shares). length s.place_slots) c.shares.ensures in omega (arith, past, same)) c.loop-slot.invariant.so_far
