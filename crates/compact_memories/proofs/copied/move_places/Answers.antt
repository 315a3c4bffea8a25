use Rattle.std.proofs.Common.{length, sym, ap, ◌∙◌, arith, ◌^◌}
use Rattle.checkpoints.specs.ShareIndex.Shares.{Shares}
use Rattle.compact_memories.specs.Kept.{live_at}
use Rattle.compact_memories.specs.Relaid.{share_len, share_at}
use Rattle.compact_memories.proofs.Relaying.{end_is}
use Rattle.compact_memories.proofs.Carrying.{no_place_moved, places_within, places_moved}
use Rattle.compact_memories.proofs.copied.move_places.Goals as goal

pub loop-slot-init : goal.loop-slot-init
loop-slot-init c = record { so_far = no_place_moved c.args.start c.args.memory.now; rooms = λ rooms h. h; greatest = λ fps owners files users h. h }

pub move_place-end-requires : goal.move_place-end-requires
move_place-end-requires c = record {
  inside =
      let more = c.loop-slot-test.true in
      let long = c.loop-slot.invariant.so_far.slots.long in
      let same = c.place_slots-slots.ensures ∙ ap (λ (s : Shares). length s.place_slots) c.shares.ensures in
      omega (arith, more, long, same);
  within = places_within c.args.start c.args.memory.now c.loop-slot.memory c.loop-slot.slot c.loop-slot.end (2 ^ 64) c.loop-slot.invariant.so_far c.requires.within;
}

pub loop-slot-preserved : goal.loop-slot-preserved
loop-slot-preserved c = record {
  so_far = c.move_place-end.ensures.so_far c.args.start c.args.memory.now c.loop-slot.invariant.so_far;
  rooms = λ rooms h. c.move_place-end.ensures.rooms rooms (c.loop-slot.invariant.rooms rooms h);
  greatest = λ fps owners files users h. c.move_place-end.ensures.greatest fps owners files users (c.loop-slot.invariant.greatest fps owners files users h);
}

pub returns-clause-moved : goal.returns-clause-moved
returns-clause-moved c =
    places_moved c.args.start c.args.memory.now c.loop-slot.memory c.loop-slot.slot c.loop-slot.end
    (let past = c.loop-slot-test.false in let same = c.place_slots-slots.ensures ∙ ap (λ (s : Shares). length s.place_slots) c.shares.ensures in omega (arith, past, same)) c.loop-slot.invariant.so_far

pub returns-clause-end : goal.returns-clause-end
returns-clause-end c =
    let m = c.args.memory.now in
    end_is (live_at m.shares.owners) share_len share_at c.args.start m.shares.place_slots c.loop-slot.memory.shares.place_slots c.loop-slot.slot c.loop-slot.end
    (let past = c.loop-slot-test.false in let same = c.place_slots-slots.ensures ∙ ap (λ (s : Shares). length s.place_slots) c.shares.ensures in omega (arith, past, same)) c.loop-slot.invariant.so_far.slots
