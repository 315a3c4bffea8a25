use Rattle.std.proofs.Common.{length, sym, ap, ◌∙◌, arith, ◌^◌}
use Rattle.checkpoints.specs.FileIndex.Files.{Files}
use Rattle.compact_memories.specs.Relaid.{itself, entry_len, entry_lying}
use Rattle.compact_memories.proofs.Relaying.{end_is}
use Rattle.compact_memories.proofs.Carrying.{no_entry_moved, entries_within, entries_moved}
use Rattle.compact_memories.proofs.copied.move_entries.Goals as goal

pub loop-slot-init : goal.loop-slot-init
loop-slot-init c = record { so_far = no_entry_moved c.args.start c.args.memory.now; rooms = λ rooms h. h; greatest = λ fps owners files users h. h }

pub move_entry-end-requires : goal.move_entry-end-requires
move_entry-end-requires c = record {
  inside =
      let more = c.loop-slot-test.true in
      let long = c.loop-slot.invariant.so_far.slots.long in
      let same = c.slots-slots.ensures ∙ ap (λ (f : Files). length f.slots) c.files.ensures in
      omega (arith, more, long, same);
  within = entries_within c.args.start c.args.memory.now c.loop-slot.memory c.loop-slot.slot c.loop-slot.end (2 ^ 64) c.loop-slot.invariant.so_far c.requires.within;
}

pub loop-slot-preserved : goal.loop-slot-preserved
loop-slot-preserved c = record {
  so_far = c.move_entry-end.ensures.so_far c.args.start c.args.memory.now c.loop-slot.invariant.so_far;
  rooms = λ rooms h. c.move_entry-end.ensures.rooms rooms (c.loop-slot.invariant.rooms rooms h);
  greatest = λ fps owners files users h. c.move_entry-end.ensures.greatest fps owners files users (c.loop-slot.invariant.greatest fps owners files users h);
}

pub returns-clause-moved : goal.returns-clause-moved
returns-clause-moved c =
    entries_moved c.args.start c.args.memory.now c.loop-slot.memory c.loop-slot.slot c.loop-slot.end
    (let past = c.loop-slot-test.false in let same = c.slots-slots.ensures ∙ ap (λ (f : Files). length f.slots) c.files.ensures in omega (arith, past, same)) c.loop-slot.invariant.so_far

pub returns-clause-end : goal.returns-clause-end
returns-clause-end c =
    let m = c.args.memory.now in
    end_is itself entry_len entry_lying c.args.start m.files.slots c.loop-slot.memory.files.slots c.loop-slot.slot c.loop-slot.end
    (let past = c.loop-slot-test.false in let same = c.slots-slots.ensures ∙ ap (λ (f : Files). length f.slots) c.files.ensures in omega (arith, past, same)) c.loop-slot.invariant.so_far.slots
