use Rattle.std.proofs.Common.{refl, ◌∙◌, arith}
use Rattle.compact_memories.proofs.Passing.{kept_past}
use Rattle.compact_memories.proofs.rows.add_all_entries.Goals as goal

pub loop-slot-init : goal.loop-slot-init
loop-slot-init c = record { so_far = λ shares so. so; small = c.requires.small; users = refl }

pub loop-slot-preserved : goal.loop-slot-preserved
loop-slot-preserved c = record {
  so_far = λ shares so. c.add_entry.ensures.so_far shares (c.loop-slot.invariant.so_far shares so);
  small = c.add_entry.ensures.small;
  users = c.add_entry.ensures.users ∙ c.loop-slot.invariant.users;
}

pub returns-clause-kept : goal.returns-clause-kept
returns-clause-kept c shares so =
    kept_past shares c.args.files.now c.loop-slot.rows c.loop-slot.slot (let past = c.loop-slot-test.false in omega (arith, past, c.slots-slot-end.ensures))
    (c.loop-slot.invariant.so_far shares so)
