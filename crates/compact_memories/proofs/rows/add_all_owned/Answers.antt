use Rattle.std.proofs.Common.{List, length, ap, ◌∙◌, arith}
use Rattle.std.proofs.lemmas.List.{length-replicate}
use Rattle.checkpoints.specs.SpentTable.Spent.{Spent}
use Rattle.checkpoints.specs.SpentTable.Spending.{nothing}
use Rattle.compact_memories.specs.Passes.{row_of}
use Rattle.compact_memories.proofs.Passing.{owned_begins, blank, owned_ends, owned_small}
use Rattle.compact_memories.proofs.rows.add_all_owned.Goals as goal

pub loop-slot-init : goal.loop-slot-init
loop-slot-init c = record {
  so_far = owned_begins c.args.shares.now c.wipe.new.rows (λ user. ap (λ (rows : List Spent). row_of rows user) c.wipe.ensures ∙ blank (length c.args.rows.now) user);
  users = ap (λ (rows : List Spent). length rows) c.wipe.ensures ∙ length-replicate (length c.args.rows.now) nothing;
}

pub loop-slot-preserved : goal.loop-slot-preserved
loop-slot-preserved c = record { so_far = c.add_owned.ensures.so_far; users = c.add_owned.ensures.users ∙ c.loop-slot.invariant.users }

pub returns-clause-kept : goal.returns-clause-kept
returns-clause-kept c files =
    owned_ends c.args.shares.now files c.loop-slot.rows c.loop-slot.slot (let past = c.loop-slot-test.false in omega (arith, past, c.owner_slots-slot-end.ensures)) c.loop-slot.invariant.so_far

pub returns-clause-small : goal.returns-clause-small
returns-clause-small c = owned_small c.args.shares.now c.loop-slot.rows c.loop-slot.slot c.loop-slot.invariant.so_far
