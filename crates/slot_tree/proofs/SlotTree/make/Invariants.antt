use Rattle.std.proofs.Common.{◌≡◌, vec_len, vec_capacity}
use Rattle.slot_tree.proofs.SlotTree.make.Given as goal

abbrev pub invariant-loop-slot : goal.invariant-loop-slot
invariant-loop-slot l = record {
  len : vec_len l.nodes ≡ l._slot;
  room : vec_capacity l.nodes ≡ l.slots;
  len_previous : vec_len l.previous ≡ l._slot;
  room_previous : vec_capacity l.previous ≡ l.slots;
}
