use Rattle.std.proofs.Common.{◌≡◌, ◌+◌, replicate, vec_len, vec_capacity}
use Rattle.pool_map.proofs.sorted.ring.Given as goal

abbrev pub invariant-loop-step : goal.invariant-loop-step
invariant-loop-step l = record {
  links : l.next.items ≡ replicate l._step l.slots;
  len : vec_len l.next ≡ l._step;
  room : vec_capacity l.next ≡ l.slots + 1;
}
