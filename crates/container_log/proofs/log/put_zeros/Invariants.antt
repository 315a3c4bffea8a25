use Rattle.std.proofs.Common.{◌≡◌, ◌≤◌, ◌++◌}
use Rattle.std.specs.Prelude.{replicate, vec_capacity}
use Rattle.container_log.proofs.log.put_zeros.Given as goal

abbrev pub invariant-zeros : goal.invariant-zeros
invariant-zeros l = (l.bytes.items ≡ l.fn.bytes.items ++ replicate l._place 0) × (vec_capacity l.fn.bytes ≤ vec_capacity l.bytes)
