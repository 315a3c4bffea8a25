use Rattle.std.proofs.Common.{◌≡◌, ◌+◌, ◌<◌, ℕ, length, get_or}
use Rattle.mem_disk.specs.Areas.{held}
use Rattle.mem_disk.proofs.area.MemArea.read_across.Given as goal

abbrev pub invariant-loop-place : goal.invariant-loop-place
invariant-loop-place l = record {
  len : length l.out ≡ length l.fn.out;
  each : (k : ℕ) → k < l.place → get_or l.out k 0 ≡ get_or (held l.self) (l.at + k) 0;
}
