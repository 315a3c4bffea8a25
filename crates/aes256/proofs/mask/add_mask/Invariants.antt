use Rattle.std.proofs.Common.{◌≡◌, ℕ, ◌<◌, ◌≤◌, slice_index, bit_xor}
use Rattle.aes256.proofs.mask.add_mask.Given as goal

abbrev pub invariant-bytes : goal.invariant-bytes
invariant-bytes l = ((q : ℕ) → q < l.q → slice_index l.part q ≡ bit_xor (slice_index l.initial.part q) (slice_index l.mask q))
    × ((q : ℕ) → l.q ≤ q → slice_index l.part q ≡ slice_index l.initial.part q)
