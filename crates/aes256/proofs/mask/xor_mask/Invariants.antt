use Rattle.std.proofs.Common.{◌≡◌, ℕ, ◌*◌, ◌<◌, ◌≤◌, slice_index, bit_xor}
use Rattle.aes256.proofs.MaskBytes.{mask_byte}
use Rattle.aes256.proofs.mask.xor_mask.Given as goal

abbrev pub invariant-parts : goal.invariant-parts
invariant-parts l = ((q : ℕ) → q < 128 * l.i → slice_index l.text q ≡ bit_xor (slice_index l.initial.text q) (mask_byte l.h q))
    × ((q : ℕ) → 128 * l.i ≤ q → slice_index l.text q ≡ slice_index l.initial.text q)
