-- What the tables hold.
use Rattle.std.specs.Prelude.{ℕ, ◌*◌, ◌%◌, ◌^◌, bit_xor}
use Rattle.rabin_chunker.specs.Cuts.{remainder}

-- what a byte adds to the remainder of 49 bytes of which it is the oldest
unfoldable pub leaving_of : ℕ → ℕ
leaving_of byte = remainder 339 (byte * 2 ^ 384)

-- the remainder of a polynomial moved up by a byte
unfoldable pub carried_up : ℕ → ℕ
carried_up g = remainder 8 (g * 2 ^ 8)

-- a byte from bit 53 on, beside the remainder of that
unfoldable pub carry_of : ℕ → ℕ
carry_of h = bit_xor (h * 2 ^ 53) (remainder 8 (h * 2 ^ 53))

-- a byte from bit 45 on, two bytes further up: those of its bits that a word of 64 bits keeps, beside its remainder
unfoldable pub carry_two_of : ℕ → ℕ
carry_two_of h = bit_xor (h % 8 * 2 ^ 61) (carried_up (carried_up (h * 2 ^ 45)))

-- a fingerprint as the byte a leaves the window and b comes in
abbrev pub rolled_by : ℕ → ℕ → ℕ → ℕ
rolled_by fingerprint a b = bit_xor (bit_xor (carried_up fingerprint) (leaving_of a)) b
