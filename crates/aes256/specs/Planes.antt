-- Eight blocks as eight vectors: bit k of lane p of plane b is bit b of byte p of block k.
use Rattle.std.specs.Prelude.{◌≡◌, ℕ, ◌+◌, ◌*◌, ◌/◌, ◌%◌, ◌^◌, ◌<◌, List, [], ◌∷◌, map, length, slice_index, slice_index_or, bit_and, bit_xor, ◌-◌}
use Rattle.gf256.specs.Field.{product}
use Rattle.aes256.specs.Cipher.{round_key}
use Rattle.std.specs.Simd.Lanes.{number_l}
use Rattle.aes256.specs.declared.planes.Planes.{Planes}

-- bit k of n
abbrev pub bit_of : ℕ → ℕ → ℕ
bit_of k n = n / 2 ^ k % 2

-- lane p of each plane
abbrev pub lanes_at : Planes → ℕ → List ℕ
lanes_at s p = slice_index s.p0 p ∷ slice_index s.p1 p ∷ slice_index s.p2 p ∷ slice_index s.p3 p ∷ slice_index s.p4 p ∷ slice_index s.p5 p ∷ slice_index s.p6 p ∷ slice_index s.p7 p ∷ []

-- byte p of block k
unfoldable pub byte_at : Planes → ℕ → ℕ → ℕ
byte_at s k p = number_l 2 (map (bit_of k) (lanes_at s p))

-- where ShiftRows takes byte p from
abbrev pub shifted : ℕ → ℕ
shifted p = 4 * ((p / 4 + p % 4) % 4) + p % 4

-- the byte below byte p in its column, from the last row to the first
abbrev pub next_row : ℕ → ℕ
next_row p = 4 * (p / 4) + (p % 4 + 1) % 4

-- byte p after MixColumns, as the sum of a double and three bytes
abbrev pub mixed_byte : (ℕ → ℕ) → ℕ → ℕ
mixed_byte f p = bit_xor (bit_xor (f (next_row p)) (bit_xor (f (next_row (next_row p))) (f (next_row (next_row (next_row p))))))
    (product 2 (bit_xor (f p) (f (next_row p))))

-- block k of s is the state
pub record IsBlock (s : Planes) (k : ℕ) (state : List ℕ) : Type 0 where
  pub long : length state ≡ 16
  pub same : (p : ℕ) → p < 16 → byte_at s k p ≡ slice_index state p

-- at block k, the planes are the round key with {63} added to each byte, which substitute leaves out
pub record IsRoundKey (s : Planes) (k : ℕ) (words : List ℕ) : Type 0 where
  pub long : length words ≡ 16
  pub same : (p : ℕ) → p < 16 → byte_at s k p ≡ bit_xor (slice_index words p) 0x63

abbrev pub no_planes : Planes
no_planes = record { p0 = []; p1 = []; p2 = []; p3 = []; p4 = []; p5 = []; p6 = []; p7 = [] }

-- the round keys' planes, against the key's words
pub record AreRoundKeyPlanes (rounds : List Planes) (words : List ℕ) : Type 0 where
  pub first : (k : ℕ) → k < 8 → IsBlock (slice_index_or rounds 0 no_planes) k (round_key words 0)
  pub others : (r k : ℕ) → 0 < r → r < 15 → k < 8 → IsRoundKey (slice_index_or rounds r no_planes) k (round_key words r)

-- 255 where n has the bit, and else 0
abbrev pub bit_mask : ℕ → ℕ → ℕ
bit_mask n bit = (256 - n / 2 ^ bit % 2) % 256

-- the bits of a, down by s, and b that differ, where m has a bit
abbrev pub swap_bits : ℕ → ℕ → ℕ → ℕ → ℕ
swap_bits s m a b = bit_and (bit_xor (a / 2 ^ s) b) m

abbrev pub swap_first : ℕ → ℕ → ℕ → ℕ → ℕ
swap_first s m a b = bit_xor a (swap_bits s m a b * 2 ^ s % 256)

abbrev pub swap_second : ℕ → ℕ → ℕ → ℕ → ℕ
swap_second s m a b = bit_xor b (swap_bits s m a b)

-- x with its bit of value s taken from y
abbrev pub turned : ℕ → ℕ → ℕ → ℕ
turned s x y = x / (2 * s) * (2 * s) + y / s % 2 * s + x % s
