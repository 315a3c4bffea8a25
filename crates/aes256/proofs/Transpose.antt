-- Exchanges of bits, three of which transpose eight bytes.
use Rattle.std.proofs.Common.{◌≡◌, ℕ, zero, suc, ◌+◌, ◌*◌, ◌/◌, ◌%◌, ◌^◌, ◌<◌, eqb, eqb→eq, List, [], ◌∷◌, length, replicate, get_or, bit_and, bit_xor, refl, sym, ap, ◌∙◌, arith, shr-shr}
use Rattle.std.proofs.lemmas.Nat.{and_mask, and_le_r, xor_comm, xor_lt}
use Rattle.std.specs.Int.Bits.{xor_assoc, xor_self, xor_zero_l, xor_zero_r, and_zero_r}
use Rattle.std.proofs.lemmas.Simd.{get_or-zip2, get_or-replicate, length-zip2}
use Rattle.std.specs.Simd.Lanes.{zip2, number_l}
use Rattle.gf256.proofs.Lanes.{down}
use Rattle.aes256.specs.Planes.{bit_of, swap_bits, swap_first, swap_second, turned}
use Rattle.aes256.proofs.Circuit.{all_below, every_below, bit_xor-bit, bit_and-bit}

pub by_eight : (P : ℕ → Type 0) → P 0 → P 1 → P 2 → P 3 → P 4 → P 5 → P 6 → P 7 → (j : ℕ) → j < 8 → P j
by_eight P a b c d e f g h zero lt = a
by_eight P a b c d e f g h (suc zero) lt = b
by_eight P a b c d e f g h (suc (suc zero)) lt = c
by_eight P a b c d e f g h (suc (suc (suc zero))) lt = d
by_eight P a b c d e f g h (suc (suc (suc (suc zero)))) lt = e
by_eight P a b c d e f g h (suc (suc (suc (suc (suc zero))))) lt = f
by_eight P a b c d e f g h (suc (suc (suc (suc (suc (suc zero)))))) lt = g
by_eight P a b c d e f g h (suc (suc (suc (suc (suc (suc (suc zero))))))) lt = h
by_eight P a b c d e f g h (suc (suc (suc (suc (suc (suc (suc (suc j)))))))) lt = absurd (omega arith)

swap_bits-off : (s m i x y : ℕ) → bit_of i m ≡ 0 → bit_of i (swap_bits s m x y) ≡ 0
swap_bits-off s m i x y e = bit_and-bit i (bit_xor (x / 2 ^ s) y) m ∙ ap (bit_and (bit_of i (bit_xor (x / 2 ^ s) y))) e ∙ and_zero_r _

swap_bits-on : (s m i x y : ℕ) → bit_of i m ≡ 1 → bit_of i (swap_bits s m x y) ≡ bit_xor (bit_of (s + i) x) (bit_of i y)
swap_bits-on s m i x y e =
    let z : ℕ = bit_of i (bit_xor (x / 2 ^ s) y) in
    let low : z % 2 ≡ z = omega arith in
    bit_and-bit i (bit_xor (x / 2 ^ s) y) m ∙ ap (bit_and z) e ∙ and_mask z 1 ∙ low
    ∙ bit_xor-bit i (x / 2 ^ s) y ∙ ap (λ (v : ℕ). bit_xor (v % 2) (bit_of i y)) (shr-shr x s i)

first_own : (s m k x y : ℕ) → bit_of k (swap_bits s m x y * 2 ^ s % 256) ≡ 0 → bit_of k (swap_first s m x y) ≡ bit_of k x
first_own s m k x y e = bit_xor-bit k x _ ∙ ap (bit_xor (bit_of k x)) e ∙ xor_zero_r _

first_other : (s m i k x y : ℕ) → s + i ≡ k → bit_of k (swap_bits s m x y * 2 ^ s % 256) ≡ bit_of i (swap_bits s m x y) → bit_of i m ≡ 1
    → bit_of k (swap_first s m x y) ≡ bit_of i y
first_other s m i k x y at e on =
    bit_xor-bit k x _
    ∙ ap (bit_xor (bit_of k x)) (e ∙ swap_bits-on s m i x y on ∙ ap (λ (j : ℕ). bit_xor (bit_of j x) (bit_of i y)) at)
    ∙ sym (xor_assoc (bit_of k x) (bit_of k x) (bit_of i y)) ∙ ap (λ (v : ℕ). bit_xor v (bit_of i y)) (xor_self (bit_of k x)) ∙ xor_zero_l _

second_own : (s m k x y : ℕ) → bit_of k m ≡ 0 → bit_of k (swap_second s m x y) ≡ bit_of k y
second_own s m k x y off = bit_xor-bit k y _ ∙ ap (bit_xor (bit_of k y)) (swap_bits-off s m k x y off) ∙ xor_zero_r _

second_other : (s m k x y : ℕ) → bit_of k m ≡ 1 → bit_of k (swap_second s m x y) ≡ bit_of (s + k) x
second_other s m k x y on =
    bit_xor-bit k y _ ∙ ap (bit_xor (bit_of k y)) (swap_bits-on s m k x y on ∙ xor_comm (bit_of (s + k) x) (bit_of k y))
    ∙ sym (xor_assoc (bit_of k y) (bit_of k y) (bit_of (s + k) x)) ∙ ap (λ (v : ℕ). bit_xor v (bit_of (s + k) x)) (xor_self (bit_of k y)) ∙ xor_zero_l _

pub first_1_0 : (x y : ℕ) → bit_of 0 (swap_first 1 85 x y) ≡ bit_of 0 x
first_1_0 x y =
    let t : ℕ = swap_bits 1 85 x y in
    let e : t * 2 % 256 / 1 % 2 ≡ 0 = omega arith in first_own 1 85 0 x y e

pub second_1_0 : (x y : ℕ) → bit_of 0 (swap_second 1 85 x y) ≡ bit_of 1 x
second_1_0 x y = second_other 1 85 0 x y refl

pub first_1_1 : (x y : ℕ) → bit_of 1 (swap_first 1 85 x y) ≡ bit_of 0 y
first_1_1 x y =
    let t : ℕ = swap_bits 1 85 x y in
    let e : t * 2 % 256 / 2 % 2 ≡ t / 1 % 2 = omega arith in first_other 1 85 0 1 x y refl e refl

pub second_1_1 : (x y : ℕ) → bit_of 1 (swap_second 1 85 x y) ≡ bit_of 1 y
second_1_1 x y = second_own 1 85 1 x y refl

pub first_1_2 : (x y : ℕ) → bit_of 2 (swap_first 1 85 x y) ≡ bit_of 2 x
first_1_2 x y =
    let t : ℕ = swap_bits 1 85 x y in
    let e : t * 2 % 256 / 4 % 2 ≡ t / 2 % 2 = omega arith in first_own 1 85 2 x y (e ∙ swap_bits-off 1 85 1 x y refl)

pub second_1_2 : (x y : ℕ) → bit_of 2 (swap_second 1 85 x y) ≡ bit_of 3 x
second_1_2 x y = second_other 1 85 2 x y refl

pub first_1_3 : (x y : ℕ) → bit_of 3 (swap_first 1 85 x y) ≡ bit_of 2 y
first_1_3 x y =
    let t : ℕ = swap_bits 1 85 x y in
    let e : t * 2 % 256 / 8 % 2 ≡ t / 4 % 2 = omega arith in first_other 1 85 2 3 x y refl e refl

pub second_1_3 : (x y : ℕ) → bit_of 3 (swap_second 1 85 x y) ≡ bit_of 3 y
second_1_3 x y = second_own 1 85 3 x y refl

pub first_1_4 : (x y : ℕ) → bit_of 4 (swap_first 1 85 x y) ≡ bit_of 4 x
first_1_4 x y =
    let t : ℕ = swap_bits 1 85 x y in
    let e : t * 2 % 256 / 16 % 2 ≡ t / 8 % 2 = omega arith in first_own 1 85 4 x y (e ∙ swap_bits-off 1 85 3 x y refl)

pub second_1_4 : (x y : ℕ) → bit_of 4 (swap_second 1 85 x y) ≡ bit_of 5 x
second_1_4 x y = second_other 1 85 4 x y refl

pub first_1_5 : (x y : ℕ) → bit_of 5 (swap_first 1 85 x y) ≡ bit_of 4 y
first_1_5 x y =
    let t : ℕ = swap_bits 1 85 x y in
    let e : t * 2 % 256 / 32 % 2 ≡ t / 16 % 2 = omega arith in first_other 1 85 4 5 x y refl e refl

pub second_1_5 : (x y : ℕ) → bit_of 5 (swap_second 1 85 x y) ≡ bit_of 5 y
second_1_5 x y = second_own 1 85 5 x y refl

pub first_1_6 : (x y : ℕ) → bit_of 6 (swap_first 1 85 x y) ≡ bit_of 6 x
first_1_6 x y =
    let t : ℕ = swap_bits 1 85 x y in
    let e : t * 2 % 256 / 64 % 2 ≡ t / 32 % 2 = omega arith in first_own 1 85 6 x y (e ∙ swap_bits-off 1 85 5 x y refl)

pub second_1_6 : (x y : ℕ) → bit_of 6 (swap_second 1 85 x y) ≡ bit_of 7 x
second_1_6 x y = second_other 1 85 6 x y refl

pub first_1_7 : (x y : ℕ) → bit_of 7 (swap_first 1 85 x y) ≡ bit_of 6 y
first_1_7 x y =
    let t : ℕ = swap_bits 1 85 x y in
    let e : t * 2 % 256 / 128 % 2 ≡ t / 64 % 2 = omega arith in first_other 1 85 6 7 x y refl e refl

pub second_1_7 : (x y : ℕ) → bit_of 7 (swap_second 1 85 x y) ≡ bit_of 7 y
second_1_7 x y = second_own 1 85 7 x y refl

pub first_2_0 : (x y : ℕ) → bit_of 0 (swap_first 2 51 x y) ≡ bit_of 0 x
first_2_0 x y =
    let t : ℕ = swap_bits 2 51 x y in
    let e : t * 4 % 256 / 1 % 2 ≡ 0 = omega arith in first_own 2 51 0 x y e

pub second_2_0 : (x y : ℕ) → bit_of 0 (swap_second 2 51 x y) ≡ bit_of 2 x
second_2_0 x y = second_other 2 51 0 x y refl

pub first_2_1 : (x y : ℕ) → bit_of 1 (swap_first 2 51 x y) ≡ bit_of 1 x
first_2_1 x y =
    let t : ℕ = swap_bits 2 51 x y in
    let e : t * 4 % 256 / 2 % 2 ≡ 0 = omega arith in first_own 2 51 1 x y e

pub second_2_1 : (x y : ℕ) → bit_of 1 (swap_second 2 51 x y) ≡ bit_of 3 x
second_2_1 x y = second_other 2 51 1 x y refl

pub first_2_2 : (x y : ℕ) → bit_of 2 (swap_first 2 51 x y) ≡ bit_of 0 y
first_2_2 x y =
    let t : ℕ = swap_bits 2 51 x y in
    let e : t * 4 % 256 / 4 % 2 ≡ t / 1 % 2 = omega arith in first_other 2 51 0 2 x y refl e refl

pub second_2_2 : (x y : ℕ) → bit_of 2 (swap_second 2 51 x y) ≡ bit_of 2 y
second_2_2 x y = second_own 2 51 2 x y refl

pub first_2_3 : (x y : ℕ) → bit_of 3 (swap_first 2 51 x y) ≡ bit_of 1 y
first_2_3 x y =
    let t : ℕ = swap_bits 2 51 x y in
    let e : t * 4 % 256 / 8 % 2 ≡ t / 2 % 2 = omega arith in first_other 2 51 1 3 x y refl e refl

pub second_2_3 : (x y : ℕ) → bit_of 3 (swap_second 2 51 x y) ≡ bit_of 3 y
second_2_3 x y = second_own 2 51 3 x y refl

pub first_2_4 : (x y : ℕ) → bit_of 4 (swap_first 2 51 x y) ≡ bit_of 4 x
first_2_4 x y =
    let t : ℕ = swap_bits 2 51 x y in
    let e : t * 4 % 256 / 16 % 2 ≡ t / 4 % 2 = omega arith in first_own 2 51 4 x y (e ∙ swap_bits-off 2 51 2 x y refl)

pub second_2_4 : (x y : ℕ) → bit_of 4 (swap_second 2 51 x y) ≡ bit_of 6 x
second_2_4 x y = second_other 2 51 4 x y refl

pub first_2_5 : (x y : ℕ) → bit_of 5 (swap_first 2 51 x y) ≡ bit_of 5 x
first_2_5 x y =
    let t : ℕ = swap_bits 2 51 x y in
    let e : t * 4 % 256 / 32 % 2 ≡ t / 8 % 2 = omega arith in first_own 2 51 5 x y (e ∙ swap_bits-off 2 51 3 x y refl)

pub second_2_5 : (x y : ℕ) → bit_of 5 (swap_second 2 51 x y) ≡ bit_of 7 x
second_2_5 x y = second_other 2 51 5 x y refl

pub first_2_6 : (x y : ℕ) → bit_of 6 (swap_first 2 51 x y) ≡ bit_of 4 y
first_2_6 x y =
    let t : ℕ = swap_bits 2 51 x y in
    let e : t * 4 % 256 / 64 % 2 ≡ t / 16 % 2 = omega arith in first_other 2 51 4 6 x y refl e refl

pub second_2_6 : (x y : ℕ) → bit_of 6 (swap_second 2 51 x y) ≡ bit_of 6 y
second_2_6 x y = second_own 2 51 6 x y refl

pub first_2_7 : (x y : ℕ) → bit_of 7 (swap_first 2 51 x y) ≡ bit_of 5 y
first_2_7 x y =
    let t : ℕ = swap_bits 2 51 x y in
    let e : t * 4 % 256 / 128 % 2 ≡ t / 32 % 2 = omega arith in first_other 2 51 5 7 x y refl e refl

pub second_2_7 : (x y : ℕ) → bit_of 7 (swap_second 2 51 x y) ≡ bit_of 7 y
second_2_7 x y = second_own 2 51 7 x y refl

pub first_4_0 : (x y : ℕ) → bit_of 0 (swap_first 4 15 x y) ≡ bit_of 0 x
first_4_0 x y =
    let t : ℕ = swap_bits 4 15 x y in
    let e : t * 16 % 256 / 1 % 2 ≡ 0 = omega arith in first_own 4 15 0 x y e

pub second_4_0 : (x y : ℕ) → bit_of 0 (swap_second 4 15 x y) ≡ bit_of 4 x
second_4_0 x y = second_other 4 15 0 x y refl

pub first_4_1 : (x y : ℕ) → bit_of 1 (swap_first 4 15 x y) ≡ bit_of 1 x
first_4_1 x y =
    let t : ℕ = swap_bits 4 15 x y in
    let e : t * 16 % 256 / 2 % 2 ≡ 0 = omega arith in first_own 4 15 1 x y e

pub second_4_1 : (x y : ℕ) → bit_of 1 (swap_second 4 15 x y) ≡ bit_of 5 x
second_4_1 x y = second_other 4 15 1 x y refl

pub first_4_2 : (x y : ℕ) → bit_of 2 (swap_first 4 15 x y) ≡ bit_of 2 x
first_4_2 x y =
    let t : ℕ = swap_bits 4 15 x y in
    let e : t * 16 % 256 / 4 % 2 ≡ 0 = omega arith in first_own 4 15 2 x y e

pub second_4_2 : (x y : ℕ) → bit_of 2 (swap_second 4 15 x y) ≡ bit_of 6 x
second_4_2 x y = second_other 4 15 2 x y refl

pub first_4_3 : (x y : ℕ) → bit_of 3 (swap_first 4 15 x y) ≡ bit_of 3 x
first_4_3 x y =
    let t : ℕ = swap_bits 4 15 x y in
    let e : t * 16 % 256 / 8 % 2 ≡ 0 = omega arith in first_own 4 15 3 x y e

pub second_4_3 : (x y : ℕ) → bit_of 3 (swap_second 4 15 x y) ≡ bit_of 7 x
second_4_3 x y = second_other 4 15 3 x y refl

pub first_4_4 : (x y : ℕ) → bit_of 4 (swap_first 4 15 x y) ≡ bit_of 0 y
first_4_4 x y =
    let t : ℕ = swap_bits 4 15 x y in
    let e : t * 16 % 256 / 16 % 2 ≡ t / 1 % 2 = omega arith in first_other 4 15 0 4 x y refl e refl

pub second_4_4 : (x y : ℕ) → bit_of 4 (swap_second 4 15 x y) ≡ bit_of 4 y
second_4_4 x y = second_own 4 15 4 x y refl

pub first_4_5 : (x y : ℕ) → bit_of 5 (swap_first 4 15 x y) ≡ bit_of 1 y
first_4_5 x y =
    let t : ℕ = swap_bits 4 15 x y in
    let e : t * 16 % 256 / 32 % 2 ≡ t / 2 % 2 = omega arith in first_other 4 15 1 5 x y refl e refl

pub second_4_5 : (x y : ℕ) → bit_of 5 (swap_second 4 15 x y) ≡ bit_of 5 y
second_4_5 x y = second_own 4 15 5 x y refl

pub first_4_6 : (x y : ℕ) → bit_of 6 (swap_first 4 15 x y) ≡ bit_of 2 y
first_4_6 x y =
    let t : ℕ = swap_bits 4 15 x y in
    let e : t * 16 % 256 / 64 % 2 ≡ t / 4 % 2 = omega arith in first_other 4 15 2 6 x y refl e refl

pub second_4_6 : (x y : ℕ) → bit_of 6 (swap_second 4 15 x y) ≡ bit_of 6 y
second_4_6 x y = second_own 4 15 6 x y refl

pub first_4_7 : (x y : ℕ) → bit_of 7 (swap_first 4 15 x y) ≡ bit_of 3 y
first_4_7 x y =
    let t : ℕ = swap_bits 4 15 x y in
    let e : t * 16 % 256 / 128 % 2 ≡ t / 8 % 2 = omega arith in first_other 4 15 3 7 x y refl e refl

pub second_4_7 : (x y : ℕ) → bit_of 7 (swap_second 4 15 x y) ≡ bit_of 7 y
second_4_7 x y = second_own 4 15 7 x y refl

pub swap_first-lt : (s m x y : ℕ) → x < 256 → swap_first s m x y < 256
swap_first-lt s m x y X = xor_lt 8 x _ X (omega arith)

pub swap_second-lt : (s m x y : ℕ) → y < 256 → m < 256 → swap_second s m x y < 256
swap_second-lt s m x y Y M = xor_lt 8 y _ Y (omega (arith, and_le_r (bit_xor (x / 2 ^ s) y) m))

-- ---- the vectors

abbrev up : ℕ → ℕ → ℕ
up a b = a * 2 ^ b % 2 ^ 8

abbrev swap_lanes : ℕ → ℕ → List ℕ → List ℕ → List ℕ
swap_lanes s m a b = zip2 bit_and (zip2 bit_xor (zip2 down a (replicate 16 s)) b) (replicate 16 m)

module _ (s m : ℕ) (a b : List ℕ) (la : length a ≡ 16) (lb : length b ≡ 16) where
  l1 : length (zip2 down a (replicate 16 s)) ≡ 16
  l1 = length-zip2 down a (replicate 16 s) la ∙ la

  l2 : length (zip2 bit_xor (zip2 down a (replicate 16 s)) b) ≡ 16
  l2 = length-zip2 bit_xor (zip2 down a (replicate 16 s)) b (l1 ∙ sym lb) ∙ l1

  l3 : length (swap_lanes s m a b) ≡ 16
  l3 = length-zip2 bit_and (zip2 bit_xor (zip2 down a (replicate 16 s)) b) (replicate 16 m) l2 ∙ l2

  l4 : length (zip2 up (swap_lanes s m a b) (replicate 16 s)) ≡ 16
  l4 = length-zip2 up (swap_lanes s m a b) (replicate 16 s) l3 ∙ l3

  lanes_at_p : (p : ℕ) → p < 16 → get_or (swap_lanes s m a b) p 0 ≡ swap_bits s m (get_or a p 0) (get_or b p 0)
  lanes_at_p p lt =
      let e1 : get_or (zip2 down a (replicate 16 s)) p 0 ≡ get_or a p 0 / 2 ^ s =
      get_or-zip2 down a (replicate 16 s) p 0 0 0 (omega arith) lt ∙ ap (λ (v : ℕ). get_or a p 0 / 2 ^ v) (get_or-replicate 16 p s 0 lt) in
      let e2 : get_or (zip2 bit_xor (zip2 down a (replicate 16 s)) b) p 0 ≡ bit_xor (get_or a p 0 / 2 ^ s) (get_or b p 0) =
      get_or-zip2 bit_xor (zip2 down a (replicate 16 s)) b p 0 0 0 (omega (arith, l1)) (omega arith) ∙ ap (λ (v : ℕ). bit_xor v (get_or b p 0)) e1 in
      get_or-zip2 bit_and (zip2 bit_xor (zip2 down a (replicate 16 s)) b) (replicate 16 m) p 0 0 0 (omega (arith, l2)) lt
      ∙ (λ t. bit_and (e2 t) (get_or-replicate 16 p m 0 lt t))

  pub first_lanes : (p : ℕ) → p < 16 → get_or (zip2 bit_xor a (zip2 up (swap_lanes s m a b) (replicate 16 s))) p 0 ≡ swap_first s m (get_or a p 0) (get_or b p 0)
  first_lanes p lt =
      let e1 : get_or (zip2 up (swap_lanes s m a b) (replicate 16 s)) p 0 ≡ swap_bits s m (get_or a p 0) (get_or b p 0) * 2 ^ s % 256 =
      get_or-zip2 up (swap_lanes s m a b) (replicate 16 s) p 0 0 0 (omega (arith, l3)) lt ∙ (λ t. up (lanes_at_p p lt t) (get_or-replicate 16 p s 0 lt t)) in
      get_or-zip2 bit_xor a (zip2 up (swap_lanes s m a b) (replicate 16 s)) p 0 0 0 (omega arith) (omega (arith, l4)) ∙ ap (bit_xor (get_or a p 0)) e1

  pub second_lanes : (p : ℕ) → p < 16 → get_or (zip2 bit_xor b (swap_lanes s m a b)) p 0 ≡ swap_second s m (get_or a p 0) (get_or b p 0)
  second_lanes p lt =
      get_or-zip2 bit_xor b (swap_lanes s m a b) p 0 0 0 (omega arith) (omega (arith, l3)) ∙ ap (bit_xor (get_or b p 0)) (lanes_at_p p lt)

-- ---- three exchanges

abbrev pub three : ℕ → ℕ → ℕ
three x y = turned 1 (turned 2 (turned 4 x y) (turned 4 y x)) (turned 2 (turned 4 y x) (turned 4 x y))

pub three-is : (x y : ℕ) → x < 8 → y < 8 → three x y ≡ y
three-is x y X Y =
    eqb→eq _ _ (every_below (λ y. eqb (three x y) y) 8 (every_below (λ x. all_below (λ y. eqb (three x y) y) 8) 8 tt x X) y Y)

pub turned4-lt : (x y : ℕ) → x < 8 → turned 4 x y < 8
turned4-lt x y X = omega arith

pub turned2-lt : (x y : ℕ) → x < 8 → turned 2 x y < 8
turned2-lt x y X = omega arith

abbrev pub bits_of : ℕ → List ℕ
bits_of x = bit_of 0 x ∷ bit_of 1 x ∷ bit_of 2 x ∷ bit_of 3 x ∷ bit_of 4 x ∷ bit_of 5 x ∷ bit_of 6 x ∷ bit_of 7 x ∷ []

pub number-bits : (x : ℕ) → x < 256 → number_l 2 (bits_of x) ≡ x
number-bits x lt = eqb→eq _ _ (every_below (λ x. eqb (number_l 2 (bits_of x)) x) 256 tt x lt)
