-- What the operations on vectors of four words leave in each lane.
use Rattle.std.proofs.Common.{◌≡◌, ℕ, zero, suc, ◌<◌, ◌+◌, ◌-◌, ◌*◌, ◌/◌, ◌%◌, ◌^◌, List, [], ◌∷◌, length, map, slice_index, slice_index_or, slice_set, bit_and, bit_or, arith, refl, ap}
use Rattle.std.specs.Int.{w32, bit_not, rotate_right}
use Rattle.std.specs.Simd.Lanes.{zip2}
use Rattle.hash_lanes.specs.Lanes.{lane}

-- what holds of each of the four lanes
pub below_four : (P : ℕ → Type 0) → P 0 → P 1 → P 2 → P 3 → (j : ℕ) → j < 4 → P j
below_four P p0 p1 p2 p3 zero h = p0
below_four P p0 p1 p2 p3 (suc zero) h = p1
below_four P p0 p1 p2 p3 (suc (suc zero)) h = p2
below_four P p0 p1 p2 p3 (suc (suc (suc zero))) h = p3
below_four P p0 p1 p2 p3 (suc (suc (suc (suc n)))) h = absurd (omega arith)

-- what holds of each list of four elements
four_lanes : (P : List ℕ → Type 0) → ((a b c d : ℕ) → P (a ∷ b ∷ c ∷ d ∷ [])) → (xs : List ℕ) → length xs ≡ 4 → P xs
four_lanes P p (a ∷ b ∷ c ∷ d ∷ []) h = p a b c d
four_lanes P p [] h = absurd (omega arith)
four_lanes P p (a ∷ []) h = absurd (omega arith)
four_lanes P p (a ∷ b ∷ []) h = absurd (omega arith)
four_lanes P p (a ∷ b ∷ c ∷ []) h = absurd (omega arith)
four_lanes P p (a ∷ b ∷ c ∷ d ∷ e ∷ xs) h = absurd (omega arith)

abbrev Rotates : ℕ → List ℕ → Type 0
Rotates k a = (j : ℕ) → j < 4
    → slice_index (zip2 bit_or
    (zip2 (λ x n. x / 2 ^ n) a (k ∷ k ∷ k ∷ k ∷ []))
    (zip2 (λ x n. x * 2 ^ n % 2 ^ 32) a ((32 - k) ∷ (32 - k) ∷ (32 - k) ∷ (32 - k) ∷ []))) j
    ≡ rotate_right w32 (slice_index a j) k

-- two shifts of each lane and an or are a rotation
pub shifts_rotate : (k : ℕ) → 0 < k → k < 32 → (a : List ℕ) → length a ≡ 4 → Rotates k a
shifts_rotate k low high =
    let right : k % 32 ≡ k = omega arith in
    let left : (32 - k) % 32 ≡ 32 - k = omega arith in
    four_lanes (Rotates k) (λ a0 a1 a2 a3.
    below_four _ (rw (right, left) refl) (rw (right, left) refl) (rw (right, left) refl) (rw (right, left) refl))

-- the same number at the second place of each pair
zip2-same : (f : ℕ → ℕ → ℕ) (y : ℕ) (a : List ℕ) → length a ≡ 4 → (j : ℕ) → j < 4 → slice_index (zip2 f a (y ∷ y ∷ y ∷ y ∷ [])) j ≡ f (slice_index a j) y
zip2-same f y = four_lanes (λ a. (j : ℕ) → j < 4 → slice_index (zip2 f a (y ∷ y ∷ y ∷ y ∷ [])) j ≡ f (slice_index a j) y) (λ a0 a1 a2 a3.
    below_four _ refl refl refl refl)

-- the sum of a word and the same one in each lane
pub added_word : (y : ℕ) (a : List ℕ) → length a ≡ 4 → (j : ℕ) → j < 4 → slice_index (zip2 (λ x y. (x + y) % 2 ^ 32) a (y ∷ y ∷ y ∷ y ∷ [])) j ≡ (slice_index a j + y) % 2 ^ 32
added_word y = zip2-same (λ x y. (x + y) % 2 ^ 32) y

pub shifted_word : (y : ℕ) (a : List ℕ) → length a ≡ 4 → (j : ℕ) → j < 4 → slice_index (zip2 (λ x n. x / 2 ^ n) a (y ∷ y ∷ y ∷ y ∷ [])) j ≡ slice_index a j / 2 ^ y
shifted_word y = zip2-same (λ x n. x / 2 ^ n) y

-- word k of a lane
pub lane_word : (j : ℕ) (words : List (List ℕ)) (k : ℕ) → slice_index (lane j words) k ≡ slice_index (slice_index_or words k []) j
lane_word j [] k = refl
lane_word j (w ∷ words) zero = refl
lane_word j (w ∷ words) (suc k) = lane_word j words k

-- a lane, with a word set
pub lane_set : (j : ℕ) (words : List (List ℕ)) (k : ℕ) (word : List ℕ) → lane j (slice_set words k word) ≡ slice_set (lane j words) k (slice_index word j)
lane_set j [] k word = refl
lane_set j (w ∷ words) zero word = refl
lane_set j (w ∷ words) (suc k) word = ap (λ (l : List ℕ). slice_index w j ∷ l) (lane_set j words k word)

-- the bits that the first hasn't and the second has
pub not_first : (a : List ℕ) → length a ≡ 4 → (b : List ℕ) → length b ≡ 4 → (j : ℕ) → j < 4
    → slice_index (zip2 bit_and (map (λ x. bit_not w32 x) a) b) j ≡ bit_and (bit_not w32 (slice_index a j)) (slice_index b j)
not_first =
    four_lanes (λ a. (b : List ℕ) → length b ≡ 4 → (j : ℕ) → j < 4 → slice_index (zip2 bit_and (map (λ x. bit_not w32 x) a) b) j ≡ bit_and (bit_not w32 (slice_index a j)) (slice_index b j)) (λ a0 a1 a2 a3.
    four_lanes (λ b. (j : ℕ) → j < 4 → slice_index (zip2 bit_and (map (λ x. bit_not w32 x) (a0 ∷ a1 ∷ a2 ∷ a3 ∷ [])) b) j ≡ bit_and (bit_not w32 (slice_index (a0 ∷ a1 ∷ a2 ∷ a3 ∷ []) j)) (slice_index b j)) (λ b0 b1 b2 b3.
    below_four _ refl refl refl refl))
