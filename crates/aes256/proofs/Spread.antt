-- A byte at each of eight blocks.
use Rattle.std.proofs.Common.{◌≡◌, ℕ, ◌<◌, ◌^◌, eqb, eqb→eq, ◌+◌, ◌-◌, ◌/◌, ◌%◌, length, replicate, bit_and, ap, ◌∙◌, zero-add, List, [], ◌∷◌, map, get_or, w8, Fits, arith}
use Rattle.std.specs.Prelude.{slice_index}
use Rattle.std.specs.Simd.Lanes.{number_l, Each1, zip2}
use Rattle.std.proofs.lemmas.Simd.{get_or-zip2, get_or-replicate, length-zip2}
use Rattle.std.proofs.lemmas.Nat.{and_mask}
use Rattle.gf256.proofs.Lanes.{lane_fits, down}
use Rattle.aes256.specs.Planes.{bit_of, bit_mask}
use Rattle.aes256.proofs.Circuit.{all_below, every_below}

abbrev masks : ℕ → List ℕ
masks n = bit_mask n 0 ∷ bit_mask n 1 ∷ bit_mask n 2 ∷ bit_mask n 3 ∷ bit_mask n 4 ∷ bit_mask n 5 ∷ bit_mask n 6 ∷ bit_mask n 7 ∷ []

byte_right : (n k : ℕ) → n < 256 → k < 8 → number_l 2 (map (bit_of k) (masks n)) ≡ n
byte_right n k N K =
    eqb→eq _ _ (every_below (λ k. eqb (number_l 2 (map (bit_of k) (masks n))) n) 8
    (every_below (λ n. all_below (λ k. eqb (number_l 2 (map (bit_of k) (masks n))) n) 8) 256 tt n N) k K)

pub spread_right : (x : List ℕ) (p k : ℕ) → Each1 (Fits w8) x → k < 8 → number_l 2 (map (bit_of k) (masks (slice_index x p))) ≡ slice_index x p
spread_right x p k fits K = byte_right (slice_index x p) k (lane_fits x p fits) K

abbrev less : ℕ → ℕ → ℕ
less a b = (a + (2 ^ 8 - b)) % 2 ^ 8

pub masked_lanes : (x : List ℕ) (bit : ℕ) → length x ≡ 16 → (p : ℕ) → p < 16
    → get_or (zip2 less (replicate 16 0) (zip2 bit_and (zip2 down x (replicate 16 bit)) (replicate 16 1))) p 0 ≡ bit_mask (get_or x p 0) bit
masked_lanes x bit long p lt =
    let shifts : List ℕ = zip2 down x (replicate 16 bit) in
    let ones : List ℕ = zip2 bit_and shifts (replicate 16 1) in
    let len1 : length shifts ≡ 16 = length-zip2 down x (replicate 16 bit) long ∙ long in
    let len2 : length ones ≡ 16 = length-zip2 bit_and shifts (replicate 16 1) len1 ∙ len1 in
    let inner : get_or shifts p 0 ≡ get_or x p 0 / 2 ^ bit =
    get_or-zip2 down x (replicate 16 bit) p 0 0 0 (omega arith) lt ∙ ap (λ (b : ℕ). get_or x p 0 / 2 ^ b) (get_or-replicate 16 p bit 0 lt) in
    let one : get_or ones p 0 ≡ get_or x p 0 / 2 ^ bit % 2 =
    get_or-zip2 bit_and shifts (replicate 16 1) p 0 0 0 (omega arith) lt
    ∙ (λ t. bit_and (inner t) (get_or-replicate 16 p 1 0 lt t)) ∙ and_mask (get_or x p 0 / 2 ^ bit) 1 in
    get_or-zip2 less (replicate 16 0) ones p 0 0 0 lt (omega arith)
    ∙ (λ t. less (get_or-replicate 16 p 0 0 lt t) (one t)) ∙ ap (λ (z : ℕ). z % 256) (zero-add _)
