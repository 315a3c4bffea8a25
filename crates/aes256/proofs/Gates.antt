-- The gates of the S-box.
use Rattle.std.proofs.Common.{◌≡◌, ℕ, List, [], ◌∷◌, map, length, bit_xor, T, eqb}
use Rattle.std.specs.Simd.Lanes.{number_l, digits_l}
use Rattle.gf256.specs.Field.{product, carryless, remainder, squares, inverse}
use Rattle.aes256.specs.Cipher.{s_box}
use Rattle.aes256.proofs.Circuit.{Gate, Xor, And, Follows, run, pushed, picked, all_below, circuit_right}
use Rattle.aes256.specs.Planes.{bit_of}

abbrev pub s_box_gates : List Gate
s_box_gates =
    Xor 4 2 ∷ Xor 8 2 ∷ Xor 9 6 ∷ Xor 10 5 ∷ Xor 10 9 ∷ Xor 0 5 ∷ Xor 0 10 ∷ Xor 5 6 ∷
    Xor 2 15 ∷ Xor 3 10 ∷ Xor 0 6 ∷ Xor 14 3 ∷ Xor 0 14 ∷ Xor 1 19 ∷ Xor 1 14 ∷ Xor 2 10 ∷
    Xor 2 13 ∷ Xor 17 0 ∷ Xor 2 1 ∷ Xor 3 15 ∷ Xor 15 3 ∷ Xor 19 0 ∷ Xor 29 1 ∷ And 15 10 ∷
    And 13 9 ∷ Xor 0 1 ∷ And 19 26 ∷ Xor 0 3 ∷ And 26 7 ∷ And 19 23 ∷ Xor 0 1 ∷ And 22 13 ∷
    Xor 0 3 ∷ And 30 16 ∷ And 33 15 ∷ Xor 0 1 ∷ And 32 20 ∷ Xor 0 3 ∷ Xor 12 2 ∷ Xor 11 1 ∷
    Xor 9 4 ∷ Xor 8 3 ∷ Xor 3 28 ∷ Xor 3 23 ∷ Xor 3 22 ∷ Xor 3 22 ∷ Xor 3 2 ∷ And 4 2 ∷
    Xor 2 0 ∷ And 2 0 ∷ Xor 0 6 ∷ Xor 6 5 ∷ Xor 8 4 ∷ And 0 1 ∷ Xor 0 8 ∷ Xor 10 0 ∷
    Xor 7 1 ∷ And 11 0 ∷ Xor 0 2 ∷ Xor 10 1 ∷ And 9 0 ∷ Xor 14 0 ∷ Xor 0 3 ∷ Xor 12 8 ∷
    Xor 13 2 ∷ Xor 10 6 ∷ Xor 2 3 ∷ And 1 54 ∷ And 9 53 ∷ And 14 69 ∷ And 5 49 ∷ And 9 65 ∷
    And 21 54 ∷ And 9 56 ∷ And 7 55 ∷ And 12 59 ∷ And 10 68 ∷ And 18 66 ∷ And 23 71 ∷ And 14 77 ∷
    And 18 70 ∷ And 30 72 ∷ And 18 79 ∷ And 16 82 ∷ And 21 80 ∷ Xor 2 1 ∷ Xor 8 7 ∷ Xor 14 6 ∷
    Xor 11 10 ∷ Xor 19 9 ∷ Xor 20 17 ∷ Xor 16 15 ∷ Xor 24 21 ∷ Xor 19 18 ∷ Xor 10 9 ∷ Xor 15 7 ∷
    Xor 6 3 ∷ Xor 25 11 ∷ Xor 27 4 ∷ Xor 13 2 ∷ Xor 18 3 ∷ Xor 9 3 ∷ Xor 13 4 ∷ Xor 31 4 ∷
    Xor 3 2 ∷ Xor 36 2 ∷ Xor 7 3 ∷ Xor 11 5 ∷ Xor 20 8 ∷ Xor 5 4 ∷ Xor 17 4 ∷ Xor 20 5 ∷
    Xor 25 7 ∷ Xor 9 2 ∷ Xor 19 4 ∷ []

-- the places of the eight answers among the values
abbrev pub s_box_answers : List ℕ
s_box_answers = 6 ∷ 7 ∷ 2 ∷ 3 ∷ 4 ∷ 0 ∷ 1 ∷ 8 ∷ []

pub s_box_gates-table : T (all_below (λ x. eqb (number_l 2 (picked s_box_answers (run s_box_gates (digits_l 2 8 x)))) (bit_xor (s_box x) 0x63)) 256)
unfolding product carryless remainder inverse squares s_box
s_box_gates-table = tt

pub substituted : (vs ns : List ℕ) → length vs ≡ 8 → Follows s_box_gates vs ns
    → (k : ℕ) → number_l 2 (map (bit_of k) (picked s_box_answers (pushed ns vs))) ≡ bit_xor (s_box (number_l 2 (map (bit_of k) vs))) 0x63
substituted = circuit_right s_box_gates s_box_answers (λ x. bit_xor (s_box x) 0x63) s_box_gates-table

abbrev pub double_gates : List Gate
double_gates = Xor 0 7 ∷ Xor 3 8 ∷ Xor 5 9 ∷ []

pub doubled : (vs ns : List ℕ) → length vs ≡ 8 → Follows double_gates vs ns
    → (k : ℕ) → number_l 2 (map (bit_of k) (picked (10 ∷ 2 ∷ 4 ∷ 1 ∷ 0 ∷ 7 ∷ 8 ∷ 9 ∷ []) (pushed ns vs))) ≡ product 2 (number_l 2 (map (bit_of k) vs))
unfolding product carryless remainder
doubled = circuit_right double_gates (10 ∷ 2 ∷ 4 ∷ 1 ∷ 0 ∷ 7 ∷ 8 ∷ 9 ∷ []) (product 2) tt
