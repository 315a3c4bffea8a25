-- The algebra of xor, and of the products by 2 and 3.
use Rattle.std.proofs.Common.{◌≡◌, ℕ, ◌%◌, ◌<◌, T, eqb, eqb→eq, bit_xor, sym, ap, ◌∙◌, arith}
use Rattle.std.proofs.lemmas.Nat.{xor_comm}
use Rattle.std.specs.Int.Bits.{xor_assoc, xor_self, xor_zero_l}
use Rattle.gf256.specs.Field.{product, carryless, remainder, squares, inverse}
use Rattle.gf256.proofs.Bilinear.{product_right}
use Rattle.aes256.specs.Cipher.{s_box}
use Rattle.aes256.proofs.Circuit.{all_below, every_below}

pub xor_pair : (a b c : ℕ) → bit_xor (bit_xor a c) (bit_xor b c) ≡ bit_xor a b
xor_pair a b c =
    xor_assoc a c (bit_xor b c)
    ∙ ap (bit_xor a) (ap (bit_xor c) (xor_comm b c) ∙ sym (xor_assoc c c b) ∙ ap (λ (x : ℕ). bit_xor x b) (xor_self c) ∙ xor_zero_l b)

pub xor_last : (a c x : ℕ) → bit_xor (bit_xor a c) x ≡ bit_xor (bit_xor a x) c
xor_last a c x = xor_assoc a c x ∙ ap (bit_xor a) (xor_comm c x) ∙ sym (xor_assoc a x c)

pub xor_interchange : (a b c d : ℕ) → bit_xor (bit_xor a b) (bit_xor c d) ≡ bit_xor (bit_xor a c) (bit_xor b d)
xor_interchange a b c d =
    sym (xor_assoc (bit_xor a b) c d) ∙ ap (λ (x : ℕ). bit_xor x d) (xor_last a b c) ∙ xor_assoc (bit_xor a c) b d

pub product_three : (a : ℕ) → a < 256 → product 3 a ≡ bit_xor (product 2 a) a
unfolding product carryless remainder
product_three a lt = eqb→eq _ _ (every_below (λ x. eqb (product 3 x) (bit_xor (product 2 x) x)) 256 tt a lt)

s_box-bytes : T (all_below (λ x. eqb (s_box x % 256) (s_box x)) 256)
unfolding product carryless remainder inverse squares s_box
s_box-bytes = tt

pub s_box-lt : (a : ℕ) → a < 256 → s_box a < 256
s_box-lt a lt =
    let e : s_box a % 256 ≡ s_box a = eqb→eq _ _ (every_below (λ x. eqb (s_box x % 256) (s_box x)) 256 s_box-bytes a lt) in
    omega arith

-- MixColumns of a byte a with those below it, as the code sums it
pub mix_sum : (a b c d : ℕ) → b < 256
    → bit_xor (bit_xor (bit_xor (product 2 a) (product 3 b)) c) d ≡ bit_xor (bit_xor b (bit_xor c d)) (product 2 (bit_xor a b))
mix_sum a b c d B =
    let x : ℕ = product 2 (bit_xor a b) in
    let first : bit_xor (product 2 a) (product 3 b) ≡ bit_xor x b =
    ap (bit_xor (product 2 a)) (product_three b B) ∙ sym (xor_assoc (product 2 a) (product 2 b) b) ∙ ap (λ (y : ℕ). bit_xor y b) (sym (product_right 2 a b)) in
    ap (λ (y : ℕ). bit_xor (bit_xor y c) d) first ∙ xor_assoc (bit_xor x b) c d ∙ xor_assoc x b (bit_xor c d) ∙ xor_comm x (bit_xor b (bit_xor c d))

-- a constant in each byte goes through MixColumns
pub mix_constant : (a b d e c : ℕ)
    → bit_xor (bit_xor (bit_xor a c) (bit_xor (bit_xor b c) (bit_xor d c))) (product 2 (bit_xor (bit_xor e c) (bit_xor a c)))
    ≡ bit_xor (bit_xor (bit_xor a (bit_xor b d)) (product 2 (bit_xor e a))) c
mix_constant a b d e c =
    (λ t. bit_xor (bit_xor (bit_xor a c) (xor_pair b d c t)) (product 2 (xor_pair e a c t)))
    ∙ ap (λ (z : ℕ). bit_xor z (product 2 (bit_xor e a))) (xor_last a c (bit_xor b d))
    ∙ xor_last (bit_xor a (bit_xor b d)) c (product 2 (bit_xor e a))
