-- The laws of the field. All but those of one and of the inverse hold of all numbers, since the product reads low bytes.
use Rattle.std.proofs.Common.{◌≡◌, ◌≢◌, ℕ, zero, suc, ◌%◌, ◌^◌, ◌<◌, refl, sym, ap, ◌∙◌, bit_xor, arith, true, eqb, eqb-true, inl, inr, ◌⊎◌}
use Rattle.std.specs.Int.Bits.{xor_assoc, xor_self, xor_zero_l, xor_zero_r}
use Rattle.std.proofs.lemmas.Nat.{xor_mod}
use Rattle.gf256.specs.Field.{product, carryless, remainder, squares, inverse}
use Rattle.gf256.proofs.Bilinear.{product_left, product_right, agree, IsLinear, all_to, from_all_to}

-- the product reads low bytes
pub product_low : (a b : ℕ) → product (a % 256) (b % 256) ≡ product a b
unfolding product
product_low a b =
    let e : a % 256 % 256 ≡ a % 256 = omega arith in
    let f : b % 256 % 256 ≡ b % 256 = omega arith in
    rw (e, f) refl

low_left : (a b : ℕ) → product (a % 256) b ≡ product a b
low_left a b =
    let e : a % 256 % 256 ≡ a % 256 = omega arith in
    sym (product_low (a % 256) b) ∙ rw e refl ∙ product_low a b

low_right : (a b : ℕ) → product a (b % 256) ≡ product a b
low_right a b =
    let e : b % 256 % 256 ≡ b % 256 = omega arith in
    sym (product_low a (b % 256)) ∙ rw e refl ∙ product_low a b

-- ---- a product is a byte
range_basis : all_to 8 (λ i. all_to 8 (λ j. eqb (product (2 ^ i) (2 ^ j) % 256) (product (2 ^ i) (2 ^ j)))) ≡ true
unfolding product carryless remainder
range_basis = refl

range_at : (i j : ℕ) → i < 8 → j < 8 → product (2 ^ i) (2 ^ j) % 256 ≡ product (2 ^ i) (2 ^ j)
range_at i j hi hj = eqb-true _ _ (from_all_to 8 (λ j. eqb (product (2 ^ i) (2 ^ j) % 256) (product (2 ^ i) (2 ^ j)))
    (from_all_to 8 (λ i. all_to 8 (λ j. eqb (product (2 ^ i) (2 ^ j) % 256) (product (2 ^ i) (2 ^ j)))) range_basis i hi) j hj)

mod_linear : (f : ℕ → ℕ) → IsLinear f → IsLinear (λ x. f x % 256)
mod_linear f h = λ x y. ap (λ (z : ℕ). z % 256) (h x y) ∙ xor_mod (f x) (f y) 8

range_low : (a b : ℕ) → a < 256 → b < 256 → product a b % 256 ≡ product a b
range_low a b ha hb =
    agree (λ x. product x b % 256) (λ x. product x b) (mod_linear (λ x. product x b) (λ x y. product_left x y b)) (λ x y. product_left x y b)
    (λ i hi. agree (λ y. product (2 ^ i) y % 256) (λ y. product (2 ^ i) y) (mod_linear (λ y. product (2 ^ i) y) (λ x y. product_right (2 ^ i) x y)) (λ x y. product_right (2 ^ i) x y)
    (λ j hj. range_at i j hi hj) b hb) a ha

pub product_lt : (a b : ℕ) → product a b < 256
product_lt a b =
    let ha : a % 256 < 256 = omega arith in
    let hb : b % 256 < 256 = omega arith in
    let e : product (a % 256) (b % 256) % 256 ≡ product (a % 256) (b % 256) = range_low (a % 256) (b % 256) ha hb in
    let f : product (a % 256) (b % 256) ≡ product a b = product_low a b in
    omega arith

-- ---- commutative
comm_basis : all_to 8 (λ i. all_to 8 (λ j. eqb (product (2 ^ i) (2 ^ j)) (product (2 ^ j) (2 ^ i)))) ≡ true
unfolding product carryless remainder
comm_basis = refl

comm_at : (i j : ℕ) → i < 8 → j < 8 → product (2 ^ i) (2 ^ j) ≡ product (2 ^ j) (2 ^ i)
comm_at i j hi hj = eqb-true _ _ (from_all_to 8 (λ j. eqb (product (2 ^ i) (2 ^ j)) (product (2 ^ j) (2 ^ i)))
    (from_all_to 8 (λ i. all_to 8 (λ j. eqb (product (2 ^ i) (2 ^ j)) (product (2 ^ j) (2 ^ i)))) comm_basis i hi) j hj)

comm_bytes : (a b : ℕ) → a < 256 → b < 256 → product a b ≡ product b a
comm_bytes a b ha hb =
    agree (λ x. product x b) (λ x. product b x) (λ x y. product_left x y b) (λ x y. product_right b x y)
    (λ i hi. agree (λ y. product (2 ^ i) y) (λ y. product y (2 ^ i)) (λ x y. product_right (2 ^ i) x y) (λ x y. product_left x y (2 ^ i))
    (λ j hj. comm_at i j hi hj) b hb) a ha

pub product_comm : (a b : ℕ) → product a b ≡ product b a
product_comm a b = sym (product_low a b) ∙ comm_bytes (a % 256) (b % 256) (omega arith) (omega arith) ∙ product_low b a

-- ---- associative
assoc_basis : all_to 8 (λ i. all_to 8 (λ j. all_to 8 (λ k. eqb (product (product (2 ^ i) (2 ^ j)) (2 ^ k)) (product (2 ^ i) (product (2 ^ j) (2 ^ k)))))) ≡ true
unfolding product carryless remainder
assoc_basis = refl

assoc_at : (i j k : ℕ) → i < 8 → j < 8 → k < 8 → product (product (2 ^ i) (2 ^ j)) (2 ^ k) ≡ product (2 ^ i) (product (2 ^ j) (2 ^ k))
assoc_at i j k hi hj hk = eqb-true _ _
    (from_all_to 8 (λ k. eqb (product (product (2 ^ i) (2 ^ j)) (2 ^ k)) (product (2 ^ i) (product (2 ^ j) (2 ^ k))))
    (from_all_to 8 (λ j. all_to 8 (λ k. eqb (product (product (2 ^ i) (2 ^ j)) (2 ^ k)) (product (2 ^ i) (product (2 ^ j) (2 ^ k)))))
    (from_all_to 8 (λ i. all_to 8 (λ j. all_to 8 (λ k. eqb (product (product (2 ^ i) (2 ^ j)) (2 ^ k)) (product (2 ^ i) (product (2 ^ j) (2 ^ k)))))) assoc_basis i hi) j hj) k hk)

assoc_bytes : (a b c : ℕ) → a < 256 → b < 256 → c < 256 → product (product a b) c ≡ product a (product b c)
assoc_bytes a b c ha hb hc =
    agree (λ x. product (product x b) c) (λ x. product x (product b c))
    (λ x y. ap (λ (z : ℕ). product z c) (product_left x y b) ∙ product_left (product x b) (product y b) c) (λ x y. product_left x y (product b c))
    (λ i hi. agree (λ x. product (product (2 ^ i) x) c) (λ x. product (2 ^ i) (product x c))
    (λ x y. ap (λ (z : ℕ). product z c) (product_right (2 ^ i) x y) ∙ product_left (product (2 ^ i) x) (product (2 ^ i) y) c)
    (λ x y. ap (λ (z : ℕ). product (2 ^ i) z) (product_left x y c) ∙ product_right (2 ^ i) (product x c) (product y c))
    (λ j hj. agree (λ x. product (product (2 ^ i) (2 ^ j)) x) (λ x. product (2 ^ i) (product (2 ^ j) x))
    (λ x y. product_right (product (2 ^ i) (2 ^ j)) x y)
    (λ x y. ap (λ (z : ℕ). product (2 ^ i) z) (product_right (2 ^ j) x y) ∙ product_right (2 ^ i) (product (2 ^ j) x) (product (2 ^ j) y))
    (λ k hk. assoc_at i j k hi hj hk) c hc) b hb) a ha

pub product_assoc : (a b c : ℕ) → product (product a b) c ≡ product a (product b c)
product_assoc a b c =
    let ha : a % 256 < 256 = omega arith in
    let hb : b % 256 < 256 = omega arith in
    let hc : c % 256 < 256 = omega arith in
    let e : product (product (a % 256) (b % 256)) (c % 256) ≡ product (a % 256) (product (b % 256) (c % 256)) = assoc_bytes (a % 256) (b % 256) (c % 256) ha hb hc in
    sym (low_right (product a b) c ∙ refl) ∙ ap (λ (x : ℕ). product x (c % 256)) (sym (product_low a b)) ∙ e
    ∙ low_left a (product (b % 256) (c % 256)) ∙ ap (λ (x : ℕ). product a x) (product_low b c)

-- ---- zero, one and inverses
pub product_zero : (a : ℕ) → product 0 a ≡ 0
product_zero a = product_left 0 0 a ∙ xor_self (product 0 a)

one_basis : all_to 8 (λ i. eqb (product 1 (2 ^ i)) (2 ^ i)) ≡ true
unfolding product carryless remainder
one_basis = refl

pub product_one : (a : ℕ) → a < 256 → product 1 a ≡ a
product_one a ha = agree (λ x. product 1 x) (λ x. x) (λ x y. product_right 1 x y) (λ x y. refl)
    (λ i hi. eqb-true _ _ (from_all_to 8 (λ i. eqb (product 1 (2 ^ i)) (2 ^ i)) one_basis i hi)) a ha

inverse_all : all_to 255 (λ a. eqb (product (suc a) (inverse (suc a))) 1) ≡ true
unfolding product carryless remainder inverse squares
inverse_all = refl

pub product_inverse : (a : ℕ) → a < 256 → a ≢ 0 → product a (inverse a) ≡ 1
product_inverse zero ha h = absurd (h refl)
product_inverse (suc a) ha h = eqb-true _ _ (from_all_to 255 (λ a. eqb (product (suc a) (inverse (suc a))) 1) inverse_all a (omega arith))

-- no zero divisors
pub cancel_zero : (a b : ℕ) → a < 256 → b < 256 → a ≢ 0 → product a b ≡ 0 → b ≡ 0
cancel_zero a b ha hb na e =
    sym (product_one b hb)
    ∙ ap (λ (z : ℕ). product z b) (sym (product_inverse a ha na) ∙ product_comm a (inverse a))
    ∙ product_assoc (inverse a) a b
    ∙ ap (λ (z : ℕ). product (inverse a) z) e
    ∙ product_comm (inverse a) 0 ∙ product_zero (inverse a)

pub inverse_lt : (a : ℕ) → inverse a < 256
unfolding inverse squares
inverse_lt a = product_lt (product a a) (squares 6 (product a a))

-- the inverse is the only one
pub inverse_only : (a b : ℕ) → a < 256 → b < 256 → a ≢ 0 → product a b ≡ 1 → b ≡ inverse a
inverse_only a b ha hb na e =
    sym (product_one b hb)
    ∙ ap (λ (z : ℕ). product z b) (sym (product_inverse a ha na) ∙ product_comm a (inverse a))
    ∙ product_assoc (inverse a) a b
    ∙ ap (λ (z : ℕ). product (inverse a) z) e
    ∙ product_comm (inverse a) 1 ∙ product_one (inverse a) (inverse_lt a)

-- two numbers whose sum is 0 are equal
pub eq-from_xor : (a b : ℕ) → bit_xor a b ≡ 0 → a ≡ b
eq-from_xor a b e =
    sym (xor_zero_r a) ∙ ap (λ (z : ℕ). bit_xor a z) (sym (xor_self b)) ∙ sym (xor_assoc a b b)
    ∙ ap (λ (z : ℕ). bit_xor z b) e ∙ xor_zero_l b

-- a number whose product with another is 1 is not 0
pub not_zero-from_one : (a b : ℕ) → product a b ≡ 1 → a ≢ 0
not_zero-from_one zero b e = λ _. absurd (omega (arith, product_zero b))
not_zero-from_one (suc a) b e = λ h. absurd (omega arith)

pub no_zero_divisors : (a b : ℕ) → a < 256 → b < 256 → product a b ≡ 0 → (a ≡ 0) ⊎ (b ≡ 0)
no_zero_divisors zero b ha hb e = inl refl
no_zero_divisors (suc a) b ha hb e = inr (cancel_zero (suc a) b ha hb (λ h. absurd (omega arith)) e)
