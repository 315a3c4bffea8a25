-- The remainder is linear over `bit_xor`, and commutes with a shift; what a window's fingerprint becomes as it moves on.
use Rattle.std.proofs.Common.{◌≡◌, ℕ, zero, suc, ◌+◌, ◌-◌, ◌*◌, ◌/◌, ◌%◌, ◌^◌, ◌<◌, ◌≤◌, List, [], ◌∷◌, ◌++◌, length, get_or, refl, sym, ap, ◌∙◌, bit_xor, arith, pow_pos, pow-suc, div-lt_iff_lt-mul, mul-le-mul_right, lit<, zero-add, suc-add}
use Rattle.std.specs.Int.{bit_at}
use Rattle.std.specs.Int.Bits.{xor_assoc, xor_self, xor_zero_l, xor_zero_r}
use Rattle.std.proofs.lemmas.Nat.{xor_comm, xor_block, xor_lt, pow-add}
use Rattle.std.proofs.lemmas.Nat.Bits.{bit_at_xor, bit_at-lt, bit_at-zero, bit_at_above, bit_at_cat_high}
use Rattle.std.proofs.Math.Nat.{mul_assoc}
use Rattle.rabin_chunker.specs.Cuts.{remainder, polynomial, fingerprint_of}
use Rattle.rabin_chunker.specs.Rolling.{leaving_of, carried_up, carry_of, carry_two_of, rolled_by}

pub xor_swap : (a b c d : ℕ) → bit_xor (bit_xor a b) (bit_xor c d) ≡ bit_xor (bit_xor a c) (bit_xor b d)
xor_swap a b c d =
    xor_assoc a b (bit_xor c d)
    ∙ ap (λ (x : ℕ). bit_xor a x) (sym (xor_assoc b c d) ∙ ap (λ (x : ℕ). bit_xor x d) (xor_comm b c) ∙ xor_assoc c b d)
    ∙ sym (xor_assoc a c (bit_xor b d))

-- to add a number twice changes nothing
pub xor_undo : (a b : ℕ) → bit_xor (bit_xor a b) a ≡ b
xor_undo a b = ap (λ (x : ℕ). bit_xor x a) (xor_comm a b) ∙ xor_assoc b a a ∙ ap (λ (x : ℕ). bit_xor b x) (xor_self a) ∙ xor_zero_r b

-- a bit times a number
bit_term_add : (u v x : ℕ) → u < 2 → v < 2 → (u + v) % 2 * x ≡ bit_xor (u * x) (v * x)
bit_term_add zero zero x p q = grind (arith, xor_self, xor_zero_l, xor_zero_r)
bit_term_add zero (suc zero) x p q = grind (arith, xor_self, xor_zero_l, xor_zero_r)
bit_term_add (suc zero) zero x p q = grind (arith, xor_self, xor_zero_l, xor_zero_r)
bit_term_add (suc zero) (suc zero) x p q = grind (arith, xor_self, xor_zero_l, xor_zero_r)
bit_term_add (suc (suc u)) v x p q = absurd (omega arith)
bit_term_add u (suc (suc v)) x p q = absurd (omega arith)

shl_xor : (a b n : ℕ) → bit_xor a b * 2 ^ n ≡ bit_xor (a * 2 ^ n) (b * 2 ^ n)
shl_xor a b n =
    let h : 0 < 2 ^ n = pow_pos n in
    grind (arith, xor_block n a b 0 0 h h)

-- a shifted number beside a low one
pub shl_low : (a n b : ℕ) → b < 2 ^ n → a * 2 ^ n + b ≡ bit_xor (a * 2 ^ n) b
shl_low a n b h =
    let z : 0 < 2 ^ n = pow_pos n in
    grind (arith, xor_block n a 0 0 b z h, xor_zero_r, xor_zero_l)

-- ---- the remainder
remainder_next : (n p : ℕ) → remainder (suc n) p ≡ remainder n (bit_xor p (bit_at p (n + 53) * (0x3DA3358B4DC173 * 2 ^ n)))
unfolding remainder
remainder_next n p = refl

remainder_none : (p : ℕ) → remainder zero p ≡ p
unfolding remainder
remainder_none p = refl

pub remainder_xor : (n p q : ℕ) → remainder n (bit_xor p q) ≡ bit_xor (remainder n p) (remainder n q)
unfolding remainder
remainder_xor zero p q = refl
remainder_xor (suc n) p q =
    let t : ℕ = 0x3DA3358B4DC173 * 2 ^ n in
    rw (
      bit_at_xor p q (n + 53),
      bit_term_add (bit_at p (n + 53)) (bit_at q (n + 53)) t (bit_at-lt p (n + 53)) (bit_at-lt q (n + 53)),
      xor_swap p q (bit_at p (n + 53) * t) (bit_at q (n + 53) * t),
    )
    (remainder_xor n (bit_xor p (bit_at p (n + 53) * t)) (bit_xor q (bit_at q (n + 53) * t)))

clear_none : (b x p : ℕ) → b ≡ 0 → bit_xor p (b * x) ≡ p
clear_none b x p h = rw h (grind (arith, xor_zero_r))

-- steps above the degree change nothing
pub remainder_above : (n m p : ℕ) → p < 2 ^ (m + 53) → remainder (n + m) p ≡ remainder m p
remainder_above zero m p h = rw zero-add refl
remainder_above (suc n) m p h =
    ap (λ (k : ℕ). remainder k p) (suc-add n m)
    ∙ remainder_next (n + m) p
    ∙ ap (λ (x : ℕ). remainder (n + m) x) (clear_none (bit_at p (n + m + 53)) (0x3DA3358B4DC173 * 2 ^ (n + m)) p (bit_at_above p (m + 53) (n + m + 53) h (omega arith)))
    ∙ remainder_above n m p h

pub remainder_low : (n p : ℕ) → p < 2 ^ 53 → remainder n p ≡ p
remainder_low zero p h = remainder_none p
remainder_low (suc n) p h =
    remainder_next n p
    ∙ ap (λ (x : ℕ). remainder n x) (clear_none (bit_at p (n + 53)) (0x3DA3358B4DC173 * 2 ^ n) p (bit_at_above p 53 (n + 53) h (omega arith)))
    ∙ remainder_low n p h

bit_shifted : (p m i : ℕ) → bit_at (p * 2 ^ m) (i + m) ≡ bit_at p i
bit_shifted p m i =
    let e : p * 2 ^ m + 0 ≡ p * 2 ^ m = omega arith in
    let s : i + m - m ≡ i = omega arith in
    ap (λ (x : ℕ). bit_at x (i + m)) (sym e) ∙ bit_at_cat_high p m 0 (i + m) (pow_pos m) (omega arith) ∙ ap (λ (k : ℕ). bit_at p k) s

-- a remainder of a shifted polynomial is that of the shifted remainder
pub remainder_shift : (n m p : ℕ) → remainder (n + m) (p * 2 ^ m) ≡ remainder m (remainder n p * 2 ^ m)
remainder_shift zero m p = rw (zero-add, remainder_none p) refl
remainder_shift (suc n) m p =
    let b : ℕ = bit_at p (n + 53) in
    let t : ℕ = 0x3DA3358B4DC173 * 2 ^ n in
    let place : n + m + 53 ≡ n + 53 + m = omega arith in
    let bit : bit_at (p * 2 ^ m) (n + m + 53) ≡ b = ap (λ (k : ℕ). bit_at (p * 2 ^ m) k) place ∙ bit_shifted p m (n + 53) in
    let term : b * (0x3DA3358B4DC173 * 2 ^ (n + m)) ≡ b * t * 2 ^ m =
    ap (λ (x : ℕ). b * (0x3DA3358B4DC173 * x)) (pow-add 2 n m)
    ∙ ap (λ (x : ℕ). b * x) (sym (mul_assoc 0x3DA3358B4DC173 (2 ^ n) (2 ^ m)))
    ∙ sym (mul_assoc b t (2 ^ m)) in
    ap (λ (k : ℕ). remainder k (p * 2 ^ m)) (suc-add n m)
    ∙ remainder_next (n + m) (p * 2 ^ m)
    ∙ ap (λ (x : ℕ). remainder (n + m) (bit_xor (p * 2 ^ m) (x * (0x3DA3358B4DC173 * 2 ^ (n + m))))) bit
    ∙ ap (λ (x : ℕ). remainder (n + m) (bit_xor (p * 2 ^ m) x)) term
    ∙ ap (λ (x : ℕ). remainder (n + m) x) (sym (shl_xor p (b * t) m))
    ∙ remainder_shift n m (bit_xor p (b * t))
    ∙ ap (λ (x : ℕ). remainder m (x * 2 ^ m)) (sym (remainder_next n p))

-- ---- the range of the remainder
below_top : (k t : ℕ) → t < 2 ^ suc k → bit_at t k ≡ 0 → t < 2 ^ k
below_top k t h z =
    let hp : 0 < 2 ^ k = pow_pos k in
    let hq : t / 2 ^ k < 2 = grind (arith, div-lt_iff_lt-mul, pow-suc) in
    let q : t / 2 ^ k < 1 = omega arith in
    grind (arith, div-lt_iff_lt-mul)

top_bit : (n : ℕ) → bit_at (0x3DA3358B4DC173 * 2 ^ n) (n + 53) ≡ 1
top_bit n =
    let e : n + 53 ≡ 53 + n = omega arith in
    ap (λ (k : ℕ). bit_at (0x3DA3358B4DC173 * 2 ^ n) k) e ∙ bit_shifted 0x3DA3358B4DC173 n 53

cleared_top : (b v : ℕ) → b < 2 → v ≡ 1 → (b + b * v) % 2 ≡ 0
cleared_top zero v h e = omega arith
cleared_top (suc zero) v h e = rw e refl
cleared_top (suc (suc b)) v h e = absurd (omega arith)

bit_of_term : (b x i : ℕ) → b < 2 → bit_at (b * x) i ≡ b * bit_at x i
bit_of_term zero x i h = let e : 0 * x ≡ 0 = omega arith in rw e (bit_at-zero i ∙ omega arith)
bit_of_term (suc zero) x i h = let e : 1 * x ≡ x = omega arith in rw e (omega arith)
bit_of_term (suc (suc b)) x i h = absurd (omega arith)

term_lt : (b x y : ℕ) → b < 2 → x < y → b * x < y
term_lt zero x y h l = omega arith
term_lt (suc zero) x y h l = omega arith
term_lt (suc (suc b)) x y h l = absurd (omega arith)

modulus_lt : (n : ℕ) → 0x3DA3358B4DC173 * 2 ^ n < 2 ^ suc (n + 53)
modulus_lt n =
    let hp : 0 < 2 ^ n = pow_pos n in
    let e : 2 ^ suc (n + 53) ≡ 2 ^ n * 2 ^ 54 = (let s : suc (n + 53) ≡ n + 54 = omega arith in ap (λ (k : ℕ). 2 ^ k) s ∙ pow-add 2 n 54) in
    rw e (omega arith)

pub remainder_lt : (n p : ℕ) → p < 2 ^ (n + 53) → remainder n p < 2 ^ 53
remainder_lt zero p h = rw (remainder_none p) h
remainder_lt (suc n) p h =
    let b : ℕ = bit_at p (n + 53) in
    let t : ℕ = 0x3DA3358B4DC173 * 2 ^ n in
    let hb : b < 2 = bit_at-lt p (n + 53) in
    let h2 : p < 2 ^ suc (n + 53) = rw (suc-add n 53) at h in
    let wide : bit_xor p (b * t) < 2 ^ suc (n + 53) = xor_lt (suc (n + 53)) p (b * t) h2 (term_lt b t (2 ^ suc (n + 53)) hb (modulus_lt n)) in
    let clear : bit_at (bit_xor p (b * t)) (n + 53) ≡ 0 =
    bit_at_xor p (b * t) (n + 53)
    ∙ ap (λ (x : ℕ). (b + x) % 2) (bit_of_term b t (n + 53) hb)
    ∙ cleared_top b (bit_at t (n + 53)) hb (top_bit n) in
    rw (remainder_next n p) (remainder_lt n (bit_xor p (b * t)) (below_top (n + 53) (bit_xor p (b * t)) wide clear))

-- ---- a window that moves on by a byte
-- each number is a byte
abbrev pub Bytes : List ℕ → Type 0
Bytes xs = (i : ℕ) → get_or xs i 0 < 256

length-last : (xs : List ℕ) (b : ℕ) → length (xs ++ b ∷ []) ≡ suc (length xs)
length-last [] b = refl
length-last (x ∷ xs) b = ap (λ (n : ℕ). suc n) (length-last xs b)

regroup : (x w p b : ℕ) → x * (w * 256) + (p * 256 + b) ≡ (x * w + p) * 256 + b
regroup x w p b = grind (arith, mul_assoc)

pub polynomial_append : (xs : List ℕ) (b : ℕ) → polynomial (xs ++ b ∷ []) ≡ polynomial xs * 256 + b
unfolding polynomial
polynomial_append [] b = grind arith
polynomial_append (x ∷ xs) b =
    rw (length-last xs b, polynomial_append xs b, pow-suc 256 (length xs)) (regroup x (256 ^ length xs) (polynomial xs) b)

digit_lt : (x w p : ℕ) → x < 256 → p < w → x * w + p < w * 256
digit_lt x w p hx hp =
    let m : x * w ≤ 255 * w = mul-le-mul_right w (omega arith) in
    omega arith

pub polynomial_lt : (xs : List ℕ) → Bytes xs → polynomial xs < 256 ^ length xs
unfolding polynomial
polynomial_lt [] h = lit< tt
polynomial_lt (x ∷ xs) h =
    let l : polynomial xs < 256 ^ length xs = polynomial_lt xs (λ i. h (suc i)) in
    rw (pow-suc 256 (length xs)) (digit_lt x (256 ^ length xs) (polynomial xs) (h 0) l)

pub polynomial_first : (x : ℕ) (xs : List ℕ) → polynomial (x ∷ xs) ≡ x * 256 ^ length xs + polynomial xs
unfolding polynomial
polynomial_first x xs = refl

-- what a byte adds to the fingerprint of a window of which it is the oldest
unfoldable first_of : ℕ → ℕ
first_of byte = remainder 331 (byte * 2 ^ 376)

oldest_out : (a : ℕ) (xs : List ℕ) → length xs ≡ 47 → Bytes xs → bit_xor (fingerprint_of (a ∷ xs)) (first_of a) ≡ remainder 331 (polynomial xs)
unfolding first_of fingerprint_of
oldest_out a xs hl hb =
    let l : polynomial xs < 2 ^ 376 = (let l0 : polynomial xs < 256 ^ 47 = rw hl at (polynomial_lt xs hb) in l0) in
    let p : polynomial (a ∷ xs) ≡ bit_xor (a * 2 ^ 376) (polynomial xs) =
    polynomial_first a xs ∙ ap (λ (n : ℕ). a * 256 ^ n + polynomial xs) hl ∙ shl_low a 376 (polynomial xs) l in
    ap (λ (x : ℕ). bit_xor (remainder 331 x) (remainder 331 (a * 2 ^ 376))) p
    ∙ ap (λ (x : ℕ). bit_xor x (remainder 331 (a * 2 ^ 376))) (remainder_xor 331 (a * 2 ^ 376) (polynomial xs))
    ∙ xor_undo (remainder 331 (a * 2 ^ 376)) (remainder 331 (polynomial xs))

newest_in : (xs : List ℕ) (b : ℕ) → length xs ≡ 47 → Bytes xs → b < 256 → fingerprint_of (xs ++ b ∷ []) ≡ bit_xor (carried_up (remainder 331 (polynomial xs))) b
unfolding carried_up fingerprint_of
newest_in xs b hl hb h =
    let l : polynomial xs < 2 ^ 376 = (let l0 : polynomial xs < 256 ^ 47 = rw hl at (polynomial_lt xs hb) in l0) in
    let low : remainder 331 (polynomial xs) ≡ remainder 323 (polynomial xs) = remainder_above 8 323 (polynomial xs) l in
    ap (λ (x : ℕ). remainder 331 x) (polynomial_append xs b ∙ shl_low (polynomial xs) 8 b h)
    ∙ remainder_xor 331 (polynomial xs * 2 ^ 8) b
    ∙ ap (λ (x : ℕ). bit_xor (remainder 331 (polynomial xs * 2 ^ 8)) x) (remainder_low 331 b (omega arith))
    ∙ ap (λ (x : ℕ). bit_xor x b) (remainder_shift 323 8 (polynomial xs) ∙ ap (λ (x : ℕ). remainder 8 (x * 2 ^ 8)) (sym low))

carried_up_xor : (x y : ℕ) → carried_up (bit_xor x y) ≡ bit_xor (carried_up x) (carried_up y)
unfolding carried_up
carried_up_xor x y = ap (λ (z : ℕ). remainder 8 z) (shl_xor x y 8) ∙ remainder_xor 8 (x * 2 ^ 8) (y * 2 ^ 8)

carried_up_first : (a : ℕ) → carried_up (first_of a) ≡ leaving_of a
unfolding carried_up first_of leaving_of
carried_up_first a =
    let e : a * 2 ^ 376 * 2 ^ 8 ≡ a * 2 ^ 384 = omega arith in
    sym (remainder_shift 331 8 (a * 2 ^ 376)) ∙ ap (λ (x : ℕ). remainder 339 x) e

-- the fingerprint as the window moves on by a byte
pub rolled : (a b : ℕ) (xs : List ℕ) → length xs ≡ 47 → Bytes xs → b < 256
    → fingerprint_of (xs ++ b ∷ []) ≡ bit_xor (bit_xor (carried_up (fingerprint_of (a ∷ xs))) (leaving_of a)) b
rolled a b xs hl hb h =
    newest_in xs b hl hb h
    ∙ ap (λ (x : ℕ). bit_xor x b) (ap (λ (x : ℕ). carried_up x) (sym (oldest_out a xs hl hb)) ∙ carried_up_xor (fingerprint_of (a ∷ xs)) (first_of a) ∙ ap (λ (x : ℕ). bit_xor (carried_up (fingerprint_of (a ∷ xs))) x) (carried_up_first a))

pub fingerprint_lt : (xs : List ℕ) → length xs ≡ 48 → Bytes xs → fingerprint_of xs < 2 ^ 53
unfolding fingerprint_of
fingerprint_lt xs hl hb =
    let l0 : polynomial xs < 256 ^ 48 = rw hl at (polynomial_lt xs hb) in
    remainder_lt 331 (polynomial xs) l0

pub leaving_lt : (a : ℕ) → a < 256 → leaving_of a < 2 ^ 53
unfolding leaving_of
leaving_lt a h = remainder_lt 339 (a * 2 ^ 384) (omega arith)

-- ---- the carry by the highest byte alone
pub carried_by : (g : ℕ) → g < 2 ^ 53 → carried_up g ≡ bit_xor (g * 2 ^ 8) (carry_of (g / 2 ^ 45))
unfolding carried_up carry_of
carried_by g h =
    let hi : ℕ = g / 2 ^ 45 in
    let lo : ℕ = g % 2 ^ 45 * 2 ^ 8 in
    let small : lo < 2 ^ 53 = omega arith in
    let e : g * 2 ^ 8 ≡ bit_xor (hi * 2 ^ 53) lo = (let sum : g * 2 ^ 8 ≡ hi * 2 ^ 53 + lo = omega arith in sum) ∙ shl_low hi 53 lo small in
    let r : ℕ = remainder 8 (hi * 2 ^ 53) in
    let left : remainder 8 (g * 2 ^ 8) ≡ bit_xor r lo =
    ap (λ (x : ℕ). remainder 8 x) e ∙ remainder_xor 8 (hi * 2 ^ 53) lo ∙ ap (λ (x : ℕ). bit_xor r x) (remainder_low 8 lo small) in
    let right : bit_xor (g * 2 ^ 8) (bit_xor (hi * 2 ^ 53) r) ≡ bit_xor lo r =
    ap (λ (x : ℕ). bit_xor x (bit_xor (hi * 2 ^ 53) r)) e ∙ xor_swap (hi * 2 ^ 53) lo (hi * 2 ^ 53) r
    ∙ ap (λ (x : ℕ). bit_xor x (bit_xor lo r)) (xor_self (hi * 2 ^ 53)) ∙ xor_zero_l (bit_xor lo r) in
    left ∙ xor_comm r lo ∙ sym right

pub carried_lt : (g : ℕ) → g < 2 ^ 53 → carried_up g < 2 ^ 53
unfolding carried_up
carried_lt g h = remainder_lt 8 (g * 2 ^ 8) (omega arith)

-- ---- what the code computes
reorder : (x l b c : ℕ) → bit_xor (bit_xor x (bit_xor l b)) c ≡ bit_xor (bit_xor (bit_xor x c) l) b
reorder x l b c =
    xor_assoc x (bit_xor l b) c ∙ ap (λ (z : ℕ). bit_xor x z) (xor_comm (bit_xor l b) c) ∙ sym (xor_assoc x c (bit_xor l b)) ∙ sym (xor_assoc (bit_xor x c) l b)

pub rolls : (f l c a b : ℕ) → f < 2 ^ 53 → l ≡ leaving_of a → c ≡ carry_of (f / 2 ^ 45)
    → bit_xor (bit_xor (f * 2 ^ 8 % 2 ^ 64) (bit_xor l b)) c ≡ bit_xor (bit_xor (carried_up f) (leaving_of a)) b
rolls f l c a b hf hl hc =
    let e : f * 2 ^ 8 % 2 ^ 64 ≡ f * 2 ^ 8 = omega arith in
    ap (λ (x : ℕ). bit_xor (bit_xor x (bit_xor l b)) c) e
    ∙ reorder (f * 2 ^ 8) l b c
    ∙ ap (λ (x : ℕ). bit_xor (bit_xor x l) b) (ap (λ (x : ℕ). bit_xor (f * 2 ^ 8) x) hc ∙ sym (carried_by f hf))
    ∙ ap (λ (x : ℕ). bit_xor (bit_xor (carried_up f) x) b) hl

pub rolled_lt : (f a b : ℕ) → f < 2 ^ 53 → a < 256 → b < 256 → bit_xor (bit_xor (carried_up f) (leaving_of a)) b < 2 ^ 53
rolled_lt f a b hf ha hb =
    xor_lt 53 (bit_xor (carried_up f) (leaving_of a)) b (xor_lt 53 (carried_up f) (leaving_of a) (carried_lt f hf) (leaving_lt a ha)) (omega arith)

-- ---- two bytes at once
carried_up_low : (b : ℕ) → b < 2 ^ 45 → carried_up b ≡ b * 2 ^ 8
unfolding carried_up
carried_up_low b h = remainder_low 8 (b * 2 ^ 8) (omega arith)

carried_twice : (f : ℕ) → f < 2 ^ 53 → carried_up (carried_up f) ≡ bit_xor (bit_xor (f * 2 ^ 16 % 2 ^ 64) (carry_of (f / 2 ^ 37 % 256))) (carry_two_of (f / 2 ^ 45))
unfolding carry_two_of
carried_twice f h =
    let hi : ℕ = f / 2 ^ 45 in
    let g : ℕ = f % 2 ^ 45 in
    let top : ℕ = hi % 8 * 2 ^ 61 in
    let k : ℕ = carried_up (carried_up (hi * 2 ^ 45)) in
    let c : ℕ = carry_of (f / 2 ^ 37 % 256) in
    let small : g < 2 ^ 45 = omega arith in
    let split : f ≡ bit_xor (hi * 2 ^ 45) g = (let sum : f ≡ hi * 2 ^ 45 + g = omega arith in sum) ∙ shl_low hi 45 g small in
    let middle : g * 2 ^ 8 / 2 ^ 45 ≡ f / 2 ^ 37 % 256 = omega arith in
    let wide : g * 2 ^ 8 * 2 ^ 8 ≡ g * 2 ^ 16 = omega arith in
    let low : carried_up (carried_up g) ≡ bit_xor (g * 2 ^ 16) c =
    ap carried_up (carried_up_low g small) ∙ carried_by (g * 2 ^ 8) (omega arith) ∙ (λ t. bit_xor (wide t) (carry_of (middle t))) in
    let left : carried_up (carried_up f) ≡ bit_xor k (bit_xor (g * 2 ^ 16) c) =
    ap (λ (x : ℕ). carried_up (carried_up x)) split ∙ ap carried_up (carried_up_xor (hi * 2 ^ 45) g)
    ∙ carried_up_xor (carried_up (hi * 2 ^ 45)) (carried_up g) ∙ ap (bit_xor k) low in
    let word : f * 2 ^ 16 % 2 ^ 64 ≡ bit_xor top (g * 2 ^ 16) =
    (let sum : f * 2 ^ 16 % 2 ^ 64 ≡ hi % 8 * 2 ^ 61 + g * 2 ^ 16 = omega arith in sum) ∙ shl_low (hi % 8) 61 (g * 2 ^ 16) (omega arith) in
    let right : bit_xor (bit_xor (f * 2 ^ 16 % 2 ^ 64) c) (bit_xor top k) ≡ bit_xor (bit_xor (g * 2 ^ 16) c) k =
    ap (λ (x : ℕ). bit_xor (bit_xor x c) (bit_xor top k)) word
    ∙ ap (λ (x : ℕ). bit_xor x (bit_xor top k)) (xor_assoc top (g * 2 ^ 16) c)
    ∙ xor_swap top (bit_xor (g * 2 ^ 16) c) top k
    ∙ ap (λ (x : ℕ). bit_xor x (bit_xor (bit_xor (g * 2 ^ 16) c) k)) (xor_self top) ∙ xor_zero_l (bit_xor (bit_xor (g * 2 ^ 16) c) k) in
    left ∙ xor_comm k (bit_xor (g * 2 ^ 16) c) ∙ sym right

-- sums in the order of the code, and in that of two steps
two_orders : (x l b m n c d : ℕ) → bit_xor (bit_xor (bit_xor x (bit_xor (bit_xor l b) (bit_xor m n))) c) d
    ≡ bit_xor (bit_xor (bit_xor (bit_xor (bit_xor (bit_xor x c) d) l) b) m) n
two_orders x l b m n c d =
    let s : ℕ = bit_xor (bit_xor l b) (bit_xor m n) in
    let y : ℕ = bit_xor (bit_xor x c) d in
    let last : bit_xor (bit_xor (bit_xor x s) c) d ≡ bit_xor y s =
    ap (λ (z : ℕ). bit_xor z d) (xor_assoc x s c ∙ ap (bit_xor x) (xor_comm s c) ∙ sym (xor_assoc x c s))
    ∙ xor_assoc (bit_xor x c) s d ∙ ap (bit_xor (bit_xor x c)) (xor_comm s d) ∙ sym (xor_assoc (bit_xor x c) d s) in
    last ∙ sym (xor_assoc y (bit_xor l b) (bit_xor m n)) ∙ sym (xor_assoc (bit_xor y (bit_xor l b)) m n)
    ∙ ap (λ (z : ℕ). bit_xor (bit_xor z m) n) (sym (xor_assoc y l b))

pub rolls_two : (f l l2 c d a b a2 b2 : ℕ) → f < 2 ^ 53 → b < 256 → l ≡ carried_up (leaving_of a) → l2 ≡ leaving_of a2 → c ≡ carry_of (f / 2 ^ 37 % 256) → d ≡ carry_two_of (f / 2 ^ 45)
    → bit_xor (bit_xor (bit_xor (f * 2 ^ 16 % 2 ^ 64) (bit_xor (bit_xor l (b * 2 ^ 8 % 2 ^ 64)) (bit_xor l2 b2))) c) d ≡ rolled_by (rolled_by f a b) a2 b2
rolls_two f l l2 c d a b a2 b2 hf hb hl hl2 hc hd =
    let x : ℕ = f * 2 ^ 16 % 2 ^ 64 in
    let byte : b * 2 ^ 8 % 2 ^ 64 ≡ carried_up b = (let plain : b * 2 ^ 8 % 2 ^ 64 ≡ b * 2 ^ 8 = omega arith in plain) ∙ sym (carried_up_low b (omega arith)) in
    let first : carried_up (rolled_by f a b) ≡ bit_xor (bit_xor (carried_up (carried_up f)) (carried_up (leaving_of a))) (carried_up b) =
    carried_up_xor (bit_xor (carried_up f) (leaving_of a)) b ∙ ap (λ (z : ℕ). bit_xor z (carried_up b)) (carried_up_xor (carried_up f) (leaving_of a)) in
    two_orders x l (b * 2 ^ 8 % 2 ^ 64) l2 b2 c d
    ∙ (λ t. bit_xor (bit_xor (bit_xor (bit_xor (bit_xor (bit_xor x (hc t)) (hd t)) (hl t)) (byte t)) (hl2 t)) b2)
    ∙ ap (λ (z : ℕ). bit_xor (bit_xor (bit_xor (bit_xor z (carried_up (leaving_of a))) (carried_up b)) (leaving_of a2)) b2) (sym (carried_twice f hf))
    ∙ ap (λ (z : ℕ). bit_xor (bit_xor z (leaving_of a2)) b2) (sym first)
