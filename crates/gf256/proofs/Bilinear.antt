-- The product is linear over `bit_xor` in each argument, so its laws follow from those on the powers of two.
use Rattle.std.proofs.Common.{◌≡◌, ℕ, zero, suc, ◌+◌, ◌*◌, ◌/◌, ◌%◌, ◌^◌, ◌<◌, refl, sym, ap, ◌∙◌, bit_xor, arith, Bool, true, false, ◌&&◌, pow_pos, pow-suc, div-lt_iff_lt-mul, inl, inr}
use Rattle.std.proofs.lemmas.Bool.{cases_lt}
use Rattle.std.specs.Int.{bit_at}
use Rattle.std.specs.Int.Bits.{xor_assoc, xor_self, xor_zero_l, xor_zero_r}
use Rattle.std.proofs.lemmas.Nat.{xor_comm, xor_block, xor_mod, mod_below}
use Rattle.std.proofs.lemmas.Nat.Bits.{bit_at_xor, bit_at-lt}
use Rattle.gf256.specs.Field.{product, carryless, remainder}

pub xor_swap : (a b c d : ℕ) → bit_xor (bit_xor a b) (bit_xor c d) ≡ bit_xor (bit_xor a c) (bit_xor b d)
xor_swap a b c d =
    xor_assoc a b (bit_xor c d)
    ∙ ap (λ (x : ℕ). bit_xor a x) (sym (xor_assoc b c d) ∙ ap (λ (x : ℕ). bit_xor x d) (xor_comm b c) ∙ xor_assoc c b d)
    ∙ sym (xor_assoc a c (bit_xor b d))

-- a bit times a number
bit_term_add : (u v x : ℕ) → u < 2 → v < 2 → (u + v) % 2 * x ≡ bit_xor (u * x) (v * x)
bit_term_add zero zero x p q = grind (arith, xor_self, xor_zero_l, xor_zero_r)
bit_term_add zero (suc zero) x p q = grind (arith, xor_self, xor_zero_l, xor_zero_r)
bit_term_add (suc zero) zero x p q = grind (arith, xor_self, xor_zero_l, xor_zero_r)
bit_term_add (suc zero) (suc zero) x p q = grind (arith, xor_self, xor_zero_l, xor_zero_r)
bit_term_add (suc (suc u)) v x p q = absurd (omega arith)
bit_term_add u (suc (suc v)) x p q = absurd (omega arith)

bit_term_xor : (u x y : ℕ) → u < 2 → u * bit_xor x y ≡ bit_xor (u * x) (u * y)
bit_term_xor zero x y p = grind (arith, xor_self)
bit_term_xor (suc zero) x y p = grind arith
bit_term_xor (suc (suc u)) x y p = absurd (omega arith)

shl_xor : (a b n : ℕ) → bit_xor a b * 2 ^ n ≡ bit_xor (a * 2 ^ n) (b * 2 ^ n)
shl_xor a b n =
    let h : 0 < 2 ^ n = pow_pos n in
    grind (arith, xor_block n a b 0 0 h h)

-- ---- linear in each argument
carryless_right : (n a b c : ℕ) → carryless n a (bit_xor b c) ≡ bit_xor (carryless n a b) (carryless n a c)
unfolding carryless
carryless_right zero a b c = refl
carryless_right (suc n) a b c =
    rw (carryless_right n a b c, bit_at_xor b c n, bit_term_add (bit_at b n) (bit_at c n) (a * 2 ^ n) (bit_at-lt b n) (bit_at-lt c n))
    (xor_swap (carryless n a b) (carryless n a c) (bit_at b n * (a * 2 ^ n)) (bit_at c n * (a * 2 ^ n)))

carryless_left : (n a b c : ℕ) → carryless n (bit_xor a b) c ≡ bit_xor (carryless n a c) (carryless n b c)
unfolding carryless
carryless_left zero a b c = refl
carryless_left (suc n) a b c =
    rw (carryless_left n a b c, shl_xor a b n, bit_term_xor (bit_at c n) (a * 2 ^ n) (b * 2 ^ n) (bit_at-lt c n))
    (xor_swap (carryless n a c) (carryless n b c) (bit_at c n * (a * 2 ^ n)) (bit_at c n * (b * 2 ^ n)))

remainder_xor : (n p q : ℕ) → remainder n (bit_xor p q) ≡ bit_xor (remainder n p) (remainder n q)
unfolding remainder
remainder_xor zero p q = refl
remainder_xor (suc n) p q =
    let t : ℕ = 0x11B * 2 ^ n in
    rw (
      bit_at_xor p q (n + 8),
      bit_term_add (bit_at p (n + 8)) (bit_at q (n + 8)) t (bit_at-lt p (n + 8)) (bit_at-lt q (n + 8)),
      xor_swap p q (bit_at p (n + 8) * t) (bit_at q (n + 8) * t),
    )
    (remainder_xor n (bit_xor p (bit_at p (n + 8) * t)) (bit_xor q (bit_at q (n + 8) * t)))

pub product_left : (a b c : ℕ) → product (bit_xor a b) c ≡ bit_xor (product a c) (product b c)
unfolding product
product_left a b c =
    rw (xor_mod a b 8, carryless_left 8 (a % 256) (b % 256) (c % 256)) (remainder_xor 7 (carryless 8 (a % 256) (c % 256)) (carryless 8 (b % 256) (c % 256)))

pub product_right : (a b c : ℕ) → product a (bit_xor b c) ≡ bit_xor (product a b) (product a c)
unfolding product
product_right a b c =
    rw (xor_mod b c 8, carryless_right 8 (a % 256) (b % 256) (c % 256)) (remainder_xor 7 (carryless 8 (a % 256) (b % 256)) (carryless 8 (a % 256) (c % 256)))

-- ---- linear functions that agree on the powers of two agree on all bytes
abbrev pub IsLinear : (ℕ → ℕ) → Type 0
IsLinear f = (x y : ℕ) → f (bit_xor x y) ≡ bit_xor (f x) (f y)

linear-zero : (f : ℕ → ℕ) → IsLinear f → f 0 ≡ 0
linear-zero f h = h 0 0 ∙ xor_self (f 0)

pub split_top : (n x : ℕ) → x ≡ bit_xor (x / 2 ^ n * 2 ^ n) (x % 2 ^ n)
split_top n x =
    let h : 0 < 2 ^ n = pow_pos n in
    grind (arith, xor_block n (x / 2 ^ n) 0 0 (x % 2 ^ n) h (omega arith), xor_zero_r, xor_zero_l)

below_zero : (x : ℕ) → x < 1 → x ≡ 0
below_zero x h = omega arith

agree_top : (f g : ℕ → ℕ) (q p r x : ℕ) → q < 2 → f 0 ≡ 0 → g 0 ≡ 0 → IsLinear f → IsLinear g → f p ≡ g p → f r ≡ g r
    → x ≡ bit_xor (q * p) r → f x ≡ g x
agree_top f g zero p r x hq f0 g0 hf hg ep er ex =
    let e : x ≡ r = grind (arith, xor_zero_l) in
    rw e er
agree_top f g (suc zero) p r x hq f0 g0 hf hg ep er ex =
    let e : x ≡ bit_xor p r = grind arith in
    rw (e, hf p r, hg p r, ep, er) refl
agree_top f g (suc (suc q)) p r x hq f0 g0 hf hg ep er ex = absurd (omega arith)

agree_below : (f g : ℕ → ℕ) → IsLinear f → IsLinear g → (n : ℕ) → ((i : ℕ) → i < n → f (2 ^ i) ≡ g (2 ^ i))
    → (x : ℕ) → x < 2 ^ n → f x ≡ g x
agree_below f g hf hg zero h x hx =
    let e : x ≡ 0 = omega arith in
    rw e (linear-zero f hf ∙ sym (linear-zero g hg))
agree_below f g hf hg (suc n) h x hx =
    let hp : 0 < 2 ^ n = pow_pos n in
    let hq : x / 2 ^ n < 2 = grind (arith, div-lt_iff_lt-mul, pow-suc) in
    let hr : x % 2 ^ n < 2 ^ n = mod_below x (2 ^ n) hp in
    agree_top f g (x / 2 ^ n) (2 ^ n) (x % 2 ^ n) x hq (linear-zero f hf) (linear-zero g hg) hf hg (h n (omega arith))
    (agree_below f g hf hg n (λ i p. h i (omega arith)) (x % 2 ^ n) hr) (split_top n x)

pub agree : (f g : ℕ → ℕ) → IsLinear f → IsLinear g → ((i : ℕ) → i < 8 → f (2 ^ i) ≡ g (2 ^ i)) → (x : ℕ) → x < 256 → f x ≡ g x
agree f g hf hg h x hx = agree_below f g hf hg 8 h x hx

-- a test that holds below n, computed
abbrev pub all_to : ℕ → (ℕ → Bool) → Bool
all_to zero p = true
all_to (suc n) p = p n && all_to n p

pub and_first : (p q : Bool) → (p && q) ≡ true → p ≡ true
and_first true q h = refl
and_first false q h = cc

pub and_second : (p q : Bool) → (p && q) ≡ true → q ≡ true
and_second true q h = h
and_second false q h = cc

pub from_all_to : (n : ℕ) (p : ℕ → Bool) → all_to n p ≡ true → (k : ℕ) → k < n → p k ≡ true
from_all_to zero p h k hk = absurd (omega arith)
from_all_to (suc n) p h k hk = elim (cases_lt k n) [
  | inl l ↦ from_all_to n p (and_second (p n) (all_to n p) h) k l
  | inr m ↦ let e : k ≡ n = omega arith in rw e (and_first (p n) (all_to n p) h)
]
