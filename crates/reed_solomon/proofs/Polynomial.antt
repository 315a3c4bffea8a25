-- Polynomials over the field, as functions of degree below k: a constant and x times one of degree below k - 1.
use Rattle.std.proofs.Common.{◌≡◌, ◌≢◌, ℕ, zero, suc, ◌+◌, ◌<◌, ◌≤◌, refl, sym, ap, ◌∙◌, bit_xor, arith, subst, List, [], ◌∷◌, length, lit<, All, get_or}
use Rattle.std.specs.Int.Bits.{xor_assoc, xor_self, xor_zero_l, xor_zero_r}
use Rattle.std.proofs.lemmas.Nat.{xor_comm, xor_of_8}
use Rattle.gf256.specs.Field.{product}
use Rattle.reed_solomon.specs.Dispersal.{value_at}
use Rattle.reed_solomon.specs.Interpolation.{ArePoints}
use Rattle.gf256.proofs.Bilinear.{product_left, product_right, xor_swap}
use Rattle.gf256.proofs.Laws.{product_lt, product_comm, product_assoc, product_zero, cancel_zero, eq-from_xor}

-- f is a polynomial of degree below k
abbrev pub IsPoly : ℕ → (ℕ → ℕ) → Type 0
IsPoly zero f = (x : ℕ) → f x ≡ 0
IsPoly (suc k) f = (c : ℕ) × ((g : ℕ → ℕ) × ((c < 256) × IsPoly k g × ((x : ℕ) → f x ≡ bit_xor c (product x (g x)))))

pub product_zero_r : (a : ℕ) → product a 0 ≡ 0
product_zero_r a = product_comm a 0 ∙ product_zero a

pub poly_lt : (k : ℕ) (f : ℕ → ℕ) → IsPoly k f → (x : ℕ) → f x < 256
poly_lt zero f h x = let e : f x ≡ 0 = h x in omega arith
poly_lt (suc k) f (c, (g, h)) x =
    let e : f x ≡ bit_xor c (product x (g x)) = h.2 x in
    rw e (xor_of_8 c (product x (g x)) h.0 (product_lt x (g x)))

-- c + x (r + (x + a) h) = (c + a r) + (x + a) (r + x h)
factor_step : (a c r h x : ℕ)
    → bit_xor c (product x (bit_xor r (product (bit_xor x a) h)))
    ≡ bit_xor (bit_xor c (product a r)) (product (bit_xor x a) (bit_xor r (product x h)))
factor_step a c r h x =
    let l : product x (bit_xor r (product (bit_xor x a) h)) ≡ bit_xor (product x r) (product (bit_xor x a) (product x h)) =
    product_right x r (product (bit_xor x a) h)
    ∙ ap (λ (z : ℕ). bit_xor (product x r) z) (sym (product_assoc x (bit_xor x a) h) ∙ ap (λ (z : ℕ). product z h) (product_comm x (bit_xor x a)) ∙ product_assoc (bit_xor x a) x h) in
    let q : ℕ = product (bit_xor x a) (product x h) in
    let m : product (bit_xor x a) (bit_xor r (product x h)) ≡ bit_xor (bit_xor (product x r) (product a r)) q =
    product_right (bit_xor x a) r (product x h) ∙ ap (λ (z : ℕ). bit_xor z q) (product_left x a r) in
    let ar : ℕ = product a r in
    let xr : ℕ = product x r in
    let n : bit_xor (bit_xor c ar) (bit_xor (bit_xor xr ar) q) ≡ bit_xor c (bit_xor xr q) =
    ap (λ (z : ℕ). bit_xor (bit_xor c ar) (bit_xor z q)) (xor_comm xr ar)
    ∙ ap (λ (z : ℕ). bit_xor (bit_xor c ar) z) (xor_assoc ar xr q)
    ∙ xor_assoc c ar (bit_xor ar (bit_xor xr q))
    ∙ ap (λ (z : ℕ). bit_xor c z) (sym (xor_assoc ar ar (bit_xor xr q)) ∙ ap (λ (z : ℕ). bit_xor z (bit_xor xr q)) (xor_self ar)) in
    rw (l, m) (sym n)

-- the factor theorem
pub factor : (k : ℕ) (f : ℕ → ℕ) → IsPoly (suc k) f → (a : ℕ)
    → (q : ℕ → ℕ) × (IsPoly k q × ((x : ℕ) → f x ≡ bit_xor (f a) (product (bit_xor x a) (q x))))
factor zero f (c, (g, h)) a = (
  λ x. 0,
  (
    λ x. refl,
    λ x.
        let fx : f x ≡ c = h.2 x ∙ ap (λ (z : ℕ). bit_xor c (product x z)) (h.1 x) ∙ ap (λ (z : ℕ). bit_xor c z) (product_zero_r x) ∙ xor_zero_r c in
        let fa : f a ≡ c = h.2 a ∙ ap (λ (z : ℕ). bit_xor c (product a z)) (h.1 a) ∙ ap (λ (z : ℕ). bit_xor c z) (product_zero_r a) ∙ xor_zero_r c in
        rw (fx, fa, product_zero_r (bit_xor x a), xor_zero_r c) refl,
  ),
)
factor (suc k) f (c, (g, h)) a =
    let (q, (hq, eq)) = factor k g h.1 a in (
      λ x. bit_xor (g a) (product x (q x)),
      (
        (g a, (q, (poly_lt (suc k) g h.1 a, hq, λ x. refl))),
        λ x. rw (h.2 x, h.2 a, eq x) (factor_step a c (g a) (q x) x),
      ),
    )

pub points_fewer : (k : ℕ) (p : ℕ → ℕ) → ArePoints (suc k) p → ArePoints k p
points_fewer k p h = record {
  bytes = λ i l. h.bytes i (omega arith);
  apart = λ i j l m. h.apart i j l (omega arith);
}

-- a polynomial of degree below k with k zeros is zero
pub vanishes : (k : ℕ) (f : ℕ → ℕ) (p : ℕ → ℕ) → IsPoly k f → ArePoints k p → ((i : ℕ) → i < k → f (p i) ≡ 0) → (y : ℕ) → f y ≡ 0
vanishes zero f p h hp z y = h y
vanishes (suc k) f p h hp z y =
    let (q, (hq, e)) = factor k f h (p k) in
    let fk : f (p k) ≡ 0 = z k (omega arith) in
    let split : (x : ℕ) → f x ≡ product (bit_xor x (p k)) (q x) = λ x. e x ∙ ap (λ (w : ℕ). bit_xor w (product (bit_xor x (p k)) (q x))) fk ∙ xor_zero_l (product (bit_xor x (p k)) (q x)) in
    let zq : (i : ℕ) → i < k → q (p i) ≡ 0 = λ i l.
    cancel_zero (bit_xor (p i) (p k)) (q (p i))
    (xor_of_8 (p i) (p k) (hp.bytes i (omega arith)) (hp.bytes k (omega arith)))
    (poly_lt k q hq (p i))
    (λ w. hp.apart i k l (omega arith) (eq-from_xor (p i) (p k) w))
    (sym (split (p i)) ∙ z i (omega arith)) in
    let qy : q y ≡ 0 = vanishes k q p hq (points_fewer k p hp) zq y in
    split y ∙ ap (λ (w : ℕ). product (bit_xor y (p k)) w) qy ∙ product_zero_r (bit_xor y (p k))

-- ---- polynomials from polynomials
pub poly_add : (k : ℕ) (f g : ℕ → ℕ) → IsPoly k f → IsPoly k g → IsPoly k (λ x. bit_xor (f x) (g x))
poly_add zero f g hf hg = λ x. rw (hf x, hg x) refl
poly_add (suc k) f g (c, (u, hu)) (d, (v, hv)) = (
  bit_xor c d,
  (
    λ x. bit_xor (u x) (v x),
    (
      xor_of_8 c d hu.0 hv.0,
      poly_add k u v hu.1 hv.1,
      λ x.
          rw (hu.2 x, hv.2 x, product_right x (u x) (v x)) (xor_swap c (product x (u x)) d (product x (v x))),
    ),
  ),
)

pub poly_scale : (k : ℕ) (f : ℕ → ℕ) (a : ℕ) → IsPoly k f → IsPoly k (λ x. product a (f x))
poly_scale zero f a h = λ x. rw (h x) (product_zero_r a)
poly_scale (suc k) f a (c, (g, h)) = (
  product a c,
  (
    λ x. product a (g x),
    (
      product_lt a c,
      poly_scale k g a h.1,
      λ x.
          rw (h.2 x, product_right a c (product x (g x)))
          (ap (λ (z : ℕ). bit_xor (product a c) z) (sym (product_assoc a x (g x)) ∙ ap (λ (z : ℕ). product z (g x)) (product_comm a x) ∙ product_assoc x a (g x))),
    ),
  ),
)

pub poly_zero : (k : ℕ) → IsPoly k (λ x. 0)
poly_zero zero = λ x. refl
poly_zero (suc k) = (0, (λ x. 0, (lit< tt, poly_zero k, λ x. sym (xor_zero_l (product x 0) ∙ product_zero_r x))))

pub poly_constant : (k c : ℕ) → c < 256 → IsPoly (suc k) (λ x. c)
poly_constant k c h = (c, (λ x. 0, (h, poly_zero k, λ x. sym (ap (λ (z : ℕ). bit_xor c z) (product_zero_r x) ∙ xor_zero_r c))))

pub poly_more : (k : ℕ) (f : ℕ → ℕ) → IsPoly k f → IsPoly (suc k) f
poly_more zero f h = (0, (λ x. 0, (lit< tt, λ x. refl, λ x. h x ∙ sym (xor_zero_l (product x 0) ∙ product_zero_r x))))
poly_more (suc k) f (c, (g, h)) = (c, (g, (h.0, poly_more k g h.1, h.2)))

pub poly_same : (k : ℕ) (f g : ℕ → ℕ) → ((x : ℕ) → f x ≡ g x) → IsPoly k f → IsPoly k g
poly_same zero f g e h = λ x. sym (e x) ∙ h x
poly_same (suc k) f g e (c, (u, h)) = (c, (u, (h.0, h.1, λ x. sym (e x) ∙ h.2 x)))

-- times x + a
pub poly_times : (k : ℕ) (f : ℕ → ℕ) (a : ℕ) → IsPoly k f → IsPoly (suc k) (λ x. product (bit_xor x a) (f x))
poly_times k f a h =
    let shifted : IsPoly (suc k) (λ x. product x (f x)) = (0, (f, (lit< tt, h, λ x. sym (xor_zero_l (product x (f x)))))) in
    let scaled : IsPoly (suc k) (λ x. product a (f x)) = poly_more k (λ x. product a (f x)) (poly_scale k f a h) in
    poly_same (suc k) (λ x. bit_xor (product x (f x)) (product a (f x))) (λ x. product (bit_xor x a) (f x))
    (λ x. sym (product_left x a (f x))) (poly_add (suc k) (λ x. product x (f x)) (λ x. product a (f x)) shifted scaled)

-- ---- polynomials by their coefficients
all_tail : (c : ℕ) (cs : List ℕ) → All (λ b. b < 256) (c ∷ cs) → All (λ b. b < 256) cs
all_tail c cs h = λ k d l. h (suc k) d (omega arith)

all_more : (c : ℕ) (cs : List ℕ) → c < 256 → ((k d : ℕ) → k < length cs → get_or cs k d < 256) → (k d : ℕ) → k < suc (length cs) → get_or (c ∷ cs) k d < 256
all_more c cs hc h zero d l = hc
all_more c cs hc h (suc k) d l = h k d (omega arith)

pub poly_from_list : (cs : List ℕ) → All (λ b. b < 256) cs → IsPoly (length cs) (value_at cs)
poly_from_list [] h = λ x. refl
poly_from_list (c ∷ cs) h = (c, (value_at cs, (h 0 0 (omega arith), poly_from_list cs (all_tail c cs h), λ x. refl)))

pub poly_to_list : (k : ℕ) (f : ℕ → ℕ) → IsPoly k f → (cs : List ℕ) × ((length cs ≡ k) × All (λ b. b < 256) cs × ((x : ℕ) → f x ≡ value_at cs x))
poly_to_list zero f h = ([], (refl, λ k d l. absurd (omega arith), h))
poly_to_list (suc k) f (c, (g, h)) =
    let (cs, r) = poly_to_list k g h.1 in
    (c ∷ cs, (ap suc r.0, all_more c cs h.0 r.1, λ x. h.2 x ∙ ap (λ (z : ℕ). bit_xor c (product x z)) (r.2 x)))

-- ---- polynomials of the same values are the same
difference_poly : (f g : List ℕ) → length f ≡ length g → All (λ b. b < 256) f → All (λ b. b < 256) g → IsPoly (length f) (λ y. bit_xor (value_at f y) (value_at g y))
difference_poly f g long bf bg =
    poly_add (length f) (value_at f) (value_at g) (poly_from_list f bf) (subst (λ (k : ℕ). IsPoly k (value_at g)) (sym long) (poly_from_list g bg))

-- two with as many coefficients as points at which they agree, agree everywhere
pub agree_everywhere : (f g : List ℕ) (p : ℕ → ℕ) → length f ≡ length g → All (λ b. b < 256) f → All (λ b. b < 256) g → ArePoints (length f) p
    → ((i : ℕ) → i < length f → value_at f (p i) ≡ value_at g (p i)) → (y : ℕ) → value_at f y ≡ value_at g y
agree_everywhere f g p long bf bg hp h y =
    eq-from_xor (value_at f y) (value_at g y)
    (vanishes (length f) (λ y. bit_xor (value_at f y) (value_at g y)) p (difference_poly f g long bf bg) hp
    (λ i l. ap (λ (z : ℕ). bit_xor z (value_at g (p i))) (h i l) ∙ xor_self (value_at g (p i))) y)

value_at_zero : (c : ℕ) (cs : List ℕ) → value_at (c ∷ cs) 0 ≡ c
value_at_zero c cs = ap (λ (z : ℕ). bit_xor c z) (product_zero (value_at cs 0)) ∙ xor_zero_r c

-- c + x y = c + x z, so y = z
cancel_times : (c x y z : ℕ) → x < 256 → x ≢ 0 → y < 256 → z < 256 → bit_xor c (product x y) ≡ bit_xor c (product x z) → y ≡ z
cancel_times c x y z hx nx hy hz e =
    let drop_c : (w : ℕ) → bit_xor c (bit_xor c w) ≡ w = λ w. sym (xor_assoc c c w) ∙ ap (λ (v : ℕ). bit_xor v w) (xor_self c) ∙ xor_zero_l w in
    let same : product x y ≡ product x z = sym (drop_c (product x y)) ∙ ap (λ (v : ℕ). bit_xor c v) e ∙ drop_c (product x z) in
    eq-from_xor y z (cancel_zero x (bit_xor y z) hx (xor_of_8 y z hy hz) nx
    (product_right x y z ∙ ap (λ (v : ℕ). bit_xor v (product x z)) same ∙ xor_self (product x z)))

value_lt : (cs : List ℕ) → All (λ b. b < 256) cs → (x : ℕ) → value_at cs x < 256
value_lt cs h x = poly_lt (length cs) (value_at cs) (poly_from_list cs h) x

pub same_coefficients : (f g : List ℕ) → length f ≡ length g → length f ≤ 256 → All (λ b. b < 256) f → All (λ b. b < 256) g
    → ((y : ℕ) → value_at f y ≡ value_at g y) → f ≡ g
same_coefficients [] [] long few bf bg h = refl
same_coefficients [] (d ∷ ds) long few bf bg h = absurd (omega arith)
same_coefficients (c ∷ cs) [] long few bf bg h = absurd (omega arith)
same_coefficients (c ∷ cs) (d ∷ ds) long few bf bg h =
    let first : c ≡ d = sym (value_at_zero c cs) ∙ h 0 ∙ value_at_zero d ds in
    let rest : length cs ≡ length ds = omega arith in
    let bc : All (λ b. b < 256) cs = all_tail c cs bf in
    let bd : All (λ b. b < 256) ds = all_tail d ds bg in
    let after_zero : ArePoints (length cs) (λ t. t + 1) = record { bytes = λ i l. omega arith; apart = λ i j l m. λ e. omega arith } in
    let at : (i : ℕ) → i < length cs → value_at cs (i + 1) ≡ value_at ds (i + 1) = λ i l.
    cancel_times c (i + 1) (value_at cs (i + 1)) (value_at ds (i + 1)) (omega arith) (λ e. omega arith)
    (value_lt cs bc (i + 1)) (value_lt ds bd (i + 1))
    (h (i + 1) ∙ ap (λ (z : ℕ). bit_xor z (product (i + 1) (value_at ds (i + 1)))) (sym first)) in
    let tails : cs ≡ ds = same_coefficients cs ds rest (omega arith) bc bd (agree_everywhere cs ds (λ t. t + 1) rest bc bd after_zero at) in
    ap (λ (z : ℕ). z ∷ cs) first ∙ ap (λ (z : List ℕ). d ∷ z) tails
