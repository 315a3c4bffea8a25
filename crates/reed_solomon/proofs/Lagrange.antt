-- Lagrange's interpolation: a polynomial of degree below k from its values at k points.
use Rattle.std.proofs.Common.{◌≡◌, ◌≢◌, ℕ, zero, suc, ◌+◌, ◌*◌, ◌<◌, ◌≤◌, refl, sym, ap, ◌∙◌, bit_xor, arith, lit<, add-one, List, length, slice_index, inl, inr, ◌⊎◌}
use Rattle.std.specs.Int.Bits.{xor_self, xor_zero_l, xor_zero_r}
use Rattle.std.proofs.lemmas.Nat.{xor_of_8}
use Rattle.std.proofs.lemmas.Bool.{cases_lt}
use Rattle.std.proofs.lemmas.Bool.Decides.{eqb_tells}
use Rattle.gf256.specs.Field.{product, inverse}
use Rattle.reed_solomon.specs.Interpolation.{numerator, weight, combine, interpolant, column_sum, column_value, ArePoints}
use Rattle.gf256.proofs.Laws.{product_lt, product_comm, product_zero, product_one, product_inverse, inverse_only, cancel_zero, eq-from_xor}
use Rattle.reed_solomon.proofs.Polynomial.{IsPoly, product_zero_r, poly_lt, vanishes, poly_add, poly_scale, poly_zero, poly_constant, poly_same, poly_times}

-- ---- the numerator
pub numerator_skip : (p : ℕ → ℕ) (t n y : ℕ) → n ≡ t → numerator p t (suc n) y ≡ numerator p t n y
unfolding numerator
numerator_skip p t n y e = elim (eqb_tells n t) [ inl h ↦ rw h.0 refl | inr h ↦ absurd (h.1 e) ]

pub numerator_take : (p : ℕ → ℕ) (t n y : ℕ) → n ≢ t → numerator p t (suc n) y ≡ product (bit_xor y (p n)) (numerator p t n y)
unfolding numerator
numerator_take p t n y e = elim (eqb_tells n t) [ inl h ↦ absurd (e h.1) | inr h ↦ rw h.0 refl ]

cases_same : (a b : ℕ) → (a ≡ b) ⊎ (a ≢ b)
cases_same a b = elim (eqb_tells a b) [ inl h ↦ inl h.1 | inr h ↦ inr h.1 ]

pub numerator_lt : (p : ℕ → ℕ) (t n y : ℕ) → numerator p t n y < 256
unfolding numerator
numerator_lt p t zero y = lit< tt
numerator_lt p t (suc n) y = elim (cases_same n t) [
  | inl e ↦ rw (numerator_skip p t n y e) (numerator_lt p t n y)
  | inr e ↦ rw (numerator_take p t n y e) (product_lt (bit_xor y (p n)) (numerator p t n y))
]

numerator_outside : (p : ℕ → ℕ) (t n : ℕ) → n ≤ t → IsPoly (suc n) (numerator p t n)
unfolding numerator
numerator_outside p t zero h = poly_constant 0 1 (lit< tt)
numerator_outside p t (suc n) h =
    poly_same (suc (suc n)) (λ y. product (bit_xor y (p n)) (numerator p t n y)) (numerator p t (suc n))
    (λ y. sym (numerator_take p t n y (omega arith)))
    (poly_times (suc n) (numerator p t n) (p n) (numerator_outside p t n (omega arith)))

numerator_inside : (p : ℕ → ℕ) (t n : ℕ) → t < n → IsPoly n (numerator p t n)
numerator_inside p t zero h = absurd (omega arith)
numerator_inside p t (suc n) h = elim (cases_same n t) [
  | inl e ↦ poly_same (suc n) (numerator p t n) (numerator p t (suc n)) (λ y. sym (numerator_skip p t n y e)) (numerator_outside p t n (omega arith))
  | inr e ↦ poly_same (suc n) (λ y. product (bit_xor y (p n)) (numerator p t n y)) (numerator p t (suc n))
      (λ y. sym (numerator_take p t n y e))
      (poly_times n (numerator p t n) (p n) (numerator_inside p t n (omega arith)))
]

numerator_zero : (p : ℕ → ℕ) (t n i : ℕ) → i < n → i ≢ t → numerator p t n (p i) ≡ 0
numerator_zero p t zero i h e = absurd (omega arith)
numerator_zero p t (suc n) i h e = elim (cases_same n t) [
  | inl s ↦ numerator_skip p t n (p i) s ∙ numerator_zero p t n i (omega arith) e
  | inr s ↦ numerator_take p t n (p i) s ∙ elim (cases_same i n) [
    | inl w ↦ ap (λ (z : ℕ). product z (numerator p t n (p i))) (ap (λ (z : ℕ). bit_xor (p z) (p n)) w ∙ xor_self (p n)) ∙ product_zero (numerator p t n (p i))
    | inr w ↦ ap (λ (z : ℕ). product (bit_xor (p i) (p n)) z) (numerator_zero p t n i (omega arith) e) ∙ product_zero_r (bit_xor (p i) (p n))
  ]
]

points_apart : (k : ℕ) (p : ℕ → ℕ) → ArePoints k p → (i j : ℕ) → i < k → j < k → i ≢ j → p i ≢ p j
points_apart k p h i j hi hj e = elim (cases_lt i j) [
  | inl l ↦ h.apart i j l hj
  | inr m ↦ λ w. h.apart j i (omega arith) hi (sym w)
]

pub numerator_own : (k : ℕ) (p : ℕ → ℕ) (t : ℕ) → ArePoints k p → t < k → (n : ℕ) → n ≤ k → numerator p t n (p t) ≢ 0
unfolding numerator
numerator_own k p t h ht zero hn = λ e. omega arith
numerator_own k p t h ht (suc n) hn = elim (cases_same n t) [
  | inl e ↦ λ w. numerator_own k p t h ht n (omega arith) (sym (numerator_skip p t n (p t) e) ∙ w)
  | inr e ↦ λ w. numerator_own k p t h ht n (omega arith)
      (cancel_zero (bit_xor (p t) (p n)) (numerator p t n (p t))
      (xor_of_8 (p t) (p n) (h.bytes t ht) (h.bytes n (omega arith))) (numerator_lt p t n (p t))
      (λ z. points_apart k p h t n ht (omega arith) (λ s. e (sym s)) (eq-from_xor (p t) (p n) z))
      (sym (numerator_take p t n (p t) e) ∙ w))
]

-- ---- the weights
weight_own : (k : ℕ) (p : ℕ → ℕ) (t : ℕ) → ArePoints k p → t < k → weight p k t (p t) ≡ 1
unfolding weight
weight_own k p t h ht =
    product_comm (inverse (numerator p t k (p t))) (numerator p t k (p t))
    ∙ product_inverse (numerator p t k (p t)) (numerator_lt p t k (p t)) (numerator_own k p t h ht k (omega arith))

weight_other : (k : ℕ) (p : ℕ → ℕ) (t i : ℕ) → i < k → i ≢ t → weight p k t (p i) ≡ 0
unfolding weight
weight_other k p t i hi e =
    ap (λ (z : ℕ). product (inverse (numerator p t k (p t))) z) (numerator_zero p t k i hi e) ∙ product_zero_r (inverse (numerator p t k (p t)))

weight_poly : (k : ℕ) (p : ℕ → ℕ) (t : ℕ) → t < k → IsPoly k (weight p k t)
unfolding weight
weight_poly k p t ht = poly_scale k (numerator p t k) (inverse (numerator p t k (p t))) (numerator_inside p t k ht)

-- ---- sums
pub combine_same : (w v u : ℕ → ℕ) (n : ℕ) → ((t : ℕ) → t < n → v t ≡ u t) → combine w v n ≡ combine w u n
unfolding combine
combine_same w v u zero h = refl
combine_same w v u (suc n) h = rw (h n (omega arith), combine_same w v u n (λ t l. h t (omega arith))) refl

combine_poly : (k : ℕ) (W : ℕ → ℕ → ℕ) (v : ℕ → ℕ) (n : ℕ) → ((t : ℕ) → t < n → IsPoly k (W t)) → IsPoly k (λ y. combine (λ t. W t y) v n)
unfolding combine
combine_poly k W v zero h = poly_zero k
combine_poly k W v (suc n) h =
    let here : IsPoly k (λ y. product (W n y) (v n)) =
    poly_same k (λ y. product (v n) (W n y)) (λ y. product (W n y) (v n)) (λ y. product_comm (v n) (W n y))
    (poly_scale k (W n) (v n) (h n (omega arith))) in
    poly_add k (λ y. combine (λ t. W t y) v n) (λ y. product (W n y) (v n)) (combine_poly k W v n (λ t l. h t (omega arith))) here

combine_none : (w v : ℕ → ℕ) (n : ℕ) → ((t : ℕ) → t < n → w t ≡ 0) → combine w v n ≡ 0
unfolding combine
combine_none w v zero h = refl
combine_none w v (suc n) h =
    rw (combine_none w v n (λ t l. h t (omega arith)), h n (omega arith), product_zero (v n)) refl

combine_one : (w v : ℕ → ℕ) (n i : ℕ) → i < n → w i ≡ 1 → v i < 256 → ((t : ℕ) → t < n → t ≢ i → w t ≡ 0) → combine w v n ≡ v i
unfolding combine
combine_one w v zero i hi e b h = absurd (omega arith)
combine_one w v (suc n) i hi e b h = elim (cases_same n i) [
  | inl s ↦
      let rest : combine w v n ≡ 0 = combine_none w v n (λ t l. h t (omega arith) (omega arith)) in
      rw (s, e, product_one (v i) b) (ap (λ (z : ℕ). bit_xor z (v i)) (rw s at rest) ∙ xor_zero_l (v i))
  | inr s ↦
      let last : product (w n) (v n) ≡ 0 = ap (λ (z : ℕ). product z (v n)) (h n (omega arith) s) ∙ product_zero (v n) in
      rw (last, combine_one w v n i (omega arith) e b (λ t l. h t (omega arith))) (xor_zero_r (v i))
]

-- ---- the interpolant
pub interpolant_poly : (k : ℕ) (p v : ℕ → ℕ) → IsPoly k (interpolant p v k)
unfolding interpolant
interpolant_poly k p v = combine_poly k (weight p k) v k (λ t ht. weight_poly k p t ht)

pub interpolant_at : (k : ℕ) (p v : ℕ → ℕ) → ArePoints k p → (i : ℕ) → i < k → v i < 256 → interpolant p v k (p i) ≡ v i
unfolding interpolant
interpolant_at k p v h i hi b =
    combine_one (λ t. weight p k t (p i)) v k i hi (weight_own k p i h hi) b (λ t ht e. weight_other k p t i hi (λ s. e (sym s)))

-- a polynomial of degree below k is its own interpolant
pub recovers : (k : ℕ) (f p : ℕ → ℕ) → IsPoly k f → ArePoints k p → (y : ℕ) → interpolant p (λ t. f (p t)) k y ≡ f y
recovers k f p hf hp y =
    let v : ℕ → ℕ = λ t. f (p t) in
    let difference : IsPoly k (λ x. bit_xor (interpolant p v k x) (f x)) =
    poly_add k (interpolant p v k) f (interpolant_poly k p v) hf in
    eq-from_xor (interpolant p v k y) (f y)
    (vanishes k (λ x. bit_xor (interpolant p v k x) (f x)) p difference hp
    (λ i hi. ap (λ (z : ℕ). bit_xor z (f (p i))) (interpolant_at k p v hp i hi (poly_lt k f hf (p i))) ∙ xor_self (f (p i))) y)

-- ---- step by step
pub numerator_none : (p : ℕ → ℕ) (t y : ℕ) → numerator p t 0 y ≡ 1
unfolding numerator
numerator_none p t y = refl

pub combine_nothing : (w v : ℕ → ℕ) → combine w v 0 ≡ 0
unfolding combine
combine_nothing w v = refl

pub combine_next : (w v : ℕ → ℕ) (n : ℕ) → combine w v (n + 1) ≡ bit_xor (combine w v n) (product (w n) (v n))
unfolding combine
combine_next w v n = rw add-one refl

pub weight_from : (p : ℕ → ℕ) (k t y a r : ℕ) → ArePoints k p → t < k → a < 256 → product (numerator p t k (p t)) a ≡ 1
    → r ≡ product a (numerator p t k y) → r ≡ weight p k t y
unfolding weight
weight_from p k t y a r h ht ha e er =
    let same : a ≡ inverse (numerator p t k (p t)) =
    inverse_only (numerator p t k (p t)) a (numerator_lt p t k (p t)) ha (numerator_own k p t h ht k (omega arith)) e in
    er ∙ ap (λ (z : ℕ). product z (numerator p t k y)) same

pub column_none : (points values : List ℕ) (width y c : ℕ) → column_sum points values width y c 0 ≡ 0
unfolding column_sum combine
column_none points values width y c = refl

pub column_next : (points values source : List ℕ) (width y c t w old new : ℕ)
    → old ≡ column_sum points values width y c t → new ≡ bit_xor old (product w (slice_index source c))
    → w ≡ weight (λ u. slice_index points u) (length points) t y → slice_index source c ≡ slice_index values (t * width + c)
    → new ≡ column_sum points values width y c (t + 1)
unfolding column_sum
column_next points values source width y c t w old new e en ew ev =
    en ∙ rw (e, ew, ev) (sym (combine_next (λ s. weight (λ u. slice_index points u) (length points) s y) (λ s. slice_index values (s * width + c)) t))

pub column_first : (points values source : List ℕ) (width y c w new : ℕ)
    → new ≡ product w (slice_index source c)
    → w ≡ weight (λ u. slice_index points u) (length points) 0 y → slice_index source c ≡ slice_index values (0 * width + c)
    → new ≡ column_sum points values width y c 1
column_first points values source width y c w new en ew ev =
    column_next points values source width y c 0 w 0 new (sym (column_none points values width y c))
    (en ∙ sym (xor_zero_l (product w (slice_index source c)))) ew ev

pub column_all : (points values : List ℕ) (width y c : ℕ) → column_sum points values width y c (length points) ≡ column_value points values width y c
unfolding column_sum interpolant column_value
column_all points values width y c = refl

pub interpolant_same : (p v u : ℕ → ℕ) (k y : ℕ) → ((t : ℕ) → t < k → v t ≡ u t) → interpolant p v k y ≡ interpolant p u k y
unfolding interpolant
interpolant_same p v u k y h = combine_same (λ t. weight p k t y) v u k h

-- ---- in a column
pub column_poly : (points values : List ℕ) (width c : ℕ) → IsPoly (length points) (λ y. column_value points values width y c)
unfolding column_value
column_poly points values width c = interpolant_poly (length points) (λ u. slice_index points u) (λ s. slice_index values (s * width + c))

pub column_at : (points values : List ℕ) (width c t : ℕ) → ArePoints (length points) (λ u. slice_index points u) → t < length points
    → slice_index values (t * width + c) < 256 → column_value points values width (slice_index points t) c ≡ slice_index values (t * width + c)
unfolding column_value
column_at points values width c t h l b = interpolant_at (length points) (λ u. slice_index points u) (λ s. slice_index values (s * width + c)) h t l b

pub column_recovers : (points values : List ℕ) (width c : ℕ) (f : ℕ → ℕ) → IsPoly (length points) f → ArePoints (length points) (λ u. slice_index points u)
    → ((t : ℕ) → t < length points → slice_index values (t * width + c) ≡ f (slice_index points t)) → (y : ℕ) → column_value points values width y c ≡ f y
unfolding column_value
column_recovers points values width c f hf hp h y =
    interpolant_same (λ u. slice_index points u) (λ s. slice_index values (s * width + c)) (λ s. f (slice_index points s)) (length points) y h
    ∙ recovers (length points) f (λ u. slice_index points u) hf hp y
