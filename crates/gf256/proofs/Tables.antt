-- The tables of the powers of 3 and of the logarithms to the base 3.
use Rattle.std.proofs.Common.{◌≡◌, ◌≢◌, ℕ, zero, suc, ◌+◌, ◌<◌, ◌&&◌, refl, sym, ap, ◌∙◌, arith, true, eqb, eqb-true, ltb, ltb-true, get_or, lit<, zero-add, suc-add, ◌-◌, ◌*◌, ◌/◌, ◌%◌, add-one}
use Rattle.gf256.specs.Field.{product, carryless, remainder, power}
use Rattle.gf256.specs.declared.generator.TheConstants.{EXPONENTIALS, LOGARITHMS}
use Rattle.gf256.proofs.Bilinear.{all_to, from_all_to, and_first, and_second}
use Rattle.gf256.proofs.Laws.{product_lt, product_assoc, product_one, product_zero}

steps : all_to 509 (λ i. eqb (get_or EXPONENTIALS (suc i) 0) (product 3 (get_or EXPONENTIALS i 0))) ≡ true
unfolding product carryless remainder
steps = refl

pub exponential_at : (e : ℕ) → e < 510 → get_or EXPONENTIALS e 0 ≡ power 3 e
unfolding power
exponential_at zero h = refl
exponential_at (suc e) h =
    eqb-true _ _ (from_all_to 509 (λ i. eqb (get_or EXPONENTIALS (suc i) 0) (product 3 (get_or EXPONENTIALS i 0))) steps e (omega arith))
    ∙ ap (λ (z : ℕ). product 3 z) (exponential_at e (omega arith))

logs : all_to 255 (λ a. ltb (get_or LOGARITHMS (suc a) 0) 255 && eqb (get_or EXPONENTIALS (get_or LOGARITHMS (suc a) 0) 0) (suc a)) ≡ true
logs = refl

logs_at : (a : ℕ) → a < 255 → (get_or LOGARITHMS (suc a) 0 < 255) × (get_or EXPONENTIALS (get_or LOGARITHMS (suc a) 0) 0 ≡ suc a)
logs_at a h =
    let both : (ltb (get_or LOGARITHMS (suc a) 0) 255 && eqb (get_or EXPONENTIALS (get_or LOGARITHMS (suc a) 0) 0) (suc a)) ≡ true =
    from_all_to 255 (λ a. ltb (get_or LOGARITHMS (suc a) 0) 255 && eqb (get_or EXPONENTIALS (get_or LOGARITHMS (suc a) 0) 0) (suc a)) logs a h in
    (ltb-true _ _ (and_first _ _ both), eqb-true _ _ (and_second _ _ both))

pub logarithm_below : (a : ℕ) → a ≢ 0 → a < 256 → get_or LOGARITHMS a 0 < 255
logarithm_below zero n h = absurd (n refl)
logarithm_below (suc a) n h = (logs_at a (omega arith)).0

pub logarithm_is : (a : ℕ) → a ≢ 0 → a < 256 → power 3 (get_or LOGARITHMS a 0) ≡ a
logarithm_is zero n h = absurd (n refl)
logarithm_is (suc a) n h =
    let l = logs_at a (omega arith) in
    let below : get_or LOGARITHMS (suc a) 0 < 510 = omega (arith, l.0) in
    sym (exponential_at (get_or LOGARITHMS (suc a) 0) below) ∙ l.1

pub power_lt : (a e : ℕ) → power a e < 256
unfolding power
power_lt a zero = lit< tt
power_lt a (suc e) = product_lt a (power a e)

pub power_add : (a i j : ℕ) → power a (i + j) ≡ product (power a i) (power a j)
unfolding power
power_add a zero j = rw zero-add (sym (product_one (power a j) (power_lt a j)))
power_add a (suc i) j = rw (suc-add i j, power_add a i j) (sym (product_assoc a (power a i) (power a j)))

pub power_round : power 3 255 ≡ 1
unfolding power product carryless remainder
power_round = refl

-- a product by logarithms
pub product_logs : (a b i j r : ℕ) → power 3 i ≡ a → power 3 j ≡ b → r ≡ power 3 (i + j) → r ≡ product a b
product_logs a b i j r hi hj hr = hr ∙ power_add 3 i j ∙ rw (hi, hj) refl

-- an inverse by its logarithm
pub inverse_log : (a i r : ℕ) → i < 255 → power 3 i ≡ a → r ≡ power 3 (255 - i) → product a r ≡ 1
inverse_log a i r hi ha hr =
    let e : i + (255 - i) ≡ 255 = omega arith in
    rw (hr, ← ha, ← power_add 3 i (255 - i), e) power_round

pub power_zero : (a : ℕ) → power a 0 ≡ 1
unfolding power
power_zero a = refl

pub power_next : (a e : ℕ) → power a (e + 1) ≡ product a (power a e)
unfolding power
power_next a e = rw add-one refl

-- a power of a power of 3
power_times : (l e : ℕ) → power (power 3 l) e ≡ power 3 (l * e)
power_times l zero =
    let none : l * 0 ≡ 0 = omega arith in
    power_zero (power 3 l) ∙ sym (ap (λ (z : ℕ). power 3 z) none ∙ power_zero 3)
power_times l (suc e) =
    let next : suc e ≡ e + 1 = omega arith in
    let more : l * suc e ≡ l + l * e = grind arith in
    ap (λ (z : ℕ). power (power 3 l) z) next ∙ power_next (power 3 l) e ∙ ap (λ (z : ℕ). product (power 3 l) z) (power_times l e)
    ∙ sym (power_add 3 l (l * e)) ∙ ap (λ (z : ℕ). power 3 z) (sym more)

-- the powers of 3 come round after 255
power_cycle : (n r : ℕ) → power 3 (n * 255 + r) ≡ power 3 r
power_cycle zero r =
    let none : 0 * 255 + r ≡ r = omega arith in
    ap (λ (z : ℕ). power 3 z) none
power_cycle (suc n) r =
    let more : suc n * 255 + r ≡ 255 + (n * 255 + r) = omega arith in
    ap (λ (z : ℕ). power 3 z) more ∙ power_add 3 255 (n * 255 + r)
    ∙ ap (λ (z : ℕ). product z (power 3 (n * 255 + r))) power_round
    ∙ product_one (power 3 (n * 255 + r)) (power_lt 3 (n * 255 + r)) ∙ power_cycle n r

-- a power by its logarithm
pub power_log : (a e l r : ℕ) → power 3 l ≡ a → r ≡ power 3 (l * e % 255) → r ≡ power a e
power_log a e l r ha hr =
    let round : l * e / 255 * 255 + l * e % 255 ≡ l * e = omega arith in
    hr ∙ sym (power_cycle (l * e / 255) (l * e % 255)) ∙ ap (λ (z : ℕ). power 3 z) round
    ∙ sym (power_times l e) ∙ ap (λ (z : ℕ). power z e) ha

pub power_of_zero : (e : ℕ) → e ≢ 0 → power 0 e ≡ 0
power_of_zero zero h = absurd (h refl)
power_of_zero (suc e) h =
    let next : suc e ≡ e + 1 = omega arith in
    ap (λ (z : ℕ). power 0 z) next ∙ power_next 0 e ∙ product_zero (power 0 e)
