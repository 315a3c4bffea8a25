-- Laws of sums over the numbers below a bound.
use Rattle.std.specs.Prelude.{◌≡◌, ◌≢◌, ℕ, zero, suc, ◌+◌, ◌<◌, ◌≤◌}
use Rattle.std.proofs.Common.{refl, sym, ap, arith, inl, inr}
use Rattle.std.proofs.lemmas.Bool.{cases_eq}
use Rattle.share_index.specs.Counts.{sum_below}

-- the sum of no summand
pub sum_below-none : (f : ℕ → ℕ) → sum_below 0 f ≡ 0
unfolding sum_below
sum_below-none f = refl

-- one summand more
pub sum_below-more : (n : ℕ) (f : ℕ → ℕ) → sum_below (suc n) f ≡ sum_below n f + f n
unfolding sum_below
sum_below-more n f = refl

-- functions that are alike have one sum
pub sum_below-alike : (n : ℕ) (f g : ℕ → ℕ) → ((k : ℕ) → f k ≡ g k) → sum_below n f ≡ sum_below n g
unfolding sum_below
sum_below-alike zero f g same = refl
sum_below-alike (suc n) f g same = let rest = sum_below-alike n f g same in let here = same n in omega arith

-- up to a number at which alone the functions differ
sum_below-prefix : (m u : ℕ) (f g : ℕ → ℕ) → m ≤ u → ((k : ℕ) → k ≢ u → f k ≡ g k) → sum_below m f ≡ sum_below m g
unfolding sum_below
sum_below-prefix zero u f g l same = refl
sum_below-prefix (suc m) u f g l same =
    let rest = sum_below-prefix m u f g (omega arith) same in
    let here = same m (λ is. let x : m ≡ u = is in omega arith) in
    omega arith

-- two functions that differ at one number
pub sum_below-change : (n u : ℕ) (f g : ℕ → ℕ) → u < n → ((k : ℕ) → k ≢ u → f k ≡ g k) → sum_below n f + g u ≡ sum_below n g + f u
unfolding sum_below
sum_below-change zero u f g l same = absurd (omega arith)
sum_below-change (suc n) u f g l same =
    elim (cases_eq u n) [
      | inl e ↦
          let rest = sum_below-prefix n u f g (omega arith) same in
          let fu : f n ≡ f u = ap f (sym e) in
          let gu : g n ≡ g u = ap g (sym e) in
          omega arith
      | inr other ↦
          let rest = sum_below-change n u f g (omega arith) same in
          let here = same n (λ e. other (sym e)) in
          omega arith
    ]

pub sum_below-zeros : (n : ℕ) (f : ℕ → ℕ) → ((k : ℕ) → f k ≡ 0) → sum_below n f ≡ 0
unfolding sum_below
sum_below-zeros zero f same = refl
sum_below-zeros (suc n) f same = let rest = sum_below-zeros n f same in let here = same n in omega arith
