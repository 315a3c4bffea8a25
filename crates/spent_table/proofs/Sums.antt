-- Sums as far as 64 bits reach, row by row.
use Rattle.std.proofs.Common.{◌≡◌, ℕ, zero, suc, ◌+◌, ◌-◌, ◌<◌, ◌≤◌, ◌^◌, List, [], ◌∷◌, length, drop, get_or, ap, refl, arith}
use Rattle.std.specs.Prelude.{min}
use Rattle.std.specs.List.{sum_by}
use Rattle.std.proofs.lemmas.List.Sums.{sum_by-cons}
use Rattle.std.proofs.Math.Seq.{drop-cons}
use Rattle.spent_table.specs.declared.Spent.{Spent}
use Rattle.spent_table.specs.Spending.{reached}

-- So far the rows have this sum, and the rest follows.
abbrev pub Summing : (Spent → ℕ) → List Spent → ℕ → ℕ → Type 0
Summing f rows i sum = (sum < 2 ^ 64) × (min (sum + sum_by f (drop i rows)) (2 ^ 64 - 1) ≡ reached f rows)

pub sum_more : (f : Spent → ℕ) (rows : List Spent) (i sum next : ℕ) (d : Spent) → i < length rows → Summing f rows i sum
    → next ≡ min (sum + f (get_or rows i d)) (2 ^ 64 - 1) → Summing f rows (i + 1) next
sum_more f rows i sum next d below so is =
    let here = ap (sum_by f) (drop-cons rows i d below) in
    let first = sum_by-cons f (get_or rows i d) (drop (suc i) rows) in
    let next_place : i + 1 ≡ suc i = omega arith in
    let rest : sum_by f (drop (i + 1) rows) ≡ sum_by f (drop (suc i) rows) = ap (λ (k : ℕ). sum_by f (drop k rows)) next_place in
    let whole = so.1 in
    (omega (arith, is), omega (arith, whole, is, here, first, rest))

none_left : (rows : List Spent) (i : ℕ) → length rows ≤ i → drop i rows ≡ []
none_left [] zero past = refl
none_left [] (suc i) past = refl
none_left (row ∷ rows) zero past = absurd (omega (arith, past))
none_left (row ∷ rows) (suc i) past = none_left rows i (omega (arith, past))

pub sum_all : (f : Spent → ℕ) (rows : List Spent) (i sum : ℕ) → length rows ≤ i → Summing f rows i sum → sum ≡ reached f rows
sum_all f rows i sum past so =
    let none : sum_by f (drop i rows) ≡ 0 = ap (sum_by f) (none_left rows i past) in
    let small = so.0 in
    let whole = so.1 in
    omega (arith, whole, none, small)
