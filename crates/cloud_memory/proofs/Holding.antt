-- A sum over some shares, one after another.
use Rattle.std.proofs.Common.{◌≡◌, ℕ, zero, suc, ◌+◌, ◌*◌, ◌<◌, ◌≤◌, List, [], ◌∷◌, length, drop, get_or, ap, refl, arith}
use Rattle.std.specs.Prelude.{sum_by}
use Rattle.std.proofs.lemmas.List.Sums.{sum_by-cons}
use Rattle.std.proofs.Math.Nat.{mul-suc}
use Rattle.std.proofs.Math.Seq.{drop-cons}
use Rattle.cloud_memory.specs.declared.rooms.New.{New}

-- So far they have this sum, each at most so much, and the rest follows.
pub record Holding (f : New → ℕ) (most : ℕ) (news : List New) (i sum : ℕ) : Type 0 where
  pub same : sum + sum_by f (drop i news) ≡ sum_by f news
  pub few : sum ≤ most * i

pub holding_more : (f : New → ℕ) (most : ℕ) (news : List New) (i sum here : ℕ) (d : New) → i < length news → Holding f most news i sum
    → here ≡ f (get_or news i d) → here ≤ most → Holding f most news (i + 1) (sum + here)
holding_more f most news i sum here d below so is small =
    let cut = ap (sum_by f) (drop-cons news i d below) in
    let first = sum_by-cons f (get_or news i d) (drop (suc i) news) in
    let next_place : i + 1 ≡ suc i = omega arith in
    let rest = ap (λ (k : ℕ). sum_by f (drop k news)) next_place in
    let more = ap (λ (k : ℕ). most * k) next_place in
    let one = mul-suc most i in
    let same = so.same in let few = so.few in
    record { same = omega (arith, same, is, cut, first, rest); few = omega (arith, few, small, more, one) }

none_left : (news : List New) (i : ℕ) → length news ≤ i → drop i news ≡ []
none_left [] zero past = refl
none_left [] (suc i) past = refl
none_left (n ∷ news) zero past = absurd (omega (arith, past))
none_left (n ∷ news) (suc i) past = none_left news i (omega (arith, past))

pub holding_all : (f : New → ℕ) (most : ℕ) (news : List New) (i sum : ℕ) → length news ≤ i → Holding f most news i sum → sum ≡ sum_by f news
holding_all f most news i sum past so =
    let none = ap (sum_by f) (none_left news i past) in
    let zero_is : sum_by f [] ≡ 0 = refl in
    let same = so.same in omega (arith, same, none, zero_is)
