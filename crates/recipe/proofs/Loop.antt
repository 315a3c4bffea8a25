-- Reading items one after the other, as a loop does.
use Rattle.std.proofs.Common.{◌≡◌, ℕ, zero, suc, ◌-◌, ◌+◌, ◌≤◌, ◌<◌, Bool, List, ◌∷◌, Result, Ok, Err, refl, sym, ap, ◌∙◌, arith, eqb}
use Rattle.std.proofs.lemmas.Bool.{ne_eqb}
use Rattle.std.proofs.lemmas.List.Sums.{sum_by-cons}
use Rattle.grammar.specs.Readers.{◌>>=◌}
use Rattle.recipe.specs.declared.items.Item.{Item}
use Rattle.recipe.specs.Reading.{item_at, items_at}
use Rattle.recipe.specs.Totals.{len_at, with_sum}

one_more : (m : ℕ) → eqb (suc m) 1 ≡ eqb m 0
one_more zero = refl
one_more (suc m) = ne_eqb (suc (suc m)) 1 (λ h. omega arith) ∙ sym (ne_eqb (suc m) 0 (λ h. omega arith))

pub same_last : (count i m : ℕ) → count - i ≡ suc m → eqb (count - i) 1 ≡ eqb m 0
same_last count i m e = ap (λ (n : ℕ). eqb n 1) e ∙ one_more m

-- an item's length and those of the others
abbrev lens : Result (Item × List ℕ) ℕ → Result (ℕ × List ℕ) ℕ
lens read = read >>= λ x. Ok (x.0.secret_len, x.1)

abbrev summed : ℕ → ℕ → Result (ℕ × List ℕ) ℕ → Result (ℕ × List ℕ) ℕ
summed sum m read = read >>= λ x. with_sum (sum + x.0) (items_at m x.1)

abbrev before : Item → Result (List Item × List ℕ) ℕ → Result (List Item × List ℕ) ℕ
before first read = read >>= λ x. Ok (first ∷ x.0, x.1)

abbrev front : ℕ → Result (Item × List ℕ) ℕ → Result (List Item × List ℕ) ℕ
front m read = read >>= λ x. before x.0 (items_at m x.1)

with_others : (sum : ℕ) (first : Item) (read : Result (List Item × List ℕ) ℕ) → with_sum sum (before first read) ≡ with_sum (sum + first.secret_len) read
with_others sum first (Ok x) = ap (λ (n : ℕ). Ok (n, x.1)) (omega (arith, sum_by-cons (λ (i : Item). i.secret_len) first x.0))
with_others sum first (Err e) = refl

with_first : (sum m : ℕ) (read : Result (Item × List ℕ) ℕ) → with_sum sum (front m read) ≡ summed sum m (lens read)
with_first sum m (Ok x) = with_others sum x.0 (items_at m x.1)
with_first sum m (Err e) = refl

step : (sum m : ℕ) (bytes : List ℕ) → with_sum sum (items_at (suc m) bytes) ≡ summed sum m (len_at (eqb m 0) bytes)
unfolding items_at
step sum m bytes = with_first sum m (item_at (eqb m 0) bytes)

pub goes_on : (sum count i : ℕ) (bytes : List ℕ) (len : ℕ) (after : List ℕ) (all : Result (ℕ × List ℕ) ℕ) → i < count → len_at (eqb (count - i) 1) bytes ≡ Ok (len, after)
    → with_sum sum (items_at (count - i) bytes) ≡ all → with_sum (sum + len) (items_at (count - (i + 1)) after) ≡ all
goes_on sum count i bytes len after all lt h so_far =
    let k : count - i ≡ suc (count - (i + 1)) = omega arith in
    let h2 : len_at (eqb (count - (i + 1)) 0) bytes ≡ Ok (len, after) = ap (λ (b : Bool). len_at b bytes) (sym (same_last count i (count - (i + 1)) k)) ∙ h in
    let one : with_sum sum (items_at (count - i) bytes) ≡ with_sum (sum + len) (items_at (count - (i + 1)) after) =
    ap (λ (m : ℕ). with_sum sum (items_at m bytes)) k ∙ step sum (count - (i + 1)) bytes ∙ ap (summed sum (count - (i + 1))) h2 in
    sym one ∙ so_far

pub stops : (left sum count i : ℕ) (bytes : List ℕ) (all : Result (ℕ × List ℕ) ℕ) → i < count → len_at (eqb (count - i) 1) bytes ≡ Err left
    → with_sum sum (items_at (count - i) bytes) ≡ all → all ≡ Err left
stops left sum count i bytes all lt h so_far =
    let k : count - i ≡ suc (count - (i + 1)) = omega arith in
    let h2 : len_at (eqb (count - (i + 1)) 0) bytes ≡ Err left = ap (λ (b : Bool). len_at b bytes) (sym (same_last count i (count - (i + 1)) k)) ∙ h in
    let one : with_sum sum (items_at (count - i) bytes) ≡ Err left =
    ap (λ (m : ℕ). with_sum sum (items_at m bytes)) k ∙ step sum (count - (i + 1)) bytes ∙ ap (summed sum (count - (i + 1))) h2 in
    sym so_far ∙ one

pub is_done : (sum count i : ℕ) (bytes : List ℕ) (all : Result (ℕ × List ℕ) ℕ) → count ≤ i → with_sum sum (items_at (count - i) bytes) ≡ all → all ≡ Ok (sum, bytes)
unfolding items_at
is_done sum count i bytes all le so_far =
    let k : count - i ≡ 0 = omega arith in
    let one : with_sum sum (items_at (count - i) bytes) ≡ Ok (sum, bytes) = rw k (ap (λ (n : ℕ). Ok (n, bytes)) (omega arith)) in
    sym so_far ∙ one
