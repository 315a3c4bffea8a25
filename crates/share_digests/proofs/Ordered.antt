-- Places in the order of the lengths in front of them.
use Rattle.std.proofs.Common.{◌≡◌, ℕ, zero, suc, ◌+◌, ◌<◌, List, [], ◌∷◌, ◌++◌, length, take, slice_index_or, slice_set, refl, sym, subst, arith, below_more}
use Rattle.std.specs.List.Sorted.{IsPermutation}
use Rattle.std.proofs.Common.{inl, inr}
use Rattle.std.proofs.lemmas.List.{take_more_set, get_or-set_same, get_or-set_other, length-set}
use Rattle.std.proofs.lemmas.Bool.{cases_lt}
use Rattle.std.proofs.lemmas.List.Elements.{Contains-append_left, Contains-push}
use Rattle.std.proofs.lemmas.List.Sorted.{Contains-permutation}
use Rattle.share_digests.specs.Digests.{HasAllPlaces, IsIn}

pub has_none : HasAllPlaces 0 []
has_none place less = absurd (omega arith)

pub one_has : (places len : ℕ) (order : List (ℕ × ℕ)) → HasAllPlaces places order → HasAllPlaces (places + 1) (order ++ (len, places) ∷ [])
one_has places len order all =
    below_more (IsIn (order ++ (len, places) ∷ [])) places
    (λ place less. let old = all place less in record { len = old.len; has = Contains-append_left order ((len, places) ∷ []) (old.len, place) old.has })
    (record { len = len; has = Contains-push order (len, places) })

pub has_sorted : (order sorted : List (ℕ × ℕ)) (places : ℕ) → IsPermutation order sorted → HasAllPlaces places order → HasAllPlaces places sorted
has_sorted order sorted places moved all place less =
    let old = all place less in
    record { len = old.len; has = Contains-permutation order sorted (old.len, place) moved old.has }

-- an element that is there, whatever stands for none
pub read_there : {A : Type 0} (xs : List A) (k : ℕ) (d e : A) → k < length xs → slice_index_or xs k d ≡ slice_index_or xs k e
read_there [] k d e less = absurd (omega arith)
read_there (x ∷ xs) zero d e less = refl
read_there (x ∷ xs) (suc k) d e less = read_there xs k d e (omega (arith, less))

-- one place more is written
pub has_more : (order : List (ℕ × ℕ)) (place len : ℕ) → place < length order → HasAllPlaces place (take place order) → HasAllPlaces (place + 1) (take (place + 1) (slice_set order place (len, place)))
has_more order place len less all =
    subst (HasAllPlaces (place + 1)) (sym (take_more_set order place (len, place) less)) (one_has place len (take place order) all)

pub below_set : (order : List (ℕ × ℕ)) (place len n : ℕ) → place < length order → place < n → ((k : ℕ) (d : ℕ × ℕ) → k < place → (slice_index_or order k d).1 < n)
    → (k : ℕ) (d : ℕ × ℕ) → k < place + 1 → (slice_index_or (slice_set order place (len, place)) k d).1 < n
below_set order place len n less small below k d more = elim (cases_lt k place) [
  | inl lt ↦ subst (λ (pair : ℕ × ℕ). pair.1 < n) (sym (get_or-set_other order place k (len, place) d (λ e. omega arith))) (below k d lt)
  | inr ge ↦
      let same : place ≡ k = omega arith in
      subst (λ (i : ℕ). (slice_index_or (slice_set order place (len, place)) i d).1 < n) same
      (subst (λ (pair : ℕ × ℕ). pair.1 < n) (sym (get_or-set_same order place (len, place) d less)) small)
]

pub below_more_set : (order : List (ℕ × ℕ)) (place len : ℕ) → place < length order → ((k : ℕ) (d : ℕ × ℕ) → k < place → (slice_index_or order k d).1 < length order)
    → (k : ℕ) (d : ℕ × ℕ) → k < place + 1 → (slice_index_or (slice_set order place (len, place)) k d).1 < length (slice_set order place (len, place))
below_more_set order place len less below k d more =
    let small = below_set order place len (length order) less less below k d more in
    subst (λ (n : ℕ). (slice_index_or (slice_set order place (len, place)) k d).1 < n) (sym (length-set order place (len, place))) small
