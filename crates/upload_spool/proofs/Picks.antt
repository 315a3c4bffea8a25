-- The lanes in the order of their numbers.
use Rattle.std.proofs.Common.{◌≡◌, ℕ, zero, suc, ◌+◌, ◌<◌, Bool, true, false, cond, eqb, List, [], ◌∷◌, ◌++◌, length, get_or, refl, sym, ap, ◌∙◌, subst, arith, inl, inr, append-nil, length-append}
use Rattle.std.specs.Prelude.{All}
use Rattle.std.specs.List.{filter, list_any, range_with_len}
use Rattle.std.specs.List.Sorted.{IsStrictlyIncreasing}
use Rattle.std.proofs.lemmas.Bool.{cases_lt}
use Rattle.std.proofs.lemmas.List.{get_or_append_left}
use Rattle.std.proofs.lemmas.List.Elements.{filter-append, All-append, All-cons, All-nil}
use Rattle.grammar.specs.CdBase.ids.CloudNo.{CloudNo}

abbrev pub is_among : List CloudNo → ℕ → Bool
is_among noted cloud = list_any (λ (lane : CloudNo). eqb lane.0 cloud) noted

-- The lanes below that number are picked.
pub record Picked (noted : List CloudNo) (number : ℕ) (clouds : List ℕ) : Type 0 where
  pub is : clouds ≡ filter (is_among noted) (range_with_len 0 number)
  pub rises : IsStrictlyIncreasing clouds
  pub above : All (λ x. x < number) clouds

range_more : (a n j : ℕ) → a + n ≡ j → range_with_len a (suc n) ≡ range_with_len a n ++ j ∷ []
range_more a zero j e = let same : a ≡ j = omega (arith, e) in ap (λ (x : ℕ). x ∷ []) same
range_more a (suc n) j e = ap (λ (l : List ℕ). a ∷ l) (range_more (a + 1) n j (omega (arith, e)))

picked_by : (p : ℕ → Bool) (number : ℕ) (b : Bool) → p number ≡ b → filter p (range_with_len 0 (number + 1)) ≡ filter p (range_with_len 0 number) ++ cond b (number ∷ []) []
picked_by p number b e =
    let next : number + 1 ≡ suc number = omega arith in
    ap (λ (n : ℕ). filter p (range_with_len 0 n)) next ∙ ap (λ (l : List ℕ). filter p l) (range_more 0 number number (omega arith)) ∙ filter-append p (range_with_len 0 number) (number ∷ [])
    ∙ ap (λ (c : Bool). filter p (range_with_len 0 number) ++ cond c (number ∷ []) []) e

last_of : (xs : List ℕ) (c : ℕ) → get_or (xs ++ c ∷ []) (length xs) 0 ≡ c
last_of [] c = refl
last_of (x ∷ xs) c = last_of xs c

less : (xs : List ℕ) (c : ℕ) → All (λ x. x < c) xs → All (λ x. x < c + 1) xs
less xs c all k d lt = omega (arith, all k d lt)

pub rises_more : (xs : List ℕ) (c : ℕ) → IsStrictlyIncreasing xs → ((k : ℕ) → k < length xs → get_or xs k 0 < c) → IsStrictlyIncreasing (xs ++ c ∷ [])
rises_more xs c rising above k lt =
    let len = length-append xs (c ∷ []) in
    let here = get_or_append_left xs (c ∷ []) 0 k (omega arith) in
    elim (cases_lt (k + 1) (length xs)) [
      | inl more ↦ let next = get_or_append_left xs (c ∷ []) 0 (k + 1) more in omega (arith, rising k more)
      | inr end ↦
          let at : k + 1 ≡ length xs = omega arith in
          let next : get_or (xs ++ c ∷ []) (k + 1) 0 ≡ c = ap (λ (i : ℕ). get_or (xs ++ c ∷ []) i 0) at ∙ last_of xs c in
          omega (arith, above k (omega arith))
    ]

above_more : (xs : List ℕ) (c : ℕ) → All (λ x. x < c) xs → All (λ x. x < c + 1) (xs ++ c ∷ [])
above_more xs c all = All-append (λ x. x < c + 1) xs (c ∷ []) (less xs c all) (All-cons (λ x. x < c + 1) c [] (omega arith) (All-nil (λ x. x < c + 1)))

pub none_picked : (noted : List CloudNo) (clouds : List ℕ) → clouds ≡ [] → Picked noted 0 clouds
none_picked noted clouds e = subst (Picked noted 0) (sym e) (record { is = refl; rises = λ k lt. absurd (omega arith); above = All-nil (λ x. x < 0) })

pub picked_more : (noted : List CloudNo) (number : ℕ) (clouds : List ℕ) → Picked noted number clouds → is_among noted number ≡ true → Picked noted (number + 1) (clouds ++ number ∷ [])
picked_more noted number clouds p e = record {
  is = ap (λ (l : List ℕ). l ++ number ∷ []) p.is ∙ sym (picked_by (is_among noted) number true e);
  rises = rises_more clouds number p.rises (λ k lt. p.above k 0 lt);
  above = above_more clouds number p.above;
}

pub picked_on : (noted : List CloudNo) (number : ℕ) (clouds : List ℕ) → Picked noted number clouds → is_among noted number ≡ false → Picked noted (number + 1) clouds
picked_on noted number clouds p e = record {
  is = p.is ∙ sym (append-nil (filter (is_among noted) (range_with_len 0 number))) ∙ sym (picked_by (is_among noted) number false e);
  rises = p.rises;
  above = less clouds number p.above;
}
