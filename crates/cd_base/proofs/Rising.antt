-- A rising list with one more number behind it.
use Rattle.std.proofs.Common.{◌≡◌, ◌↔◌, ℕ, ◌+◌, ◌-◌, ◌<◌, ◌≤◌, List, [], ◌∷◌, ◌++◌, length, get_or, slice_get, Some, nat_lt, IsTrue, arith, inl, inr, refl, sym, ◌∙◌, ap, length-append}
use Rattle.std.specs.List.Sorted.{IsStrictlyIncreasing}
use Rattle.std.proofs.lemmas.Bool.{ltb-true, lt-ltb}
use Rattle.std.proofs.lemmas.Bool.Decides.{leb_tells}
use Rattle.std.proofs.lemmas.List.{get_or_append_left, get_or-append_right, get_or-map, length-map}
use Rattle.std.proofs.lemmas.Option.{get_or_from_slice_get}
use Rattle.cd_base.specs.declared.ids.CloudNo.{CloudNo}
use Rattle.cd_base.specs.Numbers.{numbers_of}

-- the number behind the list is read behind it
number_behind : (xs : List ℕ) (x i : ℕ) → i ≡ length xs → get_or (xs ++ x ∷ []) i 0 ≡ x
number_behind xs x i e = let le : length xs ≤ i = omega arith in let z : i - length xs ≡ 0 = omega arith in
    rw (get_or-append_right xs (x ∷ []) (length xs) i 0 refl le, z) refl

-- it rises where the last number is less
rises_with : (xs : List ℕ) (x : ℕ) → 0 < length xs → IsStrictlyIncreasing xs → get_or xs (length xs - 1) 0 < x → IsStrictlyIncreasing (xs ++ x ∷ [])
rises_with xs x some rises above k within =
    let len = length-append xs (x ∷ []) in
    let here : k < length xs = omega (arith, length-append xs (x ∷ [])) in
    let a = get_or_append_left xs (x ∷ []) 0 k here in
    elim (leb_tells (k + 2) (length xs)) [
      | inl h ↦ let next : k + 1 < length xs = omega arith in let b = get_or_append_left xs (x ∷ []) 0 (k + 1) next in omega (arith, rises k next)
      | inr h ↦ let end : k + 1 ≡ length xs = omega arith in let b = number_behind xs x (k + 1) end in
          let e : k ≡ length xs - 1 = omega arith in let f = ap (λ i. get_or xs i 0) e in omega arith
    ]

-- the last number is less where it rises
last_below : (xs : List ℕ) (x : ℕ) → 0 < length xs → IsStrictlyIncreasing (xs ++ x ∷ []) → get_or xs (length xs - 1) 0 < x
last_below xs x some rises =
    let i = length xs - 1 in
    let here : i < length xs = omega arith in
    let within : i + 1 < length (xs ++ x ∷ []) = omega (arith, length-append xs (x ∷ [])) in
    let end : i + 1 ≡ length xs = omega arith in
    let a = get_or_append_left xs (x ∷ []) 0 i here in
    let b = number_behind xs x (i + 1) end in
    omega (arith, rises i within)

last_number : (clouds : List CloudNo) (last : CloudNo) → 0 < length clouds → Some last ≡ slice_get clouds (length clouds - 1) →
    get_or (numbers_of clouds) (length (numbers_of clouds) - 1) 0 ≡ last.0
last_number clouds last some e =
    let i = length clouds - 1 in
    let within : i < length clouds = omega arith in
    let number : CloudNo → ℕ = λ cloud. cloud.0 in
    rw (length-map clouds number) (get_or-map number clouds i last 0 within ∙ ap number (get_or_from_slice_get clouds i last last (sym e)))

-- the test of a list of clouds by its last one
pub can_push_by_last : (clouds : List CloudNo) (last : CloudNo) (x : ℕ) → Some last ≡ slice_get clouds (length clouds - 1) → 0 < length clouds →
    IsStrictlyIncreasing (numbers_of clouds) → IsTrue (nat_lt last.0 x) ↔ IsStrictlyIncreasing (numbers_of clouds ++ x ∷ [])
can_push_by_last clouds last x e some rises =
    let is = last_number clouds last some e in
    let number : CloudNo → ℕ = λ cloud. cloud.0 in
    let some_number : 0 < length (numbers_of clouds) = rw (length-map clouds number) some in (
      λ less. let lt : last.0 < x = ltb-true _ _ less in rises_with (numbers_of clouds) x some_number rises (rw is lt),
      λ longer. let lt = last_below (numbers_of clouds) x some_number longer in let lt' : last.0 < x = rw is at lt in lt-ltb _ _ lt',
    )

-- the same of a list that is read, and of the numbers that contracts see
pub can_push_as_read : (seen clouds : List CloudNo) (numbers : List ℕ) (last : CloudNo) (x : ℕ) → seen ≡ clouds → numbers_of clouds ≡ numbers →
    Some last ≡ slice_get seen (length seen - 1) → 0 < length seen → IsStrictlyIncreasing (numbers_of clouds) →
    IsTrue (nat_lt last.0 x) ↔ IsStrictlyIncreasing (numbers ++ x ∷ [])
can_push_as_read seen clouds numbers last x same view e some rises =
    let e' = rw same at e in let some' = rw same at some in rw (← view) (can_push_by_last clouds last x e' some' rises)
