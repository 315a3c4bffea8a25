-- Lists in which nothing comes twice.
use Rattle.std.proofs.Common.{◌≡◌, inl, inr, ℕ, zero, suc, ◌<◌, List, [], ◌∷◌, ◌++◌, length, get_or, map, None, Some, refl, sym, ap, ◌∙◌, subst, arith}
use Rattle.std.specs.Prelude.{slice_get}
use Rattle.std.specs.List.{Contains}
use Rattle.std.proofs.lemmas.List.Elements.{Contains-append_cases}
use Rattle.user_dedup.proofs.Owned.{contains_here, contains_later, contains_nothing, contains_cases}
use Rattle.cloud_areas.specs.Checkpoints.{AreDistinct}
use Rattle.cloud_areas.proofs.Lists.{in_map}

-- the same by recursion
abbrev pub Apart : {X : Type 0} → List X → Type 0
Apart [] = Unit {0}
Apart (x ∷ xs) = (Contains xs x → ⊥) × Apart xs

pub get_some : {X : Type 0} (xs : List X) (k : ℕ) (d : X) → k < length xs → slice_get xs k ≡ Some (get_or xs k d)
get_some [] k d below = absurd (omega arith)
get_some (x ∷ xs) zero d below = refl
get_some (x ∷ xs) (suc k) d below = get_some xs k d (omega arith)

pub get_contains : {X : Type 0} (xs : List X) (k : ℕ) (x : X) → slice_get xs k ≡ Some x → Contains xs x
get_contains [] k x e = absurd (let no : None ≡ Some x = e in cc)
get_contains (y ∷ xs) zero x e = subst (Contains (y ∷ xs)) (let f : Some y ≡ Some x = e in cc) (contains_here y xs)
get_contains (y ∷ xs) (suc k) x e = contains_later y xs x (get_contains xs k x e)

-- an element stands at some place
pub contains_get : {X : Type 0} (xs : List X) (x : X) → Contains xs x → (k : ℕ) × (slice_get xs k ≡ Some x)
contains_get xs x c = (c.0, get_some xs c.0 x c.1 ∙ ap (λ y. Some y) c.2)

tail_apart : {X : Type 0} (x : X) (xs : List X) → AreDistinct (x ∷ xs) → AreDistinct xs
tail_apart x xs apart i j y at_i at_j = let e = apart (suc i) (suc j) y at_i at_j in omega (arith, e)

pub apart_from : {X : Type 0} (xs : List X) → AreDistinct xs → Apart xs
apart_from [] apart = tt
apart_from (x ∷ xs) apart =
    (λ c. let k = contains_get xs x c in let e = apart zero (suc k.0) x refl k.1 in omega (arith, e), apart_from xs (tail_apart x xs apart))

pub are_apart : {X : Type 0} (xs : List X) → Apart xs → AreDistinct xs
are_apart [] apart i j x at_i at_j = absurd (let no : None ≡ Some x = at_i in cc)
are_apart (y ∷ xs) apart zero zero x at_i at_j = refl
are_apart (y ∷ xs) apart zero (suc j) x at_i at_j =
    absurd (apart.0 (get_contains xs j y (at_j ∙ ap (λ z. Some z) (let f : Some y ≡ Some x = at_i in let g : x ≡ y = cc in g))))
are_apart (y ∷ xs) apart (suc i) zero x at_i at_j =
    absurd (apart.0 (get_contains xs i y (at_i ∙ ap (λ z. Some z) (let f : Some y ≡ Some x = at_j in let g : x ≡ y = cc in g))))
are_apart (y ∷ xs) apart (suc i) (suc j) x at_i at_j = ap suc (are_apart xs apart.1 i j x at_i at_j)

pub apart_append : {X : Type 0} (xs ys : List X) → Apart xs → Apart ys → ((x : X) → Contains xs x → Contains ys x → ⊥) → Apart (xs ++ ys)
apart_append [] ys a b none = b
apart_append (x ∷ xs) ys a b none = (
  λ c. elim (Contains-append_cases xs ys x c) [ inl l ↦ a.0 l | inr r ↦ none x (contains_here x xs) r ],
  apart_append xs ys a.1 b (λ z l r. none z (contains_later x xs z l) r),
)

-- where what is said of them is apart, they are
pub apart_by : {X Y : Type 0} (f : X → Y) (xs : List X) → Apart (map f xs) → Apart xs
apart_by f [] a = tt
apart_by f (x ∷ xs) a = (λ c. a.0 (in_map f xs x c), apart_by f xs a.1)

-- and two of them of which the same is said are one
pub one_by : {X Y : Type 0} (f : X → Y) (xs : List X) (a b : X) → Apart (map f xs) → Contains xs a → Contains xs b → f a ≡ f b → a ≡ b
one_by f [] a b apart c d same = absurd (contains_nothing a c)
one_by f (x ∷ xs) a b apart c d same = elim (contains_cases x xs a c) [
  | inl a_here ↦ elim (contains_cases x xs b d) [
    | inl b_here ↦ sym a_here ∙ b_here
    | inr b_later ↦ absurd (apart.0 (subst (Contains (map f xs)) (sym same ∙ sym (ap f a_here)) (in_map f xs b b_later)))
  ]
  | inr a_later ↦ elim (contains_cases x xs b d) [
    | inl b_here ↦ absurd (apart.0 (subst (Contains (map f xs)) (same ∙ sym (ap f b_here)) (in_map f xs a a_later)))
    | inr b_later ↦ one_by f xs a b apart.1 a_later b_later same
  ]
]
