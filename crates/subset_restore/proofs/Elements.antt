-- The elements of lists.
use Rattle.std.proofs.Common.{◌≡◌, ℕ, zero, suc, ◌<◌, ◌⊎◌, List, [], ◌∷◌, ◌++◌, length, map, get_or, ap, subst, arith, inl, inr, All}
use Rattle.std.specs.List.{Contains, AllPairs}
use Rattle.restore_job.proofs.UserDedup.Owned.{contains_here, contains_later, contains_nothing, contains_cases}

-- ---- where an element is

pub contains_front : {A : Type 0} (xs ys : List A) (x : A) → Contains xs x → Contains (xs ++ ys) x
contains_front [] ys x c = absurd (contains_nothing x c)
contains_front (y ∷ xs) ys x c = elim (contains_cases y xs x c) [
  | inl e ↦ subst (λ z. Contains (y ∷ xs ++ ys) z) e (contains_here y (xs ++ ys))
  | inr h ↦ contains_later y (xs ++ ys) x (contains_front xs ys x h)
]

pub contains_back : {A : Type 0} (xs ys : List A) (x : A) → Contains ys x → Contains (xs ++ ys) x
contains_back [] ys x c = c
contains_back (y ∷ xs) ys x c = contains_later y (xs ++ ys) x (contains_back xs ys x c)

pub contains_parts : {A : Type 0} (xs ys : List A) (x : A) → Contains (xs ++ ys) x → Contains xs x ⊎ Contains ys x
contains_parts [] ys x c = inr c
contains_parts (y ∷ xs) ys x c = elim (contains_cases y (xs ++ ys) x c) [
  | inl e ↦ inl (subst (λ z. Contains (y ∷ xs) z) e (contains_here y xs))
  | inr h ↦ elim (contains_parts xs ys x h) [ inl l ↦ inl (contains_later y xs x l) | inr r ↦ inr r ]
]

pub contains_last : {A : Type 0} (xs : List A) (y x : A) → Contains (xs ++ y ∷ []) x → Contains xs x ⊎ (y ≡ x)
contains_last xs y x c = elim (contains_parts xs (y ∷ []) x c) [
  | inl l ↦ inl l
  | inr r ↦ elim (contains_cases y [] x r) [ inl e ↦ inr e | inr none ↦ absurd (contains_nothing x none) ]
]

pub contains_end : {A : Type 0} (xs : List A) (y : A) → Contains (xs ++ y ∷ []) y
contains_end xs y = contains_back xs (y ∷ []) y (contains_here y [])

pub contains_middle : {A : Type 0} (xs ys : List A) (y : A) → Contains (xs ++ y ∷ ys) y
contains_middle xs ys y = contains_back xs (y ∷ ys) y (contains_here y ys)

pub contains_mapped : {A B : Type 0} (f : A → B) (xs : List A) (x : A) → Contains xs x → Contains (map f xs) (f x)
contains_mapped f [] x c = absurd (contains_nothing x c)
contains_mapped f (y ∷ xs) x c = elim (contains_cases y xs x c) [
  | inl e ↦ subst (λ z. Contains (f y ∷ map f xs) z) (ap f e) (contains_here (f y) (map f xs))
  | inr h ↦ contains_later (f y) (map f xs) (f x) (contains_mapped f xs x h)
]

-- what a mapped element comes from
pub record From {A B : Type 0} (f : A → B) (xs : List A) (y : B) : Type 0 where
  pub x : A
  pub has : Contains xs x
  pub is : f x ≡ y

pub mapped_from : {A B : Type 0} (f : A → B) (xs : List A) (y : B) → Contains (map f xs) y → From f xs y
mapped_from f [] y c = absurd (contains_nothing y c)
mapped_from f (x ∷ xs) y c = elim (contains_cases (f x) (map f xs) y c) [
  | inl e ↦ record { x = x; has = contains_here x xs; is = e }
  | inr h ↦ let m = mapped_from f xs y h in record { x = m.x; has = contains_later x xs m.x m.has; is = m.is }
]

-- ---- all elements

pub all_of : {A : Type 0} (P : A → Type 0) (xs : List A) → ((x : A) → Contains xs x → P x) → All P xs
all_of P [] each k d l = absurd (omega arith)
all_of P (x ∷ xs) each zero d l = each x (contains_here x xs)
all_of P (x ∷ xs) each (suc k) d l = all_of P xs (λ y c. each y (contains_later x xs y c)) k d (omega arith)

pub of_all : {A : Type 0} (P : A → Type 0) (xs : List A) (x : A) → All P xs → Contains xs x → P x
of_all P xs x all c = subst P c.2 (all c.0 x c.1)

-- each pair, as a recursion says it
abbrev pub Pairs : {A : Type 0} → (A → A → Type 0) → List A → Type 0
Pairs R [] = Unit {0}
Pairs {A} R (x ∷ xs) = ((y : A) → Contains xs y → R x y) × Pairs R xs

pub pairs_all : {A : Type 0} (R : A → A → Type 0) (xs : List A) → Pairs R xs → AllPairs R xs
pairs_all R [] pairs i j d lt within = absurd (omega arith)
pairs_all {A} R (x ∷ xs) pairs i j d lt within = go (λ i j lt within. pairs_all R xs pairs.1 i j d lt within) i j lt within
  where
    go : ((i j : ℕ) → i < j → j < length xs → R (get_or xs i d) (get_or xs j d)) → (i j : ℕ) → i < j → j < length (x ∷ xs) → R (get_or (x ∷ xs) i d) (get_or (x ∷ xs) j d)
    go more i zero lt within = absurd (omega arith)
    go more zero (suc j) lt within = let all : All (R x) xs = all_of (R x) xs pairs.0 in all j d (omega arith)
    go more (suc i) (suc j) lt within = more i j (omega arith) (omega arith)

pub pairs_mapped : {A B : Type 0} (R : B → B → Type 0) (f : A → B) (xs : List A) → Pairs (λ x y. R (f x) (f y)) xs → Pairs R (map f xs)
pairs_mapped R f [] pairs = tt
pairs_mapped R f (x ∷ xs) pairs = (λ y c. let m = mapped_from f xs y c in subst (R (f x)) m.is (pairs.0 m.x m.has), pairs_mapped R f xs pairs.1)

pub pairs_on : {A : Type 0} (R S : A → A → Type 0) (xs : List A) → ((x y : A) → R x y → S x y) → Pairs R xs → Pairs S xs
pairs_on R S [] to pairs = tt
pairs_on R S (x ∷ xs) to pairs = (λ y c. to x y (pairs.0 y c), pairs_on R S xs to pairs.1)

pub pairs_joined : {A : Type 0} (R : A → A → Type 0) (xs ys : List A) → Pairs R xs → Pairs R ys → ((x y : A) → Contains xs x → Contains ys y → R x y) → Pairs R (xs ++ ys)
pairs_joined R [] ys one two across = two
pairs_joined R (x ∷ xs) ys one two across = (
  λ y c. elim (contains_parts xs ys y c) [ inl l ↦ one.0 y l | inr r ↦ across x y (contains_here x xs) r ],
  pairs_joined R xs ys one.1 two (λ z y c d. across z y (contains_later x xs z c) d),
)
