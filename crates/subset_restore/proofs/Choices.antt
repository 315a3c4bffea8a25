-- The choices of k of rising clouds are their rising choices, in lexicographic order.
use Rattle.std.proofs.Common.{◌≡◌, ℕ, zero, suc, ◌+◌, ◌<◌, ◌≤◌, List, [], ◌∷◌, ◌++◌, length, map, slice_index, refl, sym, ap, ◌∙◌, subst, arith, inl, inr, All, append_assoc, append-nil}
use Rattle.std.specs.List.{Contains, AllPairs}
use Rattle.std.specs.List.Sorted.{IsStrictlyIncreasing}
use Rattle.restore_job.proofs.UserDedup.Owned.{contains_here, contains_later, contains_nothing, contains_cases}
use Rattle.subset_restore.specs.Subsets.{subsets, behind, IsSubset, IsBefore}
use Rattle.subset_restore.proofs.Elements.{contains_front, contains_back, contains_parts, contains_mapped, From, mapped_from, all_of, of_all, Pairs, pairs_all, pairs_mapped, pairs_on, pairs_joined}

-- ---- rising, as a recursion says it

abbrev pub Rises : List ℕ → Type 0
Rises [] = Unit {0}
Rises (x ∷ xs) = ((y : ℕ) → Contains xs y → x < y) × Rises xs

next_place : (k : ℕ) → suc k + 1 ≡ suc (k + 1)
next_place k = omega arith

tail_rises : (x : ℕ) (xs : List ℕ) → IsStrictlyIncreasing (x ∷ xs) → IsStrictlyIncreasing xs
tail_rises x xs rises k l = subst (λ (n : ℕ). slice_index xs k < slice_index (x ∷ xs) n) (next_place k) (rises (suc k) (omega arith))

-- the first of those behind is more
first_more : (x : ℕ) (xs : List ℕ) → IsStrictlyIncreasing (x ∷ xs) → (y : ℕ) → Contains xs y → x < y
first_more x [] rises y c = absurd (contains_nothing y c)
first_more x (z ∷ xs) rises y c =
    let here : x < z = rises 0 (omega arith) in
    elim (contains_cases z xs y c) [
      | inl e ↦ omega arith
      | inr h ↦ let more : z < y = first_more z xs (tail_rises x (z ∷ xs) rises) y h in omega arith
    ]

pub rises_of : (xs : List ℕ) → IsStrictlyIncreasing xs → Rises xs
rises_of [] rises = tt
rises_of (x ∷ xs) rises = (first_more x xs rises, rises_of xs (tail_rises x xs rises))

pub of_rises : (xs : List ℕ) → Rises xs → IsStrictlyIncreasing xs
of_rises [] rises k l = absurd (omega arith)
of_rises (x ∷ []) rises k l = absurd (omega arith)
of_rises (x ∷ y ∷ xs) rises zero l = rises.0 y (contains_here y xs)
of_rises (x ∷ y ∷ xs) rises (suc k) l = subst (λ (n : ℕ). slice_index (y ∷ xs) k < slice_index (x ∷ y ∷ xs) n) (sym (next_place k)) (of_rises (y ∷ xs) rises.1 k (omega arith))

-- without one of them they rise still
pub rises_without : (xs : List ℕ) (y : ℕ) (ys : List ℕ) → Rises (xs ++ y ∷ ys) → Rises (xs ++ ys)
rises_without [] y ys rises = rises.1
rises_without (x ∷ xs) y ys rises = (
  λ z c. rises.0 z (elim (contains_parts xs ys z c) [ inl l ↦ contains_front xs (y ∷ ys) z l | inr r ↦ contains_back xs (y ∷ ys) z (contains_later y ys z r) ]),
  rises_without xs y ys rises.1,
)

pub rises_front : (xs ys : List ℕ) → Rises (xs ++ ys) → Rises xs
rises_front [] ys rises = tt
rises_front (x ∷ xs) ys rises = (λ z c. rises.0 z (contains_front xs ys z c), rises_front xs ys rises.1)

pub rising_front : (xs ys : List ℕ) → IsStrictlyIncreasing (xs ++ ys) → IsStrictlyIncreasing xs
rising_front xs ys rises = of_rises xs (rises_front xs ys (rises_of (xs ++ ys) rises))

pub rising_without : (xs : List ℕ) (y : ℕ) (ys : List ℕ) → IsStrictlyIncreasing (xs ++ y ∷ ys) → IsStrictlyIncreasing (xs ++ ys)
rising_without xs y ys rises = of_rises (xs ++ ys) (rises_without xs y ys (rises_of (xs ++ y ∷ ys) rises))

-- ---- each is a choice

-- a choice, as a recursion says it
pub record IsChoice (k : ℕ) (clouds subset : List ℕ) : Type 0 where
  pub count : length subset ≡ k
  pub rises : Rises subset
  pub among : (x : ℕ) → Contains subset x → Contains clouds x

is_one : (k : ℕ) (clouds subset : List ℕ) → Rises clouds → Contains (subsets k clouds) subset → IsChoice k clouds subset
is_one zero clouds subset rises c = elim (contains_cases [] [] subset c) [
  | inl e ↦ subst (IsChoice 0 clouds) e (record { count = refl; rises = tt; among = λ x has. absurd (contains_nothing x has) })
  | inr none ↦ absurd (contains_nothing subset none)
]
is_one (suc k) [] subset rises c = absurd (contains_nothing subset c)
is_one (suc k) (cloud ∷ clouds) subset rises c = elim (contains_parts (map (λ s. cloud ∷ s) (subsets k clouds)) (subsets (suc k) clouds) subset c) [
  | inl one ↦
      let m : From (λ s. cloud ∷ s) (subsets k clouds) subset = mapped_from (λ s. cloud ∷ s) (subsets k clouds) subset one in
      let choice = is_one k clouds m.x rises.1 m.has in
      subst (IsChoice (suc k) (cloud ∷ clouds)) m.is (record {
        count = ap suc choice.count;
        rises = (λ y has. rises.0 y (choice.among y has), choice.rises);
        among = λ x has. elim (contains_cases cloud m.x x has) [
          | inl e ↦ subst (λ (z : ℕ). Contains (cloud ∷ clouds) z) e (contains_here cloud clouds)
          | inr h ↦ contains_later cloud clouds x (choice.among x h)
        ];
      })
  | inr other ↦
      let choice = is_one (suc k) clouds subset rises.1 other in
      record { count = choice.count; rises = choice.rises; among = λ x has. contains_later cloud clouds x (choice.among x has) }
]

-- ---- each choice is one

-- those that are not the first are behind it
among_behind : (cloud : ℕ) (clouds subset : List ℕ) → ((x : ℕ) → Contains subset x → Contains (cloud ∷ clouds) x) → ((x : ℕ) → Contains subset x → cloud < x)
    → (x : ℕ) → Contains subset x → Contains clouds x
among_behind cloud clouds subset among more x has = elim (contains_cases cloud clouds x (among x has)) [
  | inl e ↦ let lt = more x has in absurd (omega arith)
  | inr h ↦ h
]

one_is : (k : ℕ) (clouds subset : List ℕ) → Rises clouds → length subset ≡ k → Rises subset → ((x : ℕ) → Contains subset x → Contains clouds x)
    → Contains (subsets k clouds) subset
one_is zero clouds [] rises count up among = contains_here [] []
one_is zero clouds (x ∷ subset) rises count up among = absurd (omega (arith, count))
one_is (suc k) clouds [] rises count up among = absurd (omega (arith, count))
one_is (suc k) [] (x ∷ subset) rises count up among = absurd (contains_nothing x (among x (contains_here x subset)))
one_is (suc k) (cloud ∷ clouds) (x ∷ subset) rises count up among =
    let fewer : length subset ≡ k = omega (arith, count) in
    let later : (y : ℕ) → Contains subset y → Contains (cloud ∷ clouds) y = λ y has. among y (contains_later x subset y has) in
    elim (contains_cases cloud clouds x (among x (contains_here x subset))) [
      | inl e ↦
          let more : (y : ℕ) → Contains subset y → cloud < y = λ y has. let lt = up.0 y has in omega arith in
          let own = one_is k clouds subset rises.1 fewer up.1 (among_behind cloud clouds subset later more) in
          contains_front (map (λ s. cloud ∷ s) (subsets k clouds)) (subsets (suc k) clouds) (x ∷ subset)
          (subst (λ (z : ℕ). Contains (map (λ s. cloud ∷ s) (subsets k clouds)) (z ∷ subset)) e (contains_mapped (λ s. cloud ∷ s) (subsets k clouds) subset own))
      | inr h ↦
          let above : cloud < x = rises.0 x h in
          let more : (y : ℕ) → Contains (x ∷ subset) y → cloud < y = λ y has. elim (contains_cases x subset y has) [
            | inl e ↦ omega arith
            | inr g ↦ let lt = up.0 y g in omega arith
          ] in
          contains_back (map (λ s. cloud ∷ s) (subsets k clouds)) (subsets (suc k) clouds) (x ∷ subset)
          (one_is (suc k) clouds (x ∷ subset) rises.1 count up (among_behind cloud clouds (x ∷ subset) among more))
    ]

-- ---- their order

before_behind : (x : ℕ) (one other : List ℕ) → IsBefore one other → IsBefore (x ∷ one) (x ∷ other)
before_behind x one other b = record {
  same = x ∷ b.same;
  less = b.less;
  more = b.more;
  rest = b.rest;
  other_rest = b.other_rest;
  one_is = λ i. x ∷ b.one_is i;
  other_is = λ i. x ∷ b.other_is i;
  below = b.below;
}

before_first : (cloud : ℕ) (subset other : List ℕ) (k : ℕ) → length other ≡ suc k → ((x : ℕ) → Contains other x → cloud < x) → IsBefore (cloud ∷ subset) other
before_first cloud subset [] k count more = absurd (omega (arith, count))
before_first cloud subset (y ∷ other) k count more = record {
  same = [];
  less = cloud;
  more = y;
  rest = subset;
  other_rest = other;
  one_is = refl;
  other_is = refl;
  below = more y (contains_here y other);
}

before_across : (k cloud : ℕ) (clouds a b : List ℕ) → Rises (cloud ∷ clouds) → Contains (map (λ s. cloud ∷ s) (subsets k clouds)) a → Contains (subsets (suc k) clouds) b → IsBefore a b
before_across k cloud clouds a b rises one other =
    let m : From (λ s. cloud ∷ s) (subsets k clouds) a = mapped_from (λ s. cloud ∷ s) (subsets k clouds) a one in
    let choice = is_one (suc k) clouds b rises.1 other in
    subst (λ (l : List ℕ). IsBefore l b) m.is (before_first cloud m.x b k choice.count (λ x has. rises.0 x (choice.among x has)))

in_order : (k : ℕ) (clouds : List ℕ) → Rises clouds → Pairs IsBefore (subsets k clouds)
in_order zero clouds rises = (λ y c. absurd (contains_nothing y c), tt)
in_order (suc k) [] rises = tt
in_order (suc k) (cloud ∷ clouds) rises =
    pairs_joined IsBefore (map (λ s. cloud ∷ s) (subsets k clouds)) (subsets (suc k) clouds)
    (pairs_mapped IsBefore (λ s. cloud ∷ s) (subsets k clouds) (pairs_on IsBefore (λ a b. IsBefore (cloud ∷ a) (cloud ∷ b)) (subsets k clouds) (before_behind cloud) (in_order k clouds rises.1)))
    (in_order (suc k) clouds rises.1)
    (λ a b one other. before_across k cloud clouds a b rises one other)

-- ---- the laws

subset_of : (k : ℕ) (clouds : List ℕ) → Rises clouds → (subset : List ℕ) → Contains (subsets k clouds) subset → IsSubset k clouds subset
subset_of k clouds rises subset has =
    let one = is_one k clouds subset rises has in
    record { count = one.count; rises = of_rises subset one.rises; among = all_of (Contains clouds) subset one.among }

pub each_is_subset : (k : ℕ) (clouds : List ℕ) → IsStrictlyIncreasing clouds → All (IsSubset k clouds) (subsets k clouds)
each_is_subset k clouds rises = all_of (IsSubset k clouds) (subsets k clouds) (subset_of k clouds (rises_of clouds rises))

pub subset_is_one : (k : ℕ) (clouds subset : List ℕ) → IsStrictlyIncreasing clouds → IsSubset k clouds subset → Contains (subsets k clouds) subset
subset_is_one k clouds subset rises is =
    one_is k clouds subset (rises_of clouds rises) is.count (rises_of subset is.rises) (λ x has. of_all (Contains clouds) subset x is.among has)

pub subsets_in_order : (k : ℕ) (clouds : List ℕ) → IsStrictlyIncreasing clouds → AllPairs IsBefore (subsets k clouds)
subsets_in_order k clouds rises = pairs_all IsBefore (subsets k clouds) (in_order k clouds (rises_of clouds rises))

-- ---- choices behind those that were made

-- too few are left
pub none_left : (need : ℕ) (rest : List ℕ) → length rest < need → subsets need rest ≡ []
none_left zero rest few = absurd (omega arith)
none_left (suc need) [] few = refl
none_left (suc need) (cloud ∷ rest) few =
    let one : subsets need rest ≡ [] = none_left need rest (omega arith) in
    let other : subsets (suc need) rest ≡ [] = none_left (suc need) rest (omega arith) in
    λ i. map (λ s. cloud ∷ s) (one i) ++ other i

-- each that is among these clouds
pub subset_among : (k : ℕ) (clouds subset : List ℕ) → Contains (subsets k clouds) subset → (x : ℕ) → Contains subset x → Contains clouds x
subset_among zero clouds subset c x has = elim (contains_cases [] [] subset c) [
  | inl e ↦ absurd (contains_nothing x (subst (λ (l : List ℕ). Contains l x) (sym e) has))
  | inr none ↦ absurd (contains_nothing subset none)
]
subset_among (suc k) [] subset c x has = absurd (contains_nothing subset c)
subset_among (suc k) (cloud ∷ clouds) subset c x has = elim (contains_parts (map (λ s. cloud ∷ s) (subsets k clouds)) (subsets (suc k) clouds) subset c) [
  | inl one ↦
      let m : From (λ s. cloud ∷ s) (subsets k clouds) subset = mapped_from (λ s. cloud ∷ s) (subsets k clouds) subset one in
      elim (contains_cases cloud m.x x (subst (λ (l : List ℕ). Contains l x) (sym m.is) has)) [
        | inl e ↦ subst (λ (z : ℕ). Contains (cloud ∷ clouds) z) e (contains_here cloud clouds)
        | inr h ↦ contains_later cloud clouds x (subset_among k clouds m.x m.has x h)
      ]
  | inr other ↦ contains_later cloud clouds x (subset_among (suc k) clouds subset other x has)
]

append_nil : (xs : List ℕ) → xs ++ [] ≡ xs
append_nil xs = append-nil xs

-- none is left to choose
pub behind_none : (chosen rest : List ℕ) → behind chosen 0 rest ≡ chosen ∷ []
behind_none chosen rest = ap (λ (l : List ℕ). l ∷ []) (append_nil chosen)

map_joined : {A B : Type 0} (f : A → B) (xs ys : List A) → map f (xs ++ ys) ≡ map f xs ++ map f ys
map_joined f [] ys = refl
map_joined f (x ∷ xs) ys = let more = map_joined f xs ys in λ i. f x ∷ more i

map_twice : (chosen : List ℕ) (cloud : ℕ) (all : List (List ℕ)) → map (λ s. chosen ++ s) (map (λ s. cloud ∷ s) all) ≡ map (λ s. (chosen ++ cloud ∷ []) ++ s) all
map_twice chosen cloud [] = refl
map_twice chosen cloud (s ∷ all) =
    let more = map_twice chosen cloud all in
    let here : chosen ++ cloud ∷ s ≡ (chosen ++ cloud ∷ []) ++ s = sym (append_assoc chosen (cloud ∷ []) s) in
    λ i. here i ∷ more i

-- with the next cloud, and then without it
pub behind_next : (chosen : List ℕ) (need cloud : ℕ) (rest : List ℕ)
    → behind chosen (suc need) (cloud ∷ rest) ≡ behind (chosen ++ cloud ∷ []) need rest ++ behind chosen (suc need) rest
behind_next chosen need cloud rest =
    map_joined (λ s. chosen ++ s) (map (λ s. cloud ∷ s) (subsets need rest)) (subsets (suc need) rest)
    ∙ ap (λ (l : List (List ℕ)). l ++ behind chosen (suc need) rest) (map_twice chosen cloud (subsets need rest))

map_nothing : (all : List (List ℕ)) → map (λ s. [] ++ s) all ≡ all
map_nothing [] = refl
map_nothing (s ∷ all) = let more = map_nothing all in λ i. s ∷ more i

-- from the start these are all
pub behind_nothing : (need : ℕ) (rest : List ℕ) → behind [] need rest ≡ subsets need rest
behind_nothing need rest = map_nothing (subsets need rest)

-- of just so many there is one choice
pub only_choice : (k : ℕ) (clouds : List ℕ) → length clouds ≡ k → subsets k clouds ≡ clouds ∷ []
only_choice zero [] few = refl
only_choice zero (cloud ∷ clouds) few = absurd (omega (arith, few))
only_choice (suc k) [] few = absurd (omega (arith, few))
only_choice (suc k) (cloud ∷ clouds) few =
    let one : subsets k clouds ≡ clouds ∷ [] = only_choice k clouds (omega (arith, few)) in
    let none : subsets (suc k) clouds ≡ [] = none_left (suc k) clouds (omega (arith, few)) in
    λ i. map (λ s. cloud ∷ s) (one i) ++ none i

no_middle : {A : Type 0} (front : List A) (x : A) (rest : List A) → front ++ x ∷ rest ≡ [] → ⊥
no_middle [] x rest e = cc
no_middle (z ∷ front) x rest e = cc

-- in a list of one that one
pub sole : {A : Type 0} (front : List A) (x : A) (rest : List A) (y : A) → front ++ x ∷ rest ≡ y ∷ [] → x ≡ y
sole [] x rest y e = cc
sole (z ∷ front) x rest y e = absurd (no_middle front x rest (let f : z ∷ (front ++ x ∷ rest) ≡ y ∷ [] = e in cc))

-- where there are enough there is a first
pub first_choice : (k : ℕ) (clouds : List ℕ) → k ≤ length clouds → (first : List ℕ) × (more : List (List ℕ)) × (subsets k clouds ≡ first ∷ more)
first_choice zero clouds le = ([], [], refl)
first_choice (suc k) [] le = absurd (omega arith)
first_choice (suc k) (cloud ∷ clouds) le =
    let f = first_choice k clouds (omega arith) in
    (cloud ∷ f.0, map (λ s. cloud ∷ s) f.1 ++ subsets (suc k) clouds, λ i. map (λ s. cloud ∷ s) (f.2 i) ++ subsets (suc k) clouds)
