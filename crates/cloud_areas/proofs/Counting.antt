-- How long lists are whose elements are all of some others, or belong to a few users.
use Rattle.std.proofs.Common.{◌≡◌, inl, inr, ℕ, zero, suc, ◌*◌, ◌<◌, ◌≤◌, Bool, true, false, cond, List, [], ◌∷◌, ◌++◌, length, refl, sym, ap, subst, arith, eq-eqb, length-append}
use Rattle.std.specs.Prelude.{filter, not, ◌==◌}
use Rattle.std.specs.List.{Contains, sum_by}
use Rattle.std.proofs.lemmas.Bool.{cases_eq}
use Rattle.std.proofs.lemmas.List.Sums.{sum_by-cons}
use Rattle.std.proofs.lemmas.List.Filters.{sum_by-filter_both}
use Rattle.std.proofs.lemmas.List.Elements.{Contains-append_left, Contains-append_right, Contains-append_cases}
use Rattle.user_dedup.proofs.Owned.{contains_here, contains_later, contains_nothing, contains_cases}
use Rattle.user_dedup.proofs.Filtered.{in_filter}
use Rattle.cloud_areas.proofs.Apart.{Apart}

-- ---- all of them of some others

pub record IsSplit {X : Type 0} (xs : List X) (x : X) : Type 0 where
  pub before : List X
  pub after : List X
  pub is : xs ≡ before ++ x ∷ after

pub split_at : {X : Type 0} (xs : List X) (x : X) → Contains xs x → IsSplit xs x
split_at [] x c = absurd (contains_nothing x c)
split_at (y ∷ xs) x c = elim (contains_cases y xs x c) [
  | inl same ↦ record { before = []; after = xs; is = ap (λ z. z ∷ xs) same }
  | inr later ↦ (let s = split_at xs x later in record { before = y ∷ s.before; after = s.after; is = ap (λ l. y ∷ l) s.is })
]

pub beside : {X : Type 0} (before after : List X) (x z : X) → (x ≡ z → ⊥) → Contains (before ++ x ∷ after) z → Contains (before ++ after) z
beside before after x z other c = elim (Contains-append_cases before (x ∷ after) z c) [
  | inl l ↦ Contains-append_left before after z l
  | inr r ↦ elim (contains_cases x after z r) [ inl same ↦ absurd (other same) | inr later ↦ Contains-append_right before after z later ]
]

-- where none comes twice, there are no more than of the others
pub fewer : {X : Type 0} (xs ys : List X) → Apart xs → ((x : X) → Contains xs x → Contains ys x) → length xs ≤ length ys
fewer [] ys apart among = omega arith
fewer (x ∷ xs) ys apart among =
    let s = split_at ys x (among x (contains_here x xs)) in
    let rest = fewer xs (s.before ++ s.after) apart.1
    (λ z c. beside s.before s.after x z (λ same. apart.0 (subst (Contains xs) (sym same) c)) (subst (λ l. Contains l z) s.is (among z (contains_later x xs z c)))) in
    omega (arith, rest, ap length s.is, length-append s.before s.after, length-append s.before (x ∷ s.after))

-- ---- of a few users

module _ {X : Type 0} (w : X → ℕ) (user : X → ℕ) where
  abbrev of : ℕ → X → Bool
  of u x = user x == u

  abbrev not_of : ℕ → X → Bool
  not_of u x = not (user x == u)

  sum_less : (p : X → Bool) (xs : List X) → sum_by w (filter p xs) ≤ sum_by w xs
  sum_less p [] = omega arith
  sum_less p (x ∷ xs) = by_test (p x) (sum_less p xs)
    where
      by_test : (b : Bool) → sum_by w (filter p xs) ≤ sum_by w xs → sum_by w (cond b (x ∷ filter p xs) (filter p xs)) ≤ sum_by w (x ∷ xs)
      by_test true rest = omega (arith, rest, sum_by-cons w x xs, sum_by-cons w x (filter p xs))
      by_test false rest = omega (arith, rest, sum_by-cons w x xs)

  filters_swap : (p q : X → Bool) (xs : List X) → filter p (filter q xs) ≡ filter q (filter p xs)
  filters_swap p q [] = refl
  filters_swap p q (x ∷ xs) = by_test (p x) refl (q x) refl (filters_swap p q xs)
    where
      by_test : (a : Bool) → p x ≡ a → (b : Bool) → q x ≡ b → filter p (filter q xs) ≡ filter q (filter p xs)
          → filter p (cond b (x ∷ filter q xs) (filter q xs)) ≡ filter q (cond a (x ∷ filter p xs) (filter p xs))
      by_test true pt true qt same = rw (pt, qt) (ap (λ l. x ∷ l) same)
      by_test true pt false qt same = rw qt same
      by_test false pt true qt same = rw pt same
      by_test false pt false qt same = same

  pub without_less : (u v : ℕ) (xs : List X) → sum_by w (filter (of u) (filter (not_of v) xs)) ≤ sum_by w (filter (of u) xs)
  without_less u v xs = subst (λ l. sum_by w l ≤ sum_by w (filter (of u) xs)) (sym (filters_swap (of u) (not_of v) xs)) (sum_less (not_of v) (filter (of u) xs))

  pub own_without : (u : ℕ) (xs : List X) → filter (of u) (filter (not_of u) xs) ≡ []
  own_without u [] = refl
  own_without u (x ∷ xs) = by_test (user x == u) refl (own_without u xs)
    where
      by_test : (b : Bool) → (user x == u) ≡ b → filter (of u) (filter (not_of u) xs) ≡ [] → filter (of u) (cond (not b) (x ∷ filter (not_of u) xs) (filter (not_of u) xs)) ≡ []
      by_test true is none = none
      by_test false is none = rw is none

  pub no_weight : (xs : List X) (x : X) → Contains xs x → w x ≤ sum_by w xs
  no_weight [] x c = absurd (contains_nothing x c)
  no_weight (y ∷ xs) x c = elim (contains_cases y xs x c) [
    | inl same ↦ subst (λ z. w z ≤ sum_by w (y ∷ xs)) same (omega (arith, sum_by-cons w y xs))
    | inr later ↦ (let rest = no_weight xs x later in omega (arith, rest, sum_by-cons w y xs))
  ]

  pub all_nothing : (xs : List X) → ((x : X) → Contains xs x → w x ≡ 0) → sum_by w xs ≡ 0
  all_nothing [] none = refl
  all_nothing (x ∷ xs) none = omega (arith, none x (contains_here x xs), all_nothing xs (λ y c. none y (contains_later x xs y c)), sum_by-cons w x xs)

  -- Where each of the first users has at most so much, and no other has anything, all together have at most so much times their number.
  pub grouped : (n most : ℕ) (xs : List X) → ((u : ℕ) → u < n → sum_by w (filter (of u) xs) ≤ most) → ((u : ℕ) → n ≤ u → sum_by w (filter (of u) xs) ≡ 0)
      → sum_by w xs ≤ n * most
  grouped zero most xs below none =
      let all = all_nothing xs (λ x c.
      let own = no_weight (filter (of (user x)) xs) x (in_filter (of (user x)) xs x c (eq-eqb (user x) (user x) refl)) in
      omega (arith, own, none (user x) (omega arith))) in
      omega (arith, all)
  grouped (suc n) most xs below none =
      let rest = grouped n most (filter (not_of n) xs)
      (λ u lt. omega (arith, without_less u n xs, below u (omega arith)))
      (λ u ge. elim (cases_eq u n) [
        | inl same ↦ ap (sum_by w) (subst (λ (v : ℕ). filter (of v) (filter (not_of n) xs) ≡ []) (sym same) (own_without n xs))
        | inr other ↦ omega (arith, without_less u n xs, none u (omega (arith, other, ge)))
      ]) in
      let both = sum_by-filter_both (of n) (not_of n) (λ x. refl) w xs in
      omega (arith, rest, both, below n (omega arith))
