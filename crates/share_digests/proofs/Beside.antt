-- Shares that are put side by side, one after another.
use Rattle.std.proofs.Common.{◌≡◌, ℕ, ◌+◌, ◌<◌, ◌≤◌, List, [], ◌∷◌, ◌++◌, length, map, take, slice_index_or, slice_set, refl, sym, ap, ◌∙◌, arith, append_assoc, append-nil, length-append}
use Rattle.std.proofs.lemmas.List.{take_more_set, map-set, take-map, length-map, length-take-le, get_or_append_left}
use Rattle.sha2.specs.Sha256.{sha256}
use Rattle.share_digests.specs.Digests.{IsRightAt}

module _ {A : Type 0} (f : A → List ℕ) (xs : List A) (rest shares : List (List ℕ)) (place : ℕ) (far : place ≤ length xs)
    (so : take place (map f xs) ++ rest ≡ shares) where
  long : length shares ≡ place + length rest
  long =
      sym (ap length so) ∙ length-append (take place (map f xs)) rest
      ∙ ap (λ (n : ℕ). n + length rest) (length-take-le place (map f xs) (omega (arith, length-map xs f)))

  pub none_left : {P : Type 0} → rest ≡ [] → place < length shares → P
  none_left none less = absurd (let e = ap length none in omega (arith, long, e))

  pub one_more : (x : A) (more : List (List ℕ)) → rest ≡ f x ∷ more → place < length xs → take (place + 1) (map f (slice_set xs place x)) ++ more ≡ shares
  one_more x more next less =
      ap (λ (l : List (List ℕ)). take (place + 1) l ++ more) (map-set f xs place x)
      ∙ ap (λ (l : List (List ℕ)). l ++ more) (take_more_set (map f xs) place (f x) (omega (arith, length-map xs f)))
      ∙ append_assoc (take place (map f xs)) (f x ∷ []) more
      ∙ ap (λ (l : List (List ℕ)). take place (map f xs) ++ l) (sym next) ∙ so

  empty : (l : List (List ℕ)) → length l ≡ 0 → l ≡ []
  empty [] e = refl
  empty (x ∷ l) e = absurd (omega arith)

  pub all_beside : length shares ≤ place → take (length shares) (map f xs) ≡ shares
  all_beside le =
      let none : rest ≡ [] = empty rest (omega (arith, long)) in
      let same : length shares ≡ place = long ∙ ap (λ (l : List (List ℕ)). place + length l) none ∙ omega arith in
      ap (λ (n : ℕ). take n (map f xs)) same ∙ sym (append-nil (take place (map f xs))) ∙ ap (λ (l : List (List ℕ)). take place (map f xs) ++ l) (sym none) ∙ so

-- the digests of those that stand side by side, with others behind them
module _ {A : Type 0} (f : A → List ℕ) (parts : List A) (shares : List (List ℕ)) (n : ℕ) (all : n ≡ length shares)
    (beside : take (length shares) (map f parts) ≡ shares) where
  same : map f (take n parts) ≡ shares
  same = sym (take-map f n parts) ∙ ap (λ (k : ℕ). take k (map f parts)) all ∙ beside

  pub length-parts : length (take n parts) ≡ n
  length-parts = sym (length-map (take n parts) f) ∙ ap length same ∙ sym all

  pub right_of_shares : (digests tail : List (List ℕ)) (place : ℕ) → length digests ≡ n → place < n → IsRightAt (map f (take n parts)) digests place
      → slice_index_or (digests ++ tail) place [] ≡ sha256 (slice_index_or shares place [])
  right_of_shares digests tail place long less right =
      get_or_append_left digests tail [] place (omega arith) ∙ right ∙ ap (λ (l : List (List ℕ)). sha256 (slice_index_or l place [])) same
