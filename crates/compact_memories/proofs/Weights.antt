-- A sum over the keys of a map that pass a test, by a list of them.
use Rattle.std.proofs.Common.{◌≡◌, ℕ, ◌+◌, Bool, true, false, cond, List, [], ◌∷◌, map, Option, Some, None, refl, sym, ap, ◌∙◌, subst, arith, inl, inr}
use Rattle.std.specs.Prelude.{is_some, IsSome, sum_by}
use Rattle.std.specs.List.{Contains}
use Rattle.std.specs.declared.cmp.Ordering.{Ordering}
use Rattle.std.specs.Ordering.{eq_by_cmp}
use Rattle.std.specs.Cmp.{IsTotalOrder}
use Rattle.std.specs.FinMap.{find, FinMap, get, remove, entries, get-entries, get-remove, IsAntisymmetric}
use Rattle.std.proofs.lemmas.List.Sums.{sum_by-cons}
use Rattle.checkpoints.specs.PoolMap.MapSums.{sum_by-remove}
use Rattle.compact_lists.proofs.UserDedup.Owned.{contains_here, contains_later, contains_nothing, contains_cases}
use Rattle.compact_lists.proofs.UserDedup.Once.{Once}
use Rattle.checkpoints.proofs.CloudMemoryLaws.Keys.{is_eq-at}
use Rattle.checkpoints.proofs.CloudAreas.Lists.{from_map}
use Rattle.checkpoints.proofs.CloudMemoryLaws.KeyCounts.{none_found, itself}

pub once_map : {X Y : Type 0} (f : X → Y) → ((a b : X) → f a ≡ f b → a ≡ b) → (xs : List X) → Once xs → Once (map f xs)
once_map f apart [] once = tt
once_map f apart (x ∷ xs) once = (
  λ c. let g = from_map f xs (f x) c in once.0 (subst (Contains xs) (apart g.0 x g.2) g.1),
  once_map f apart xs once.1,
)

module _ {K X : Type 0} {R : K → K → Ordering} (total : IsTotalOrder R) (exact : IsAntisymmetric R) (test : K → Bool) (v : K × X → ℕ) where
  abbrev w : K × X → ℕ
  w e = cond (test e.0) (v e) 0

  no_keys : (es : List (K × X)) → ((k : K) → test k ≡ true → find R k es ≡ None) → sum_by w es ≡ 0
  no_keys [] none = refl
  no_keys (e ∷ es) none =
      by_test (test e.0) refl (sum_by-cons w e es)
      (no_keys es (λ k t. (none_found (eq_by_cmp R k e.0) e.1 (find R k es) (none k t)).1))
    where
      by_test : (b : Bool) → test e.0 ≡ b → sum_by w (e ∷ es) ≡ w e + sum_by w es → sum_by w es ≡ 0 → sum_by w (e ∷ es) ≡ 0
      by_test true is sum rest =
          absurd (let off = (none_found (eq_by_cmp R e.0 e.0) e.1 (find R e.0 es) (none e.0 is)).0 in
          let no : true ≡ false = sym (itself total e.0) ∙ off in cc)
      by_test false is sum rest = let here : w e ≡ 0 = ap (λ (b : Bool). cond b (v e) 0) is in omega (arith, sum, rest, here)

  -- what is left without one key
  left : (m : FinMap R X) (x k : K) → IsSome (get (remove m x) k) → (eq_by_cmp R k x ≡ false) × IsSome (get m k)
  left m x k some = by_test (eq_by_cmp R k x) (ap is_some (sym (get-remove total m x k)) ∙ some)
    where
      by_test : (b : Bool) → is_some (cond b None (get m k)) ≡ true → (b ≡ false) × IsSome (get m k)
      by_test true e = absurd (let no : false ≡ true = e in cc)
      by_test false e = (refl, e)

  still : (m : FinMap R X) (x k : K) (y : X) → get (remove m x) k ≡ Some y → get m k ≡ Some y
  still m x k y at = by_test (eq_by_cmp R k x) (sym (get-remove total m x k) ∙ at)
    where
      by_test : (b : Bool) → cond b None (get m k) ≡ Some y → get m k ≡ Some y
      by_test true e = absurd (let no : ◌≡◌ {A = Option X} None (Some y) = e in cc)
      by_test false e = e

  -- where the list has just the keys that are there and pass the test, each once
  pub sum_keys : (f : K → ℕ) (m : FinMap R X) (xs : List K) → Once xs
      → ((k : K) → Contains xs k → (test k ≡ true) × IsSome (get m k))
      → ((k : K) → test k ≡ true → IsSome (get m k) → Contains xs k)
      → ((k : K) (x : X) → Contains xs k → get m k ≡ Some x → v (k, x) ≡ f k)
      → sum_by w (entries m) ≡ sum_by f xs
  sum_keys f m [] once here all val = no_keys (entries m) (λ k t. by_found k t (get m k) refl)
    where
      by_found : (k : K) → test k ≡ true → (o : Option X) → get m k ≡ o → find R k (entries m) ≡ None
      by_found k t None is = sym (get-entries m k) ∙ is
      by_found k t (Some x) is = absurd (contains_nothing k (all k t (ap is_some is)))
  sum_keys f m (x ∷ xs) once here all val =
      by_get (get m x) refl
      (sum_keys f (remove m x) xs once.1
      (λ k c. let had = here k (contains_later x xs k c) in (had.0, ap is_some (get-remove total m x k) ∙ by_test k c (eq_by_cmp R k x) refl had.1))
      (λ k t some.
      let l = left m x k some in
      elim (contains_cases x xs k (all k t l.1)) [
        | inl same ↦ absurd (let no : true ≡ false = sym (itself total k) ∙ ap (eq_by_cmp R k) (sym same) ∙ l.0 in cc)
        | inr later ↦ later
      ])
      (λ k y c at. val k y (contains_later x xs k c) (still m x k y at)))
    where
      by_test : (k : K) → Contains xs k → (b : Bool) → eq_by_cmp R k x ≡ b → is_some (get m k) ≡ true → is_some (cond b None (get m k)) ≡ true
      by_test k c true t some = absurd (once.0 (subst (λ y. Contains xs y) (exact k x (is_eq-at (R k x) t)) c))
      by_test k c false t some = some

      by_get : (o : Option X) → get m x ≡ o → sum_by w (entries (remove m x)) ≡ sum_by f xs → sum_by w (entries m) ≡ sum_by f (x ∷ xs)
      by_get None is rest = absurd (let no : false ≡ true = sym (ap is_some is) ∙ (here x (contains_here x xs)).1 in cc)
      by_get (Some u) is rest =
          let sum = sum_by-remove total exact w m x u is in
          let first : w (x, u) ≡ v (x, u) = ap (λ (b : Bool). cond b (v (x, u)) 0) (here x (contains_here x xs)).0 in
          let value = val x u (contains_here x xs) is in
          let one = sum_by-cons f x xs in
          omega (arith, sum, first, value, one, rest)
