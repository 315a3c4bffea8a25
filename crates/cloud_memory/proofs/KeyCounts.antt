-- How many keys of a map pass a test, by a list of them.
use Rattle.std.proofs.Common.{◌≡◌, ℕ, suc, ◌+◌, ◌≤◌, Bool, true, false, cond, List, [], ◌∷◌, length, Option, Some, None, refl, sym, ap, ◌∙◌, subst, arith, inl, inr}
use Rattle.std.specs.Prelude.{is_some, IsSome, sum_by}
use Rattle.std.specs.List.{Contains}
use Rattle.std.specs.declared.cmp.Ordering.{Ordering}
use Rattle.std.specs.Ordering.{eq_by_cmp, is_eq}
use Rattle.std.specs.Cmp.{IsTotalOrder, tied_itself}
use Rattle.std.specs.FinMap.{find, FinMap, get, remove, len, len-entries, entries, get-entries, get-remove, same_map, IsAntisymmetric}
use Rattle.std.proofs.lemmas.List.Sums.{sum_by-cons}
use Rattle.file_index.specs.PoolMap.MapSums.{sum_by-remove}
use Rattle.cloud_areas.proofs.UserDedup.Owned.{contains_here, contains_later, contains_nothing, contains_cases}
use Rattle.cloud_areas.proofs.UserDedup.Once.{Once}
use Rattle.cloud_memory.proofs.Keys.{is_eq-at}

pub none_found : {X : Type 0} (t : Bool) (x : X) (o : Option X) → cond t (Some x) o ≡ None → (t ≡ false) × (o ≡ None)
none_found true x o e = absurd (let no : Some x ≡ None = e in cc)
none_found false x o e = (refl, e)

pub itself : {K : Type 0} {R : K → K → Ordering} → IsTotalOrder R → (k : K) → eq_by_cmp R k k ≡ true
itself total k = ap is_eq (tied_itself total k)

module _ {K X : Type 0} {R : K → K → Ordering} (total : IsTotalOrder R) (exact : IsAntisymmetric R) (test : K → Bool) where
  abbrev one : K × X → ℕ
  one e = cond (test e.0) 1 0

  no_keys : (es : List (K × X)) → ((k : K) → test k ≡ true → find R k es ≡ None) → sum_by one es ≡ 0
  no_keys [] none = refl
  no_keys (e ∷ es) none =
      by_test (test e.0) refl (sum_by-cons one e es)
      (no_keys es (λ k t. (none_found (eq_by_cmp R k e.0) e.1 (find R k es) (none k t)).1))
    where
      by_test : (b : Bool) → test e.0 ≡ b → sum_by one (e ∷ es) ≡ one e + sum_by one es → sum_by one es ≡ 0 → sum_by one (e ∷ es) ≡ 0
      by_test true is sum rest =
          absurd (let off = (none_found (eq_by_cmp R e.0 e.0) e.1 (find R e.0 es) (none e.0 is)).0 in
          let no : true ≡ false = sym (itself total e.0) ∙ off in cc)
      by_test false is sum rest = let here : one e ≡ 0 = ap (λ (b : Bool). cond b 1 0) is in omega (arith, sum, rest, here)

  absent : (m : FinMap R X) (k : K) → get m k ≡ None → remove m k ≡ m
  absent m k none = same_map total exact _ _ (λ q. get-remove total m k q ∙ by_test q (eq_by_cmp R q k) refl)
    where
      by_test : (q : K) (b : Bool) → eq_by_cmp R q k ≡ b → cond b None (get m q) ≡ get m q
      by_test q true t = sym (ap (get m) (exact q k (is_eq-at (R q k) t)) ∙ none)
      by_test q false t = refl

  one_less : (m : FinMap R X) (k : K) → sum_by one (entries m) ≤ 1 + sum_by one (entries (remove m k))
  one_less m k = by_get (get m k) refl
    where
      small : (b : Bool) → cond b 1 0 ≤ 1
      small true = omega arith
      small false = omega arith

      by_get : (o : Option X) → get m k ≡ o → sum_by one (entries m) ≤ 1 + sum_by one (entries (remove m k))
      by_get None is = let same = ap (λ (n : FinMap R X). sum_by one (entries n)) (absent m k is) in omega (arith, same)
      by_get (Some x) is = let sum = sum_by-remove total exact one m k x is in let le = small (test k) in omega (arith, sum, le)

  -- what is left without one key
  left : (m : FinMap R X) (x k : K) → IsSome (get (remove m x) k) → (eq_by_cmp R k x ≡ false) × IsSome (get m k)
  left m x k some = by_test (eq_by_cmp R k x) (ap is_some (sym (get-remove total m x k)) ∙ some)
    where
      by_test : (b : Bool) → is_some (cond b None (get m k)) ≡ true → (b ≡ false) × IsSome (get m k)
      by_test true e = absurd (let no : false ≡ true = e in cc)
      by_test false e = (refl, e)

  -- at most as many as there are in a list that has all of them
  pub few_keys : (m : FinMap R X) (xs : List K) → ((k : K) → test k ≡ true → IsSome (get m k) → Contains xs k) → sum_by one (entries m) ≤ length xs
  few_keys m [] among =
      let none = no_keys (entries m) (λ k t. by_found k t (get m k) refl) in
      omega (arith, none)
    where
      by_found : (k : K) → test k ≡ true → (o : Option X) → get m k ≡ o → find R k (entries m) ≡ None
      by_found k t None is = sym (get-entries m k) ∙ is
      by_found k t (Some x) is = absurd (contains_nothing k (among k t (ap is_some is)))
  few_keys m (x ∷ xs) among =
      let rest = few_keys (remove m x) xs (λ k t some.
      let l = left m x k some in
      elim (contains_cases x xs k (among k t l.1)) [
        | inl same ↦ absurd (let no : true ≡ false = sym (itself total k) ∙ ap (eq_by_cmp R k) (sym same) ∙ l.0 in cc)
        | inr later ↦ later
      ]) in
      let step = one_less m x in
      omega (arith, rest, step)

  -- at least as many as there are in a list of some of them
  pub many_keys : (m : FinMap R X) (xs : List K) → Once xs → ((k : K) → Contains xs k → (test k ≡ true) × IsSome (get m k)) → length xs ≤ sum_by one (entries m)
  many_keys m [] once here = omega arith
  many_keys m (x ∷ xs) once here =
      by_get (get m x) refl
      (many_keys (remove m x) xs once.1 (λ k c.
      let had = here k (contains_later x xs k c) in
      (had.0, ap is_some (get-remove total m x k) ∙ by_test k c (eq_by_cmp R k x) refl had.1)))
    where
      by_test : (k : K) → Contains xs k → (b : Bool) → eq_by_cmp R k x ≡ b → is_some (get m k) ≡ true → is_some (cond b None (get m k)) ≡ true
      by_test k c true t some = absurd (once.0 (subst (λ y. Contains xs y) (exact k x (is_eq-at (R k x) t)) c))
      by_test k c false t some = some

      by_get : (o : Option X) → get m x ≡ o → length xs ≤ sum_by one (entries (remove m x)) → suc (length xs) ≤ sum_by one (entries m)
      by_get None is rest = absurd (let no : false ≡ true = sym (ap is_some is) ∙ (here x (contains_here x xs)).1 in cc)
      by_get (Some v) is rest =
          let sum = sum_by-remove total exact one m x v is in
          let first : one (x, v) ≡ 1 = ap (λ (b : Bool). cond b 1 0) (here x (contains_here x xs)).0 in
          omega (arith, sum, first, rest)

-- all of them
pub all_keys : {K X : Type 0} {R : K → K → Ordering} (m : FinMap R X) → sum_by (λ (e : K × X). cond true 1 0) (entries m) ≡ len m
all_keys {K} {X} m = ones (entries m) ∙ sym (len-entries m)
  where
    ones : (es : List (K × X)) → sum_by (λ (e : K × X). cond true 1 0) es ≡ length es
    ones [] = refl
    ones (e ∷ es) = let sum = sum_by-cons (λ (e : K × X). cond true 1 0) e es in let rest = ones es in omega (arith, sum, rest)
