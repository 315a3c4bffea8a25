-- How many users own a fingerprint, by the map of owners.
use Rattle.std.proofs.Common.{◌≡◌, ℕ, ◌<◌, true, cond, List, [], ◌∷◌, Some, refl, sym, ap, ◌∙◌, arith, sum_by}
use Rattle.std.proofs.lemmas.Bool.{false_from_ne_true}
use Rattle.std.proofs.lemmas.List.Sums.{sum_by-cons}
use Rattle.std.specs.declared.cmp.Ordering.{Ordering}
use Rattle.std.specs.declared.cmp.Ordering.TheVariants.{Less, Equal, Greater}
use Rattle.std.specs.Ordering.{eq_by_cmp, is_eq}
use Rattle.std.specs.Cmp.{tied_itself}
use Rattle.std.specs.FinMap.{FinMap, get, entries}
use Rattle.cloud_memory.specs.PoolMap.MapSums.{sum_by-remove, sum_by-alike}
use Rattle.cloud_memory.specs.ShareIndex.key.Owner.{Owner}
use Rattle.cloud_memory.specs.ShareIndex.Order.{owner_cmp, owner_of, owner_exact}
use Rattle.cloud_memory.specs.CdBase.Order.{fp_cmp, fp_exact}
use Rattle.cloud_memory.specs.ShareIndex.Shares.{owners_of}
use Rattle.cloud_memory.proofs.ShareIndexLaws.Placing.{fp_total}
use Rattle.cloud_memory.proofs.ShareIndexLaws.Owning.{owner_total}
use Rattle.cloud_memory.proofs.ShareIndexLaws.Indexing.{same}

is_eq-at : (r : Ordering) → is_eq r ≡ true → r ≡ Equal
is_eq-at Less e = let no : is_eq Less ≡ true = e in cc
is_eq-at Equal e = refl
is_eq-at Greater e = let no : is_eq Greater ≡ true = e in cc

-- a fingerprint that a user owns has an owner
pub owners_some : (owners : FinMap owner_cmp ℕ) (user : ℕ) (fp : List ℕ) (uses : ℕ) → get owners (owner_of user fp) ≡ Some uses → 0 < owners_of owners fp
owners_some owners user fp uses at =
    let taken = sum_by-remove owner_total owner_exact (λ (e : Owner × ℕ). same fp e.0) owners (owner_of user fp) uses at in
    let one : same fp (owner_of user fp) ≡ 1 = ap (λ b. cond (is_eq b) 1 0) (tied_itself fp_total fp) in
    omega (arith, taken, one)

zeros : (es : List (Owner × ℕ)) → sum_by (λ _. 0) es ≡ 0
zeros [] = refl
zeros (e ∷ es) = omega (arith, sum_by-cons (λ (e : Owner × ℕ). 0) e es, zeros es)

-- one that no user owns has none
pub owners_none : (owners : FinMap owner_cmp ℕ) (fp : List ℕ) → ((user uses : ℕ) → get owners (owner_of user fp) ≡ Some uses → ⊥) → owners_of owners fp ≡ 0
owners_none owners fp none =
    sum_by-alike owner_total owner_exact (λ (e : Owner × ℕ). same fp e.0) (λ _. 0) owners other ∙ zeros (entries owners)
  where
    other : (k : Owner) (v : ℕ) → get owners k ≡ Some v → same fp k ≡ 0
    other k v at =
        ap (λ b. cond b 1 0)
        (false_from_ne_true (eq_by_cmp fp_cmp k.fp fp) (λ t. none k.user v (ap (λ f. get owners (owner_of k.user f)) (sym (fp_exact k.fp fp (is_eq-at (fp_cmp k.fp fp) t))) ∙ at)))
