-- Who owns a fingerprint, by the map of owners, and whether what is owned has a place.
use Rattle.std.proofs.Common.{◌≡◌, ℕ, ◌<◌, true, false, cond, List, [], ◌∷◌, Option, Some, None, refl, sym, ap, ◌∙◌, arith, sum_by, true≢false}
use Rattle.std.specs.Prelude.{Bool, IsSome, is_some, is_none}
use Rattle.std.proofs.lemmas.List.Sums.{sum_by-cons}
use Rattle.std.specs.Ordering.{eq_by_cmp, is_eq}
use Rattle.std.specs.Cmp.{tied_itself}
use Rattle.std.specs.FinMap.{find, FinMap, get, entries, get-entries}
use Rattle.pool_map.specs.MapSums.{sum_by-remove, sum_by-alike}
use Rattle.pool_map.specs.Shown.{shown}
use Rattle.pool_map.specs.Charges.{is_eq-at}
use Rattle.share_index.specs.declared.key.Kept.{Kept}
use Rattle.share_index.specs.declared.key.Owner.{Owner}
use Rattle.share_index.specs.Order.{owner_cmp, owner_of, owner_exact}
use Rattle.cd_base.specs.Order.{fp_cmp, fp_exact}
use Rattle.share_index.specs.Placed.{AreAllPlaced}
use Rattle.share_index.specs.Shares.{owners_of}
use Rattle.share_index.specs.Indexed.{place_in, IsIndexed}
use Rattle.share_index.specs.Owning.{Owners}
use Rattle.share_index.specs.Placing.{Places}
use Rattle.share_index.proofs.Indexing.{present-place, same}
use Rattle.share_index.proofs.Placing.{fp_total}
use Rattle.share_index.proofs.Owning.{owner_total}

valued : {A : Type 0} (o : Option A) → is_some o ≡ true → (x : A) × (o ≡ Some x)
valued None e = absurd (true≢false (sym e))
valued (Some x) e = (x, refl)

-- a fingerprint that a user owns has an owner
pub owner-counts : (owners : FinMap owner_cmp ℕ) (user : ℕ) (fp : List ℕ) → IsSome (get owners (owner_of user fp)) → 0 < owners_of owners fp
owner-counts owners user fp owned =
    let v = valued (get owners (owner_of user fp)) owned in
    let taken = sum_by-remove owner_total owner_exact (λ (e : Owner × ℕ). same fp e.0) owners (owner_of user fp) v.0 v.1 in
    let one : same fp (owner_of user fp) ≡ 1 = ap (λ b. cond (is_eq b) 1 0) (tied_itself fp_total fp) in
    omega (arith, taken, one)

found : (fp : List ℕ) (es : List (Owner × ℕ)) → 0 < sum_by (λ (e : Owner × ℕ). same fp e.0) es → (user : ℕ) × (is_some (find owner_cmp (owner_of user fp) es) ≡ true)
found fp [] some = absurd (omega (arith, some))
found fp (e ∷ es) some = by_test (eq_by_cmp fp_cmp e.0.fp fp) refl (λ more. found fp es more)
  where
    later : (b : Bool) (v : ℕ) (o : Option ℕ) → is_some o ≡ true → is_some (cond b (Some v) o) ≡ true
    later true v o is = refl
    later false v o is = is

    by_test : (b : Bool) → eq_by_cmp fp_cmp e.0.fp fp ≡ b → (0 < sum_by (λ (x : Owner × ℕ). same fp x.0) es → (user : ℕ) × (is_some (find owner_cmp (owner_of user fp) es) ≡ true)) → (user : ℕ) × (is_some (find owner_cmp (owner_of user fp) (e ∷ es)) ≡ true)
    by_test true t goes_on =
        let key : owner_of e.0.user fp ≡ e.0 = ap (owner_of e.0.user) (sym (fp_exact e.0.fp fp (is_eq-at _ t))) in
        let tied : eq_by_cmp owner_cmp (owner_of e.0.user fp) e.0 ≡ true = ap (λ k. is_eq (owner_cmp k e.0)) key ∙ ap is_eq (tied_itself owner_total e.0) in
        (e.0.user, ap (λ b. is_some (cond b (Some e.1) (find owner_cmp (owner_of e.0.user fp) es))) tied)
    by_test false t goes_on =
        let none : same fp e.0 ≡ 0 = ap (λ b. cond b 1 0) t in
        let rest = goes_on (omega (arith, some, none, sum_by-cons (λ (x : Owner × ℕ). same fp x.0) e es)) in
        (rest.0, later (eq_by_cmp owner_cmp (owner_of rest.0 fp) e.0) e.1 (find owner_cmp (owner_of rest.0 fp) es) rest.1)

-- one that has an owner is some user's
pub owner-found : (owners : FinMap owner_cmp ℕ) (fp : List ℕ) → 0 < owners_of owners fp → (user : ℕ) × IsSome (get owners (owner_of user fp))
owner-found owners fp some =
    let is = found fp (entries owners) some in
    (is.0, ap is_some (get-entries owners (owner_of is.0 fp)) ∙ is.1)

zeros : (es : List (Owner × ℕ)) → sum_by (λ (e : Owner × ℕ). 0) es ≡ 0
zeros [] = refl
zeros (e ∷ es) = omega (arith, sum_by-cons (λ (e : Owner × ℕ). 0) e es, zeros es)

module _ (p : Places) (o : Owners) (n : ℕ) (is : IsIndexed p o n) where
  -- 1 where nothing is kept
  abbrev lack : Option Kept → ℕ
  lack x = cond (is_none x) 1 0

  abbrev lacks : Owner → ℕ
  lacks k = lack (get p.kept k.fp)

  has_place : (x : Option Kept) → lack x ≡ 0 → is_some x ≡ true
  has_place None e = absurd (omega (arith, e))
  has_place (Some k) e = refl

  lacks_none : (x : Option Kept) → is_some x ≡ true → lack x ≡ 0
  lacks_none None e = absurd (true≢false (sym e))
  lacks_none (Some k) e = refl

  -- where no owner lacks a place, all that is owned has one
  pub placed-at_none : n ≡ 0 → AreAllPlaced (shown place_in p.kept) o.owners
  placed-at_none none = λ user fp owned.
      let v = valued (get o.owners (owner_of user fp)) owned in
      let taken = sum_by-remove owner_total owner_exact (λ (e : Owner × ℕ). lacks e.0) o.owners (owner_of user fp) v.0 v.1 in
      let was = is.left in
      let here : lacks (owner_of user fp) ≡ 0 = omega (arith, taken, was, none) in
      present-place p.kept fp ∙ has_place (get p.kept fp) here

  pub none-at_placed : AreAllPlaced (shown place_in p.kept) o.owners → n ≡ 0
  none-at_placed all =
      is.left
      ∙ sum_by-alike owner_total owner_exact (λ (e : Owner × ℕ). lacks e.0) (λ (e : Owner × ℕ). 0) o.owners (λ k v at.
      lacks_none (get p.kept k.fp) (sym (present-place p.kept k.fp) ∙ all k.user k.fp (ap is_some at)))
      ∙ zeros (entries o.owners)
