-- What a use fewer does to the owners, and to the places of what has an owner fewer.
use Rattle.std.proofs.Common.{◌≡◌, ℕ, zero, suc, ◌-◌, ◌<◌, ◌≤◌, true, false, List, Option, Some, None, refl, sym, ap, ◌∙◌, arith, inl, inr, true≢false}
use Rattle.std.specs.Prelude.{is_some, unwrap_or, IfSome, ◌==◌}
use Rattle.std.proofs.lemmas.Bool.{cases_eq, ne_eqb}
use Rattle.std.specs.FinMap.{FinMap, get, insert, remove}
use Rattle.pool_map.specs.Shown.{shown}
use Rattle.cd_base.specs.Order.{fp_cmp}
use Rattle.share_index.specs.declared.key.Owner.{Owner}
use Rattle.share_index.specs.declared.key.Kept.{Kept}
use Rattle.share_index.specs.Order.{owner_cmp}
use Rattle.share_index.specs.Shares.{uses_at, owners_of, with_fewer_uses, released}
use Rattle.share_index.specs.Owning.{Owners}
use Rattle.share_index.specs.Placing.{Places, fewer_at, with_fewer_owners}
use Rattle.share_index.specs.Indexed.{IsIndexed, place_in, unplaced_in}
use Rattle.share_index.proofs.Owning.{value-of}
use Rattle.share_index.proofs.Indexing.{drop-fits, drop-unplaced-fits, indexed-drop, indexed-drop_unplaced, indexed-uses, places-same}

none-of : {X : Type 0} (o : Option X) → is_some o ≡ false → o ≡ None
none-of None s = refl
none-of (Some x) s = absurd (true≢false s)

module _ (m : FinMap owner_cmp ℕ) (k : Owner) where
  uses-are : (uses : ℕ) → get m k ≡ Some uses → uses_at m k ≡ uses
  uses-are uses got = ap (λ (o : Option ℕ). unwrap_or o 0) got

  -- none is left where so many were none
  unused : uses_at m k ≡ 0 → (false ≡ (uses_at m k == 1)) × (m ≡ released m k)
  unused at = (sym (ap (λ n. n == 1) at), sym (ap (with_fewer_uses m k) at))

  pub last-use : (uses : ℕ) → get m k ≡ Some uses → uses ≡ 1 → (true ≡ (uses_at m k == 1)) × (remove m k ≡ released m k)
  last-use uses got one =
      let at = uses-are uses got ∙ one in
      (sym (ap (λ n. n == 1) at), sym (ap (with_fewer_uses m k) at))

  pub one-of-more : (uses : ℕ) → get m k ≡ Some uses → 1 < uses → (false ≡ (uses_at m k == 1)) × (insert m k (uses - 1) ≡ released m k)
  one-of-more zero got more = absurd (omega (arith, more))
  one-of-more (suc zero) got more = absurd (omega (arith, more))
  one-of-more (suc (suc uses)) got more =
      let at = uses-are (suc (suc uses)) got in
      let fewer : suc (suc uses) - 1 ≡ suc uses = omega arith in (
        sym (ne_eqb (uses_at m k) 1 (λ e. let one : suc (suc uses) ≡ 1 = sym at ∙ e in omega arith)),
        ap (insert m k) fewer ∙ sym (ap (with_fewer_uses m k) at),
      )

  pub no-use : (uses : ℕ) → get m k ≡ Some uses → uses ≡ 0 → (false ≡ (uses_at m k == 1)) × (m ≡ released m k)
  no-use uses got none = unused (uses-are uses got ∙ none)

  pub no-owner : get m k ≡ None → (false ≡ (uses_at m k == 1)) × (m ≡ released m k)
  no-owner none = unused (ap (λ (o : Option ℕ). unwrap_or o 0) none)

  -- the last use was there, and the owner is gone
  pub last-is : true ≡ (uses_at m k == 1) → (get m k ≡ Some 1) × (released m k ≡ remove m k)
  last-is gone =
      elim (cases_eq (uses_at m k) 1) [
        | inl e ↦ (got (get m k) refl e, ap (with_fewer_uses m k) e)
        | inr other ↦ absurd (true≢false (gone ∙ ne_eqb (uses_at m k) 1 other))
      ]
    where
      got : (o : Option ℕ) → get m k ≡ o → unwrap_or o 0 ≡ 1 → get m k ≡ Some 1
      got None at e = absurd (let never : 0 ≡ 1 = e in omega arith)
      got (Some uses) at e = at ∙ ap Some e

-- the places stay with an owner fewer
pub places-kept : (kept : FinMap fp_cmp Kept) (fp : List ℕ) → shown place_in (with_fewer_owners kept fp) ≡ shown place_in kept
places-kept kept fp = go (get kept fp) refl
  where
    go : (o : Option Kept) → get kept fp ≡ o → shown place_in (with_fewer_owners kept fp) ≡ shown place_in kept
    go None at = ap (λ (o : Option Kept). shown place_in (fewer_at kept fp o)) at
    go (Some x) at = ap (λ (o : Option Kept). shown place_in (fewer_at kept fp o)) at ∙ places-same kept fp x _ at refl

module _ (p : Places) (o : Owners) (n : ℕ) (is : IsIndexed p o n) (r : Owners) (k : Owner) (to : r.owners ≡ released o.owners k) where
  module _ (gone : true ≡ (uses_at o.owners k == 1)) where
    without : r.owners ≡ remove o.owners k
    without = to ∙ (last-is o.owners k gone).1

    had : get o.owners k ≡ Some 1
    had = (last-is o.owners k gone).0

    pub has-owners : IfSome (get p.kept k.fp) (λ (x : Kept). 0 < x.owners)
    has-owners = go (get p.kept k.fp) refl
      where
        go : (x : Option Kept) → get p.kept k.fp ≡ x → IfSome x (λ (y : Kept). 0 < y.owners)
        go None at = tt
        go (Some x) at = let fits = drop-fits p o n is r k 1 without had x at in omega (arith, fits)

    pub indexed-gone : (q : Places) → q.kept ≡ with_fewer_owners p.kept k.fp → is_some (get p.kept k.fp) ≡ true → IsIndexed q r n
    indexed-gone q put placed =
        let x = value-of (get p.kept k.fp) placed in
        indexed-drop p o n is r k 1 without had q x.0 _ (put ∙ ap (fewer_at p.kept k.fp) x.1) x.1 refl

    pub unplaced-fits : is_some (get p.kept k.fp) ≡ false → 1 ≤ n
    unplaced-fits apart = drop-unplaced-fits p o n is r k 1 without had (none-of (get p.kept k.fp) apart)

    pub indexed-gone_unplaced : (q : Places) → q.kept ≡ with_fewer_owners p.kept k.fp → is_some (get p.kept k.fp) ≡ false → IsIndexed q r (n - 1)
    indexed-gone_unplaced q put apart =
        let none = none-of (get p.kept k.fp) apart in
        let same : q.kept ≡ p.kept = put ∙ ap (fewer_at p.kept k.fp) none in
        let now = indexed-drop_unplaced p o n is r k 1 without had none in
        record {
          counted = λ f z got. now.counted f z (ap (λ (x : FinMap fp_cmp Kept). get x f) (sym same) ∙ got);
          left = now.left ∙ ap (λ (x : FinMap fp_cmp Kept). unplaced_in x r.owners) (sym same);
        }

  alike : r.owners ≡ o.owners → IsIndexed p r n
  alike same = record {
    counted = λ f z got. is.counted f z got ∙ sym (ap (λ (x : FinMap owner_cmp ℕ). owners_of x f) same);
    left = is.left ∙ sym (ap (unplaced_in p.kept) same);
  }

  -- an owner that isn't gone counts as before
  pub indexed-stays : false ≡ (uses_at o.owners k == 1) → IsIndexed p r n
  indexed-stays stays = go (get o.owners k) refl
    where
      go : (x : Option ℕ) → get o.owners k ≡ x → IsIndexed p r n
      go None at = alike (to ∙ sym (no-owner o.owners k at).1)
      go (Some zero) at = alike (to ∙ sym (no-use o.owners k 0 at refl).1)
      go (Some (suc zero)) at = absurd (true≢false ((last-use o.owners k 1 at refl).0 ∙ sym stays))
      go (Some (suc (suc uses))) at = indexed-uses p o n is r k (suc (suc uses)) _ (to ∙ sym (one-of-more o.owners k (suc (suc uses)) at (omega arith)).1) at
