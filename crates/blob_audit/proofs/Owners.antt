-- A fingerprint that is counted as owned has an owner.
use Rattle.std.proofs.Common.{◌≡◌, ℕ, ◌<◌, Bool, true, cond, List, [], ◌∷◌, Some, refl, sym, ap, ◌∙◌, arith, inl, inr}
use Rattle.std.specs.Ordering.{is_eq, eq_by_cmp}
use Rattle.std.specs.Cmp.{tied_itself}
use Rattle.std.specs.List.{count_by}
use Rattle.std.specs.FinMap.{get, entries, get-entries, find}
use Rattle.std.proofs.lemmas.Bool.{cases_Bool}
use Rattle.std.proofs.lemmas.List.Sums.{sum_by-cons}
use Rattle.audit_base.specs.CdBase.ids.Fp.{Fp}
use Rattle.audit_base.specs.CdBase.Order.{fp_cmp, fp_exact}
use Rattle.audit_base.specs.ShareIndex.key.Owner.{Owner}
use Rattle.audit_base.specs.ShareIndex.Order.{owner_cmp, owner_of}
use Rattle.audit_base.specs.ShareIndex.Shares.{owners_of}
use Rattle.audit_base.proofs.ShareIndex.Owning.{owner_total}
use Rattle.audit_base.proofs.Found.{is_equal, owned_as}
use Rattle.audit_base.specs.Whole.{Tables, IsOwned}

-- an owner of it that is found
record Found (fp : List ℕ) (es : List (Owner × ℕ)) : Type 0 where
  owner : Owner
  passes : eq_by_cmp fp_cmp owner.fp fp ≡ true
  uses : ℕ
  has : find owner_cmp owner es ≡ Some uses

found_later : (fp : List ℕ) (x : Owner × ℕ) (es : List (Owner × ℕ)) → Found fp es → Found fp (x ∷ es)
found_later fp x es f =
    elim (cases_Bool (eq_by_cmp owner_cmp f.owner x.0)) [
      | inl tied ↦ record { owner = f.owner; passes = f.passes; uses = x.1; has = rw tied refl }
      | inr apart ↦ record { owner = f.owner; passes = f.passes; uses = f.uses; has = rw apart f.has }
    ]

counted_found : (fp : List ℕ) (es : List (Owner × ℕ)) → 0 < count_by (owned_as fp) es → Found fp es
counted_found fp [] some = absurd (omega arith)
counted_found fp (x ∷ es) some =
    elim (cases_Bool (owned_as fp x)) [
      | inl is ↦
          let tied : eq_by_cmp owner_cmp x.0 x.0 ≡ true = ap is_eq (tied_itself owner_total x.0) in
          record { owner = x.0; passes = is; uses = x.1; has = rw tied refl }
      | inr apart ↦
          let none : ◌≡◌ {A = ℕ} (cond (owned_as fp x) 1 0) 0 = ap (λ (b : Bool). cond {A = ℕ} b 1 0) apart in
          let more = sum_by-cons (λ (y : Owner × ℕ). cond (owned_as fp y) 1 0) x es in
          found_later fp x es (counted_found fp es (omega (arith, none, more)))
    ]

-- some user owns it
pub owned_by_some : (t : Tables) (fp : Fp) → 0 < owners_of t.owners fp.0 → IsOwned t fp
owned_by_some t fp some =
    let f = counted_found fp.0 (entries t.owners) some in
    let same : f.owner.fp ≡ fp.0 = fp_exact f.owner.fp fp.0 (is_equal (fp_cmp f.owner.fp fp.0) f.passes) in
    record {
      user = record { 0 = f.owner.user };
      owns = record {
        uses = f.uses;
        has = ap (λ (x : List ℕ). get t.owners (owner_of f.owner.user x)) (sym same) ∙ get-entries t.owners f.owner ∙ f.has;
      };
    }
