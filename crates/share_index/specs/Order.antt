-- The order of users and fingerprints.
use Rattle.std.specs.Prelude.{◌≡◌, ℕ, ◌+◌, ◌*◌, ◌%◌, ◌^◌, List}
use Rattle.std.proofs.Common.{refl}
use Rattle.std.specs.declared.cmp.Ordering.{Ordering}
use Rattle.std.specs.declared.cmp.Ordering.TheVariants.{Less, Equal, Greater}
use Rattle.std.specs.Ordering.{nat_cmp, on, then_cmp, ordering_then}
use Rattle.std.specs.FinMap.{nat_cmp-IsAntisymmetric}
use Rattle.cd_base.specs.Order.{fp_cmp, fp_exact}
use Rattle.pool_map.specs.Word.{first_word}
use Rattle.share_index.specs.declared.key.Owner.{Owner}

abbrev pub owner_cmp : Owner → Owner → Ordering
owner_cmp = then_cmp (on (λ k. k.user) nat_cmp) (on (λ k. k.fp) fp_cmp)

abbrev pub owner_of : ℕ → List ℕ → Owner
owner_of user fp = record { user = user; fp = fp }

abbrev pub owner_word : Owner → ℕ
owner_word k = (first_word k.fp + (k.user * 11400714819323198485) % 2 ^ 64) % 2 ^ 64

both-equal : (a b : Ordering) → ordering_then a b ≡ Equal → (a ≡ Equal) × (b ≡ Equal)
both-equal Less b e = absurd (let no : Less ≡ Equal = e in cc)
both-equal Equal b e = (refl, e)
both-equal Greater b e = absurd (let no : Greater ≡ Equal = e in cc)

pub owner_exact : (x y : Owner) → owner_cmp x y ≡ Equal → x ≡ y
owner_exact x y e =
    let p = both-equal (nat_cmp x.user y.user) _ e in
    let user = nat_cmp-IsAntisymmetric x.user y.user p.0 in
    let fp = fp_exact x.fp y.fp p.1 in
    λ i. record { user = user i; fp = fp i }
