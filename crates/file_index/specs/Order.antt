-- The order of users, tags and versions, and the word of a key.
use Rattle.std.specs.Prelude.{◌≡◌, ℕ, ◌+◌, ◌*◌, ◌%◌, ◌^◌}
use Rattle.std.proofs.Common.{refl}
use Rattle.std.specs.declared.cmp.Ordering.{Ordering}
use Rattle.std.specs.declared.cmp.Ordering.TheVariants.{Less, Equal, Greater}
use Rattle.std.specs.Ordering.{nat_cmp, on, then_cmp, ordering_then}
use Rattle.std.specs.Cmp.Lexicographic.{slice_cmp}
use Rattle.std.specs.FinMap.{nat_cmp-IsAntisymmetric, slice_cmp-IsAntisymmetric}
use Rattle.pool_map.specs.Word.{first_word}
use Rattle.file_index.specs.declared.key.FileKey.{FileKey}

abbrev pub key_cmp : FileKey → FileKey → Ordering
key_cmp = then_cmp (on (λ k. k.user) nat_cmp) (then_cmp (on (λ k. k.tag) (slice_cmp nat_cmp)) (on (λ k. k.version) nat_cmp))

-- the tag's first 8 bytes, turned by the user's number and by the version
abbrev pub key_word : FileKey → ℕ
key_word k = ((first_word k.tag + (k.user * 14029467366897019727) % 2 ^ 64) % 2 ^ 64 + (k.version * 11400714819323198485) % 2 ^ 64) % 2 ^ 64

both-equal : (a b : Ordering) → ordering_then a b ≡ Equal → (a ≡ Equal) × (b ≡ Equal)
both-equal Less b e = absurd (let no : Less ≡ Equal = e in cc)
both-equal Equal b e = (refl, e)
both-equal Greater b e = absurd (let no : Greater ≡ Equal = e in cc)

pub key_exact : (x y : FileKey) → key_cmp x y ≡ Equal → x ≡ y
key_exact x y e =
    let p = both-equal (nat_cmp x.user y.user) _ e in
    let q = both-equal (slice_cmp nat_cmp x.tag y.tag) _ p.1 in
    let user = nat_cmp-IsAntisymmetric x.user y.user p.0 in
    let tag = slice_cmp-IsAntisymmetric nat_cmp-IsAntisymmetric x.tag y.tag q.0 in
    let version = nat_cmp-IsAntisymmetric x.version y.version q.1 in
    λ i. record { user = user i; tag = tag i; version = version i }
