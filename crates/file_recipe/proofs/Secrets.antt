-- The secrets of a file: how long they are, how many, and that they are the file.
use Rattle.std.proofs.Common.{◌≡◌, ℕ, zero, suc, ◌+◌, ◌-◌, ◌*◌, ◌<◌, ◌≤◌, List, [], ◌∷◌, ◌++◌, length, drop, get_or, slice_range, refl, sym, ap, ◌∙◌, arith}
use Rattle.std.specs.List.{concat}
use Rattle.std.proofs.lemmas.List.{drop_all}
use Rattle.std.proofs.lemmas.List.Edits.{length-between}
use Rattle.std.proofs.lemmas.List.Folds.{drop_split}
use Rattle.rabin_chunker.specs.Cuts.{ends}
use Rattle.rabin_chunker.specs.Rule.{IsFirstEnd, IsCutFrom}
use Rattle.rabin_chunker.proofs.RuleLaws.{ends_cut, secret_at_most, secret_at_least}
use Rattle.file_recipe.specs.FileRecipe.{parts_from, secrets}

-- ---- joined they are the file

parts_joined : (file : List ℕ) (s : ℕ) (es : List ℕ) → IsCutFrom file s es → concat (parts_from file s es) ≡ drop s file
parts_joined file s [] h = sym (drop_all s file (omega arith))
parts_joined file s (e ∷ es) h =
    let rest = parts_joined file e es h.1 in
    ap (λ (xs : List ℕ). slice_range file s e ++ xs) rest ∙ sym (drop_split file s e (omega (arith, h.0.after)))

pub secrets_joined : (file : List ℕ) → concat (secrets file) ≡ file
unfolding secrets
secrets_joined file = parts_joined file 0 (ends file) (ends_cut file)

-- ---- how long they are

pub part_length : (file : List ℕ) (s e : ℕ) → IsFirstEnd file s e → length (slice_range file s e) ≡ e - s
part_length file s e h = length-between file s e h.within

-- one of 1 to 16,384 bytes
pub record IsSecret (secret : List ℕ) : Type 0 where
  pub some : 1 ≤ length secret
  pub few : length secret ≤ 16384

pub part_is : (file : List ℕ) (s e : ℕ) → IsFirstEnd file s e → IsSecret (slice_range file s e)
part_is file s e h =
    let len = part_length file s e h in
    let most = secret_at_most file s e h in
    record { some = omega (arith, h.after); few = omega arith }

part_at : (file : List ℕ) (s : ℕ) (es : List ℕ) (i : ℕ) → IsCutFrom file s es → i < length (parts_from file s es) → IsSecret (get_or (parts_from file s es) i [])
part_at file s [] i h lt = absurd (omega arith)
part_at file s (e ∷ es) zero h lt = part_is file s e h.0
part_at file s (e ∷ es) (suc i) h lt = part_at file e es i h.1 (omega arith)

pub secret_at : (file : List ℕ) (i : ℕ) → i < length (secrets file) → IsSecret (get_or (secrets file) i [])
unfolding secrets
secret_at file i lt = part_at file 0 (ends file) i (ends_cut file) lt

-- one that ends before the file
pub part_long : (file : List ℕ) (s e : ℕ) → IsFirstEnd file s e → e < length file → 2048 ≤ length (slice_range file s e)
part_long file s e h lt = let len = part_length file s e h in let least = secret_at_least file s e h lt in omega arith

part_inner : (file : List ℕ) (s : ℕ) (es : List ℕ) (i : ℕ) → IsCutFrom file s es → i + 1 < length (parts_from file s es) → 2048 ≤ length (get_or (parts_from file s es) i [])
part_inner file s [] i h lt = absurd (omega arith)
part_inner file s (e ∷ []) i h lt = absurd (omega arith)
part_inner file s (e ∷ f ∷ es) zero h lt = part_long file s e h.0 (omega (arith, h.1.0.after, h.1.0.within))
part_inner file s (e ∷ f ∷ es) (suc i) h lt = part_inner file e (f ∷ es) i h.1 (omega arith)

pub secret_inner : (file : List ℕ) (i : ℕ) → i + 1 < length (secrets file) → 2048 ≤ length (get_or (secrets file) i [])
unfolding secrets
secret_inner file i lt = part_inner file 0 (ends file) i (ends_cut file) lt

-- ---- how many

length-parts : (file : List ℕ) (s : ℕ) (es : List ℕ) → length (parts_from file s es) ≡ length es
length-parts file s [] = refl
length-parts file s (e ∷ es) = ap suc (length-parts file e es)

pub length-secrets : (file : List ℕ) → length (secrets file) ≡ length (ends file)
unfolding secrets
length-secrets file = length-parts file 0 (ends file)

ends_few : (file : List ℕ) (s : ℕ) (es : List ℕ) → IsCutFrom file s es → 2048 * length es + s ≤ length file + 2047
ends_few file s [] h = omega arith
ends_few file s (e ∷ []) h = omega (arith, h.0.after, h.0.within)
ends_few file s (e ∷ f ∷ es) h =
    let rest = ends_few file e (f ∷ es) h.1 in
    let least = secret_at_least file s e h.0 (omega (arith, h.1.0.after, h.1.0.within)) in
    omega arith

pub secrets_few : (file : List ℕ) → length file ≤ 67108864 → length (secrets file) ≤ 32768
secrets_few file le = let few = ends_few file 0 (ends file) (ends_cut file) in let len = length-secrets file in omega arith

-- none in an empty file, and some in every other
none_when_empty : (file : List ℕ) (es : List ℕ) → IsCutFrom file 0 es → length file ≡ 0 → length es ≡ 0
none_when_empty file [] h e = refl
none_when_empty file (x ∷ es) h e = absurd (omega (arith, h.0.after, h.0.within))

some_when_not : (file : List ℕ) (es : List ℕ) → IsCutFrom file 0 es → 1 ≤ length file → 1 ≤ length es
some_when_not file [] h le = absurd (omega arith)
some_when_not file (x ∷ es) h le = omega arith

pub secrets_none : (file : List ℕ) → length file ≡ 0 → length (secrets file) ≡ 0
secrets_none file e = length-secrets file ∙ none_when_empty file (ends file) (ends_cut file) e

pub secrets_some : (file : List ℕ) → 1 ≤ length file → 1 ≤ length (secrets file)
secrets_some file le = let some = some_when_not file (ends file) (ends_cut file) le in let len = length-secrets file in omega arith
