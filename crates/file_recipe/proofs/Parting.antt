-- A file whose secrets are dispersed in two parts.
use Rattle.std.proofs.Common.{◌≡◌, ℕ, zero, suc, ◌+◌, ◌-◌, ◌<◌, ◌≤◌, List, [], ◌∷◌, ◌++◌, length, map, take, drop, get_or, slice_range, refl, sym, ap, ◌∙◌, subst, arith, append_assoc}
use Rattle.std.specs.List.{flat_map}
use Rattle.std.proofs.lemmas.Grind.{flat_map-append}
use Rattle.std.proofs.lemmas.List.{map-append, drop-drop, drop-take, take-take, length-take-le, length-drop}
use Rattle.rabin_chunker.specs.CdBase.shape.Shape.{Shape}
use Rattle.rabin_chunker.specs.Cuts.{ends}
use Rattle.rabin_chunker.specs.Rule.{IsCutFrom}
use Rattle.rabin_chunker.proofs.RuleLaws.{ends_cut, secret_at_most}
use Rattle.caont_rs.specs.Package.{share}
use Rattle.recipe.specs.declared.items.Item.{Item}
use Rattle.file_recipe.specs.FileRecipe.{parts_from, secrets, item_of}
use Rattle.file_recipe.specs.Progress.{AreEndsOfParts, parts_behind, with_secrets, EachWithSecrets}
use Rattle.file_recipe.specs.declared.cloud_file.CloudFile.{CloudFile}

-- ---- the ends of a file's secrets

cut_ends : (file : List ℕ) (s : ℕ) (es : List ℕ) → IsCutFrom file s es → AreEndsOfParts (length file) s es
cut_ends file s [] h = tt
cut_ends file s (e ∷ es) h = (h.0.after, secret_at_most file s e h.0, h.0.within, cut_ends file e es h.1)

pub are_ends : (file : List ℕ) → AreEndsOfParts (length file) 0 (ends file)
are_ends file = cut_ends file 0 (ends file) (ends_cut file)

-- the first `m` of them end here, or begin, where there is none
pub end_below : (last s : ℕ) (es : List ℕ) (m : ℕ) → AreEndsOfParts last s es → s ≤ last → m ≤ length es → get_or (s ∷ es) m 0 ≤ last
end_below last s es zero h le few = le
end_below last s [] (suc m) h le few = absurd (omega arith)
end_below last s (e ∷ es) (suc m) h le few = end_below last e es m h.3 h.2 (omega arith)

end_above : (last s : ℕ) (es : List ℕ) (m : ℕ) → AreEndsOfParts last s es → m ≤ length es → s ≤ get_or (s ∷ es) m 0
end_above last s es zero h few = omega arith
end_above last s [] (suc m) h few = absurd (omega arith)
end_above last s (e ∷ es) (suc m) h few = let rest = end_above last e es m h.3 (omega arith) in omega (arith, rest, h.0)

pub ends_front : (last s : ℕ) (es : List ℕ) (m : ℕ) → AreEndsOfParts last s es → m ≤ length es → AreEndsOfParts (get_or (s ∷ es) m 0) s (take m es)
ends_front last s [] zero h few = tt
ends_front last s (e ∷ es) zero h few = tt
ends_front last s [] (suc m) h few = absurd (omega arith)
ends_front last s (e ∷ es) (suc m) h few = (h.0, h.1, end_above last e es m h.3 (omega arith), ends_front last e es m h.3 (omega arith))

pub ends_back : (last s : ℕ) (es : List ℕ) (m : ℕ) → AreEndsOfParts last s es → m ≤ length es → AreEndsOfParts last (get_or (s ∷ es) m 0) (drop m es)
ends_back last s es zero h few = h
ends_back last s [] (suc m) h few = absurd (omega arith)
ends_back last s (e ∷ es) (suc m) h few = ends_back last e es m h.3 (omega arith)

parts_joined : (file : List ℕ) (s : ℕ) (es : List ℕ) (m : ℕ) → m ≤ length es → parts_from file s (take m es) ++ parts_from file (get_or (s ∷ es) m 0) (drop m es) ≡ parts_from file s es
parts_joined file s [] zero few = refl
parts_joined file s (e ∷ es) zero few = refl
parts_joined file s [] (suc m) few = absurd (omega arith)
parts_joined file s (e ∷ es) (suc m) few = ap (λ (ps : List (List ℕ)). slice_range file s e ∷ ps) (parts_joined file e es m (omega arith))

-- ---- the bytes of a part are the file's

back_piece : (file : List ℕ) (base s e : ℕ) → base ≤ s → s < e → slice_range (drop base file) (s - base) (e - base) ≡ slice_range file s e
back_piece file base s e le lt =
    let count : e - base - (s - base) ≡ e - s = omega arith in
    let place : base + (s - base) ≡ s = omega arith in
    ap (λ (n : ℕ). take n (drop (s - base) (drop base file))) count
    ∙ ap (take (e - s)) (drop-drop (s - base) base file ∙ ap (λ (n : ℕ). drop n file) place)

pub back_parts : (last : ℕ) (file : List ℕ) (base s : ℕ) (es : List ℕ) → base ≤ s → AreEndsOfParts last s es → parts_behind base (drop base file) s es ≡ parts_from file s es
back_parts last file base s [] le h = refl
back_parts last file base s (e ∷ es) le h =
    let rest = back_parts last file base e es (omega (arith, h.0)) h.3 in
    ap (λ (p : List ℕ). p ∷ parts_behind base (drop base file) e es) (back_piece file base s e le h.0)
    ∙ ap (λ (ps : List (List ℕ)). slice_range file s e ∷ ps) rest

front_piece : (file : List ℕ) (m s e : ℕ) → s < e → e ≤ m → slice_range (take m file) s e ≡ slice_range file s e
front_piece file m s e lt le =
    let place : m ≡ s + (m - s) = omega arith in
    ap (λ (n : ℕ). take (e - s) (drop s (take n file))) place
    ∙ ap (take (e - s)) (drop-take s (m - s) file)
    ∙ take-take (e - s) (m - s) (drop s file) (omega arith)

front_parts : (m : ℕ) (file : List ℕ) (s : ℕ) (es : List ℕ) → AreEndsOfParts m s es → parts_from (take m file) s es ≡ parts_from file s es
front_parts m file s [] h = refl
front_parts m file s (e ∷ es) h =
    ap (λ (p : List ℕ). p ∷ parts_from (take m file) e es) (front_piece file m s e h.0 h.2)
    ∙ ap (λ (ps : List (List ℕ)). slice_range file s e ∷ ps) (front_parts m file e es h.3)

-- ---- all of a file

pub whole_parts : (file es : List ℕ) → es ≡ ends file → parts_behind 0 file 0 es ≡ secrets file
unfolding secrets
whole_parts file es e = ap (parts_behind 0 file 0) e ∙ back_parts (length file) file 0 0 (ends file) (omega arith) (are_ends file)

pub whole_ends : (file es : List ℕ) → es ≡ ends file → AreEndsOfParts (0 + length file) 0 es
whole_ends file es e =
    let same : length file ≡ 0 + length file = omega arith in
    subst (λ (n : ℕ). AreEndsOfParts n 0 es) same (subst (AreEndsOfParts (length file) 0) (sym e) (are_ends file))

-- ---- the front, and then the back

more_secrets : (s : Shape) (j : ℕ) (f : CloudFile) (xs ys : List (List ℕ)) → with_secrets s j (with_secrets s j f xs) ys ≡ with_secrets s j f (xs ++ ys)
more_secrets s j f xs ys =
    let items : (f.recipe.items ++ map (item_of s j) xs) ++ map (item_of s j) ys ≡ f.recipe.items ++ map (item_of s j) (xs ++ ys) =
    append_assoc f.recipe.items (map (item_of s j) xs) (map (item_of s j) ys) ∙ ap (λ (is : List Item). f.recipe.items ++ is) (sym (map-append (item_of s j) xs ys)) in
    let shares : (f.shares ++ flat_map (share s j) xs) ++ flat_map (share s j) ys ≡ f.shares ++ flat_map (share s j) (xs ++ ys) =
    append_assoc f.shares (flat_map (share s j) xs) (flat_map (share s j) ys) ∙ ap (λ (b : List ℕ). f.shares ++ b) (sym (flat_map-append (share s j) xs ys)) in
    rw (items, shares) refl

both_given : (s : Shape) (first : ℕ) (xs ys : List (List ℕ)) (before mid now : List CloudFile) → length mid ≡ length before → EachWithSecrets s first xs before mid → EachWithSecrets s first ys mid now → EachWithSecrets s first (xs ++ ys) before now
both_given s first xs ys before mid now len early late = λ j d lt.
    late j d (omega arith) ∙ ap (λ (f : CloudFile). with_secrets s (first + j) f ys) (early j d lt) ∙ more_secrets s (first + j) (get_or before j d) xs ys

pub halves_given : (s : Shape) (file es front back : List ℕ) (m middle : ℕ) (before mid now : List CloudFile) → es ≡ ends file → m ≤ length es → middle ≡ get_or (0 ∷ es) m 0
    → front ≡ take middle file → back ≡ drop middle file → length mid ≡ length before
    → EachWithSecrets s 0 (parts_behind 0 front 0 (take m es)) before mid → EachWithSecrets s 0 (parts_behind middle back middle (drop m es)) mid now → EachWithSecrets s 0 (secrets file) before now
unfolding secrets
halves_given s file es front back m middle before mid now e few at is_front is_back len early late =
    let all : AreEndsOfParts (length file) 0 es = subst (AreEndsOfParts (length file) 0) (sym e) (are_ends file) in
    let some : AreEndsOfParts middle 0 (take m es) = subst (λ (n : ℕ). AreEndsOfParts n 0 (take m es)) (sym at) (ends_front (length file) 0 es m all few) in
    let more : AreEndsOfParts (length file) middle (drop m es) = subst (λ (n : ℕ). AreEndsOfParts (length file) n (drop m es)) (sym at) (ends_back (length file) 0 es m all few) in
    let one : parts_behind 0 front 0 (take m es) ≡ parts_from file 0 (take m es) =
    ap (λ (f : List ℕ). parts_behind 0 f 0 (take m es)) is_front ∙ back_parts middle (take middle file) 0 0 (take m es) (omega arith) some ∙ front_parts middle file 0 (take m es) some in
    let two : parts_behind middle back middle (drop m es) ≡ parts_from file middle (drop m es) =
    ap (λ (b : List ℕ). parts_behind middle b middle (drop m es)) is_back ∙ back_parts (length file) file middle middle (drop m es) (omega arith) more in
    let joined : parts_from file 0 (take m es) ++ parts_from file middle (drop m es) ≡ parts_from file 0 (ends file) =
    ap (λ (n : ℕ). parts_from file 0 (take m es) ++ parts_from file n (drop m es)) at ∙ parts_joined file 0 es m few ∙ ap (parts_from file 0) e in
    subst (λ (ts : List (List ℕ)). EachWithSecrets s 0 ts before now) joined
    (both_given s 0 (parts_from file 0 (take m es)) (parts_from file middle (drop m es)) before mid now len
    (subst (λ (ts : List (List ℕ)). EachWithSecrets s 0 ts before mid) one early)
    (subst (λ (ts : List (List ℕ)). EachWithSecrets s 0 ts mid now) two late))

-- what the calls on both parts want
pub middle_within : (file es : List ℕ) (m middle : ℕ) → es ≡ ends file → m ≤ length es → middle ≡ get_or (0 ∷ es) m 0 → middle ≤ length file
middle_within file es m middle e few at =
    let all : AreEndsOfParts (length file) 0 es = subst (AreEndsOfParts (length file) 0) (sym e) (are_ends file) in
    let le = end_below (length file) 0 es m all (omega arith) few in
    omega (arith, le, at)

pub front_ends : (file es front : List ℕ) (m middle : ℕ) → es ≡ ends file → m ≤ length es → middle ≡ get_or (0 ∷ es) m 0 → front ≡ take middle file → AreEndsOfParts (0 + length front) 0 (take m es)
front_ends file es front m middle e few at is =
    let all : AreEndsOfParts (length file) 0 es = subst (AreEndsOfParts (length file) 0) (sym e) (are_ends file) in
    let len : length front ≡ middle = ap length is ∙ length-take-le middle file (middle_within file es m middle e few at) in
    let same : get_or (0 ∷ es) m 0 ≡ 0 + length front = omega (arith, len, at) in
    subst (λ (n : ℕ). AreEndsOfParts n 0 (take m es)) same (ends_front (length file) 0 es m all few)

pub back_ends : (file es back : List ℕ) (m middle : ℕ) → es ≡ ends file → m ≤ length es → middle ≡ get_or (0 ∷ es) m 0 → back ≡ drop middle file → AreEndsOfParts (middle + length back) middle (drop m es)
back_ends file es back m middle e few at is =
    let all : AreEndsOfParts (length file) 0 es = subst (AreEndsOfParts (length file) 0) (sym e) (are_ends file) in
    let le = middle_within file es m middle e few at in
    let len : length back ≡ length file - middle = ap length is ∙ length-drop middle file in
    let same : length file ≡ middle + length back = omega (arith, len, le) in
    subst (λ (n : ℕ). AreEndsOfParts n middle (drop m es)) same
    (subst (λ (n : ℕ). AreEndsOfParts (length file) n (drop m es)) (sym at) (ends_back (length file) 0 es m all few))
