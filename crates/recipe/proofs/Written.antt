-- What is written, and how long it is.
use Rattle.std.proofs.Common.{◌≡◌, ℕ, zero, suc, ◌+◌, ◌-◌, ◌*◌, ◌≤◌, ◌<◌, List, [], ◌∷◌, ◌++◌, length, take, get_or, Ok, refl, sym, ap, ◌∙◌, arith, length-append, leb}
use Rattle.std.specs.Int.{w16, w32, w64, to_be_bytes}
use Rattle.std.specs.List.{flat_map}
use Rattle.std.proofs.Math.Nat.{mul-le-mul_right}
use Rattle.std.proofs.lemmas.Bool.{and_parts, leb-true}
use Rattle.std.proofs.lemmas.List.{take_more, append-nil}
use Rattle.std.proofs.lemmas.List.Concat.{flat_map-append, flat_map-cons}
use Rattle.std.proofs.lemmas.Slice.{take-put_mid}
use borrow.Rule.Slice.PartMut.{put_mid}
use Rattle.grammar.specs.CdBase.Lengths.{share_len_of}
use Rattle.grammar.specs.CdBase.shape.Shape.{Shape}
use Rattle.grammar.proofs.Laws.{ok_is}
use Rattle.recipe.specs.declared.items.Item.{Item}
use Rattle.recipe.specs.declared.recipe.Recipe.{Recipe}
use Rattle.recipe.specs.Spelling.{item, spelling, AreRecipeItems, Fits}
use Rattle.recipe.specs.Reading.{placed, recipe_at}
use Rattle.recipe.proofs.Recipes.{recipe_again}

items_more : (items : List Item) (i : ℕ) (d : Item) → i < length items → flat_map item (take (i + 1) items) ≡ flat_map item (take i items) ++ item (get_or items i d)
items_more items i d lt =
    ap (flat_map item) (take_more items i d lt) ∙ flat_map-append item (take i items) (get_or items i d ∷ [])
    ∙ ap (λ (xs : List ℕ). flat_map item (take i items) ++ xs) (append-nil (item (get_or items i d)))

pub one_written : (items : List Item) (i : ℕ) (d : Item) (out part : List ℕ) → i < length items → length out ≡ 36 * length items → part ≡ item (get_or items i d) → length part ≡ 36
    → take (36 * i) out ≡ flat_map item (take i items) → take (36 * (i + 1)) (put_mid (36 * i) (36 * i + 36 - 36 * i) out part) ≡ flat_map item (take (i + 1) items)
one_written items i d out part lt long is len so_far =
    take-put_mid (36 * i) (36 * i + 36 - 36 * i) out part (36 * (i + 1)) (omega arith) (omega arith)
    ∙ ap (λ (xs : List ℕ). xs ++ part) so_far
    ∙ ap (λ (xs : List ℕ). flat_map item (take i items) ++ xs) is
    ∙ sym (items_more items i d lt)

pub joined : (r : Recipe) (a b c d e : List ℕ) → a ≡ to_be_bytes w16 r.name_len → b ≡ r.name_share → c ≡ to_be_bytes w64 r.file_len → d ≡ to_be_bytes w32 (length r.items) → e ≡ flat_map item r.items
    → a ++ (b ++ (c ++ (d ++ e))) ≡ spelling r
joined r a b c d e f g h i j =
    ap (λ (x : List ℕ). x ++ (b ++ (c ++ (d ++ e)))) f
    ∙ ap (λ (x : List ℕ). to_be_bytes w16 r.name_len ++ (x ++ (c ++ (d ++ e)))) g
    ∙ ap (λ (x : List ℕ). to_be_bytes w16 r.name_len ++ (r.name_share ++ (x ++ (d ++ e)))) h
    ∙ ap (λ (x : List ℕ). to_be_bytes w16 r.name_len ++ (r.name_share ++ (to_be_bytes w64 r.file_len ++ (x ++ e)))) i
    ∙ ap (λ (x : List ℕ). to_be_bytes w16 r.name_len ++ (r.name_share ++ (to_be_bytes w64 r.file_len ++ (to_be_bytes w32 (length r.items) ++ x)))) j

-- ---- laws

pub again : (shape : Shape) (r : Recipe) → Fits shape r → recipe_at shape (spelling r) ≡ Ok r
unfolding recipe_at
again shape r fits = ap (placed (spelling r)) (recipe_again shape r fits)

pub one : (shape : Shape) (q r : Recipe) → Fits shape q → Fits shape r → spelling q ≡ spelling r → q ≡ r
one shape q r fits fits2 e = ok_is q r (sym (again shape q fits) ∙ ap (recipe_at shape) e ∙ again shape r fits2)

length-items : (items : List Item) → AreRecipeItems items → length (flat_map item items) ≡ 36 * length items
length-items [] h = refl
length-items (i ∷ is) h =
    ap length (flat_map-cons item i is) ∙ length-append (item i) (flat_map item is)
    ∙ omega (arith, length-append i.fp.0 (to_be_bytes w32 i.secret_len), h.0.0, length-items is h.1)

pub length-spelling : (shape : Shape) (r : Recipe) → Fits shape r → length (spelling r) ≡ 14 + length r.name_share + 36 * length r.items
length-spelling shape r fits =
    let items = length-items r.items fits.items in
    let tail : List ℕ = to_be_bytes w64 r.file_len ++ (to_be_bytes w32 (length r.items) ++ flat_map item r.items) in
    let both : length (r.name_share ++ tail) ≡ length r.name_share + length tail = length-append r.name_share tail in
    omega arith

share_most : (k n : ℕ) → 2 ≤ k → n ≤ 1024 → share_len_of k n ≤ 528
share_most k n several few =
    let most : k * share_len_of k n ≤ n + 31 + k = omega arith in below (share_len_of k n) most
  where
    below : (q : ℕ) → k * q ≤ n + 31 + k → q ≤ 528
    below zero h = omega arith
    below (suc p) h =
        let two : 2 * p ≤ k * p = mul-le-mul_right p several in
        let next : k * suc p ≡ k * p + k = grind arith in
        omega arith

pub longest : (shape : Shape) (r : Recipe) → Fits shape r → length (spelling r) ≤ 1180190
longest shape r fits =
    let name = and_parts (leb 1 r.name_len) _ fits.name_len in
    let few : r.name_len ≤ 1024 = leb-true _ _ name.1 in
    let count = and_parts (leb (length r.items) 32768) _ fits.count in
    let items : length r.items ≤ 32768 = leb-true _ _ count.0 in
    let share = share_most shape.k r.name_len shape.several few in
    omega (arith, length-spelling shape r fits, fits.name_share)
