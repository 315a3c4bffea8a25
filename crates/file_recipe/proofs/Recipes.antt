-- The recipe of a file keeps the rules.
use Rattle.std.proofs.Common.{◌≡◌, ℕ, ◌+◌, ◌≤◌, Bool, true, false, cond, leb, eqb, ◌&&◌, List, [], ◌∷◌, length, map, slice_range, refl, sym, ap, ◌∙◌, arith, length-append, inl, inr}
use Rattle.std.specs.List.{concat, sum_by}
use Rattle.std.proofs.lemmas.Bool.{le-leb, ne_eqb, eq-eqb, cases_eq}
use Rattle.std.proofs.lemmas.List.{length-map}
use Rattle.std.proofs.lemmas.List.Sums.{sum_by-cons}
use Rattle.std.proofs.lemmas.List.Concat.{length-flat_map}
use Rattle.sha2.proofs.Facts256.{length-sha256}
use Rattle.rabin_chunker.specs.CdBase.shape.Shape.{Shape}
use Rattle.rabin_chunker.specs.CdBase.Lengths.{share_len_of}
use Rattle.rabin_chunker.specs.CdBase.Limits.{IsPath}
use Rattle.rabin_chunker.specs.Cuts.{ends}
use Rattle.rabin_chunker.specs.Rule.{IsCutFrom}
use Rattle.rabin_chunker.proofs.RuleLaws.{ends_cut}
use Rattle.caont_rs.specs.Package.{share}
use Rattle.caont_rs.proofs.Opened.{length-share}
use Rattle.recipe.specs.declared.items.Item.{Item}
use Rattle.recipe.specs.Spelling.{is_count, is_len, AreRecipeItems, Fits, total}
use Rattle.file_recipe.specs.FileRecipe.{parts_from, secrets, shares_at, item_of, recipe_of}
use Rattle.file_recipe.proofs.Secrets.{part_is, part_long, secrets_joined, secrets_few, secrets_none, secrets_some}

both_true : (a b : Bool) → a ≡ true → b ≡ true → (a && b) ≡ true
both_true a b e f = rw (e, f) refl

last_len : (n : ℕ) → 1 ≤ n → n ≤ 16384 → is_len true n ≡ true
last_len n some few = both_true (leb 1 n) (leb n 16384) (le-leb _ _ some) (le-leb _ _ few)

inner_len : (n : ℕ) → 2048 ≤ n → n ≤ 16384 → is_len false n ≡ true
inner_len n some few = both_true (leb 2048 n) (leb n 16384) (le-leb _ _ some) (le-leb _ _ few)

parts_fit : (s : Shape) (j : ℕ) (file : List ℕ) (start : ℕ) (es : List ℕ) → IsCutFrom file start es → AreRecipeItems (map (item_of s j) (parts_from file start es))
parts_fit s j file start [] h = tt
parts_fit s j file start (e ∷ []) h =
    let is = part_is file start e h.0 in
    ((length-sha256 (share s j (slice_range file start e)), last_len (length (slice_range file start e)) is.some is.few), tt)
parts_fit s j file start (e ∷ f ∷ es) h =
    let is = part_is file start e h.0 in
    let long = part_long file start e h.0 (omega (arith, h.1.0.after, h.1.0.within)) in
    let others : eqb (length (map (item_of s j) (parts_from file e (f ∷ es)))) 0 ≡ false = ne_eqb _ _ (λ k. omega arith) in
    let len : is_len (eqb (length (map (item_of s j) (parts_from file e (f ∷ es)))) 0) (length (slice_range file start e)) ≡ true = ap (λ (b : Bool). is_len b (length (slice_range file start e))) others ∙ inner_len (length (slice_range file start e)) long is.few in
    ((length-sha256 (share s j (slice_range file start e)), len), parts_fit s j file e (f ∷ es) h.1)

items_fit : (s : Shape) (j : ℕ) (file : List ℕ) → AreRecipeItems (map (item_of s j) (secrets file))
unfolding secrets
items_fit s j file = parts_fit s j file 0 (ends file) (ends_cut file)

total_is : (s : Shape) (j : ℕ) (xs : List (List ℕ)) → total (map (item_of s j) xs) ≡ length (concat xs)
total_is s j [] = refl
total_is s j (x ∷ xs) = sum_by-cons (λ (i : Item). i.secret_len) (item_of s j x) (map (item_of s j) xs) ∙ ap (λ (n : ℕ). length x + n) (total_is s j xs) ∙ sym (length-append x (concat xs))

count_fits : (file : List ℕ) (n : ℕ) → n ≡ length (secrets file) → length file ≤ 67108864 → is_count (length file) n ≡ true
count_fits file n e le =
    let few : leb n 32768 ≡ true = let few = secrets_few file le in le-leb _ _ (omega arith) in
    elim (cases_eq (length file) 0) [
      | inl none ↦
          let zero_file : eqb (length file) 0 ≡ true = eq-eqb _ _ none in
          let none_too : eqb n 0 ≡ true = eq-eqb _ _ (e ∙ secrets_none file none) in
          both_true (leb n 32768) (cond (eqb (length file) 0) (eqb n 0) (leb 1 n)) few (ap (λ (b : Bool). cond b (eqb n 0) (leb 1 n)) zero_file ∙ none_too)
      | inr some ↦
          let not_zero : eqb (length file) 0 ≡ false = ne_eqb _ _ some in
          let some_too : leb 1 n ≡ true = let more = secrets_some file (omega arith) in le-leb _ _ (omega arith) in
          both_true (leb n 32768) (cond (eqb (length file) 0) (eqb n 0) (leb 1 n)) few (ap (λ (b : Bool). cond b (eqb n 0) (leb 1 n)) not_zero ∙ some_too)
    ]

pub recipe_fits : (s : Shape) (j : ℕ) (path file : List ℕ) → IsPath path → length file ≤ 67108864 → Fits s (recipe_of s j path file)
recipe_fits s j path file name le = record {
  name_len = both_true (leb 1 (length path)) (leb (length path) 1024) (le-leb _ _ name.some) (le-leb _ _ name.few);
  name_share = length-share s j path;
  file_len = le-leb _ _ le;
  count = count_fits file (length (map (item_of s j) (secrets file))) (length-map (secrets file) (item_of s j)) le;
  items = items_fit s j file;
  whole = total_is s j (secrets file) ∙ ap length (secrets_joined file);
}

same_sums : (s : Shape) (j : ℕ) (xs : List (List ℕ)) → sum_by (λ (x : List ℕ). length (share s j x)) xs ≡ sum_by (λ (x : List ℕ). share_len_of s.k (length x)) xs
same_sums s j [] = refl
same_sums s j (x ∷ xs) =
    sum_by-cons (λ (x : List ℕ). length (share s j x)) x xs
    ∙ ap (λ (n : ℕ). n + sum_by (λ (x : List ℕ). length (share s j x)) xs) (length-share s j x)
    ∙ ap (λ (n : ℕ). share_len_of s.k (length x) + n) (same_sums s j xs)
    ∙ sym (sum_by-cons (λ (x : List ℕ). share_len_of s.k (length x)) x xs)

pub length-shares_at : (s : Shape) (j : ℕ) (file : List ℕ) → length (shares_at s j file) ≡ sum_by (λ (x : List ℕ). share_len_of s.k (length x)) (secrets file)
unfolding shares_at
length-shares_at s j file = length-flat_map (share s j) (secrets file) ∙ same_sums s j (secrets file)
