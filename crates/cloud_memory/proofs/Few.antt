-- How many fingerprints recipes name.
use Rattle.std.proofs.Common.{◌≡◌, ℕ, zero, suc, ◌+◌, ◌*◌, ◌≤◌, Bool, true, false, cond, List, [], ◌∷◌, length, refl, sym, ap, subst, arith, length-append}
use Rattle.std.specs.Prelude.{◌==◌, bytes_eq, Result, Ok, Err}
use Rattle.std.proofs.lemmas.Bool.{and_parts, leb-true}
use Rattle.std.proofs.lemmas.List.{length-map}
use Rattle.spent_table.specs.CdBase.ids.Fp.{Fp}
use Rattle.spent_table.specs.CdBase.shape.Shape.{Shape}
use Rattle.spent_table.specs.CdBase.Lengths.{share_len_of}
use Rattle.recipe.specs.Grammar.Readers.{◌>>=◌}
use Rattle.recipe.specs.Grammar.Fields.{number_at, bytes_at, checked}
use Rattle.std.specs.Int.{w16, w32, w64}
use Rattle.recipe.specs.declared.recipe.Recipe.{Recipe}
use Rattle.recipe.specs.declared.items.Item.{Item}
use Rattle.recipe.specs.Spelling.{is_name_len, is_file_len, is_count, total}
use Rattle.recipe.specs.Reading.{item_at, items_at, file_at, ended, tail_at, recipe_left, placed, recipe_at}
use Rattle.cloud_areas.specs.UserDedup.file_list.FileEntry.{FileEntry}
use Rattle.cloud_areas.specs.UserDedup.Requests.{fps_read, fps_of}
use Rattle.cloud_areas.specs.UserDedup.Cloud.{named_in}
use Rattle.cloud_memory.specs.Memory.{times}
use Rattle.cloud_memory.proofs.Naming.{times-cons}

-- what is read is so
abbrev After : {A : Type 0} → (A → Type 0) → Result A ℕ → Type 0
After P (Ok a) = P a
After P (Err left) = Unit {0}

bound : {A B : Type 0} (P : A → Type 0) (Q : B → Type 0) (r : Result A ℕ) (f : A → Result B ℕ) → After P r → ((a : A) → P a → After Q (f a)) → After Q (r >>= f)
bound P Q (Ok a) f here next = next a here
bound P Q (Err left) f here next = tt

any : {A B : Type 0} (Q : B → Type 0) (r : Result A ℕ) (f : A → Result B ℕ) → ((a : A) → After Q (f a)) → After Q (r >>= f)
any Q (Ok a) f next = next a
any Q (Err left) f next = tt

items_read : (n : ℕ) (bytes : List ℕ) → After (λ (x : List Item × List ℕ). length x.0 ≡ n) (items_at n bytes)
unfolding items_at
items_read zero bytes = refl
items_read (suc n) bytes =
    any (λ (x : List Item × List ℕ). length x.0 ≡ suc n) (item_at (n == 0) bytes) (λ first. items_at n first.1 >>= λ others. Ok (first.0 ∷ others.0, others.1)) (λ first.
    bound (λ (x : List Item × List ℕ). length x.0 ≡ n) (λ (x : List Item × List ℕ). length x.0 ≡ suc n) (items_at n first.1) (λ others. Ok (first.0 ∷ others.0, others.1)) (items_read n first.1) (λ others e. ap suc e))

checked_is : (ok : ℕ → Bool) (f : List ℕ → Result (ℕ × List ℕ) ℕ) (bytes : List ℕ) → After (λ (x : ℕ × List ℕ). ok x.0 ≡ true) (checked ok f bytes)
checked_is ok f bytes = any (λ (x : ℕ × List ℕ). ok x.0 ≡ true) (f bytes) (λ x. cond (ok x.0) (Ok x) (Err (length bytes))) (λ x. by_test x (ok x.0) refl)
  where
    by_test : (x : ℕ × List ℕ) (b : Bool) → ok x.0 ≡ b → After (λ (x : ℕ × List ℕ). ok x.0 ≡ true) (cond b (Ok x) (Err (length bytes)))
    by_test x true e = e
    by_test x false e = tt

abbrev AreFew : List Item → Type 0
AreFew items = length items ≤ 32768

few_counted : (file count : ℕ) → is_count file count ≡ true → count ≤ 32768
few_counted file count e = leb-true count 32768 (and_parts _ _ e).0

file_few : (bytes : List ℕ) → After (λ (x : (ℕ × (ℕ × List Item)) × List ℕ). AreFew x.0.1.1) (file_at bytes)
unfolding file_at
file_few bytes =
    any (λ (x : (ℕ × (ℕ × List Item)) × List ℕ). AreFew x.0.1.1) (checked is_file_len (number_at w64) bytes) _ (λ file.
    bound (λ (x : (ℕ × List Item) × List ℕ). AreFew x.0.1) (λ (x : (ℕ × (ℕ × List Item)) × List ℕ). AreFew x.0.1.1) _ (λ b. Ok ((file.0, b.0), b.1))
    (bound (λ (x : ℕ × List ℕ). is_count file.0 x.0 ≡ true) (λ (x : (ℕ × List Item) × List ℕ). AreFew x.0.1) (checked (is_count file.0) (number_at w32) file.1) (λ count. items_at count.0 count.1 >>= λ b. Ok ((count.0, b.0), b.1))
    (checked_is (is_count file.0) (number_at w32) file.1) (λ count is.
    bound (λ (x : List Item × List ℕ). length x.0 ≡ count.0) (λ (x : (ℕ × List Item) × List ℕ). AreFew x.0.1) (items_at count.0 count.1) (λ b. Ok ((count.0, b.0), b.1)) (items_read count.0 count.1)
    (λ b e. subst (λ (n : ℕ). n ≤ 32768) (sym e) (few_counted file.0 count.0 is)))) (λ b few. few))

ended_few : (left : ℕ) (x : (ℕ × (ℕ × List Item)) × List ℕ) → AreFew x.0.1.1 → After (λ (y : ℕ × List Item). AreFew y.1) (ended left x)
ended_few left (x, []) few = by_test (total x.1.1 == x.0)
  where
    by_test : (b : Bool) → After (λ (y : ℕ × List Item). AreFew y.1) (cond b (Ok (x.0, x.1.1)) (Err left))
    by_test true = few
    by_test false = tt
ended_few left (x, b ∷ bytes) few = tt

tail_few : (bytes : List ℕ) → After (λ (y : ℕ × List Item). AreFew y.1) (tail_at bytes)
unfolding tail_at
tail_few bytes =
    bound (λ (x : (ℕ × (ℕ × List Item)) × List ℕ). AreFew x.0.1.1) (λ (y : ℕ × List Item). AreFew y.1) (file_at bytes) (ended (length bytes)) (file_few bytes) (ended_few (length bytes))

left_few : (shape : Shape) (bytes : List ℕ) → After (λ (r : Recipe). AreFew r.items) (recipe_left shape bytes)
unfolding recipe_left
left_few shape bytes =
    any (λ (r : Recipe). AreFew r.items) (checked is_name_len (number_at w16) bytes) _ (λ len.
    any (λ (r : Recipe). AreFew r.items) (bytes_at (share_len_of shape.k len.0) len.1) _ (λ share.
    bound (λ (y : ℕ × List Item). AreFew y.1) (λ (r : Recipe). AreFew r.items) (tail_at share.1) (λ rest. Ok (record { name_len = len.0; name_share = share.0; file_len = rest.0; items = rest.1 })) (tail_few share.1) (λ rest few. few)))

few_read : (bytes : List ℕ) (r : Result Recipe ℕ) → After (λ (r : Recipe). AreFew r.items) r → length (fps_read (placed bytes r)) ≤ 32768
few_read bytes (Ok r) few = subst (λ (n : ℕ). n ≤ 32768) (sym (length-map r.items (λ (item : Item). item.fp))) few
few_read bytes (Err left) few = omega arith

-- a recipe names at most so many fingerprints
pub few_named : (shape : Shape) (bytes : List ℕ) → length (fps_of shape bytes) ≤ 32768
unfolding recipe_at
few_named shape bytes = few_read bytes (recipe_left shape bytes) (left_few shape bytes)

pub all_named : (shape : Shape) (files : List FileEntry) → length (named_in shape files) ≤ 32768 * length files
all_named shape [] = omega arith
all_named shape (x ∷ files) =
    let here = few_named shape x.recipe in
    let rest = all_named shape files in
    let both = length-append (fps_of shape x.recipe) (named_in shape files) in
    omega (arith, here, rest, both)

pub times_few : (names : List Fp) (fp : Fp) → times names fp ≤ length names
times_few [] fp = omega arith
times_few (name ∷ names) fp = by_test (bytes_eq name.0 fp.0) (times-cons name names fp) (times_few names fp)
  where
    by_test : (b : Bool) → times (name ∷ names) fp ≡ cond b 1 0 + times names fp → times names fp ≤ length names → times (name ∷ names) fp ≤ suc (length names)
    by_test true e rest = omega (arith, e, rest)
    by_test false e rest = omega (arith, e, rest)
