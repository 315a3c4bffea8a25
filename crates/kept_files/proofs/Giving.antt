-- What is kept is given.
use Rattle.std.proofs.Common.{◌≡◌, ℕ, zero, suc, ◌+◌, ◌-◌, ◌*◌, ◌/◌, ◌<◌, ◌≤◌, Bool, cond, List, [], ◌∷◌, ◌++◌, length, map, take, drop, get_or, slice_index, Option, Some, None, Result, Ok, refl, sym, ap, ◌∙◌, subst, arith, eq-eqb, append_assoc, length-append, eqb}
use Rattle.std.specs.Prelude.{min, not, find, is_none, option_map, unwrap_or}
use Rattle.std.specs.List.{Contains, flat_map, concat, range_with_len}
use Rattle.std.proofs.Math.Seq.{drop-append-add}
use Rattle.std.proofs.lemmas.List.{get_or-map, length-map, take_at}
use Rattle.std.proofs.lemmas.List.Elements.{All-get_or}
use Rattle.std.proofs.lemmas.List.Concat.{flat_map-cons}
use Rattle.file_recipe.specs.CdBase.Lengths.{share_len_of}
use Rattle.file_recipe.specs.CdBase.Limits.{IsPath}
use Rattle.file_recipe.specs.CdBase.Reading.{AreBytes}
use Rattle.file_recipe.specs.CdBase.ids.Tag.{Tag}
use Rattle.file_recipe.specs.CdBase.ids.UserId.{UserId}
use Rattle.file_recipe.specs.CdBase.ids.Version.{Version}
use Rattle.file_recipe.specs.CdBase.shape.Shape.{Shape}
use Rattle.file_recipe.specs.ReedSolomon.Interpolation.{interpolant}
use Rattle.file_recipe.specs.ReedSolomon.Dispersal.{AreChoice, row, share_byte, share_of}
use Rattle.restore_job.specs.CaontRs.Opening.{opened}
use Rattle.restore_job.specs.CaontRs.Package.{share, package_of}
use Rattle.restore_job.proofs.CaontRs.Opened.{AreBytes-append, gives_back, length-share}
use Rattle.restore_job.specs.Recipe.items.Item.{Item}
use Rattle.restore_job.specs.Recipe.recipe.Recipe.{Recipe}
use Rattle.restore_job.specs.Recipe.Reading.{recipe_at}
use Rattle.restore_job.proofs.Recipe.Written.{again}
use Rattle.file_recipe.specs.FileRecipe.{secrets, recipe_of, recipe_bytes, item_of as item_for}
use Rattle.file_recipe.proofs.Recipes.{recipe_fits}
use Rattle.file_recipe.proofs.Secrets.{secrets_joined}
use Rattle.file_recipe.proofs.CaontRs.Openings.{combine_lt}
use Rattle.restore_job.specs.UserDedup.Cloud.{fingerprint, user_view, held_string}
use Rattle.restore_job.specs.UserDedup.Pages.{entry_at}
use Rattle.restore_job.specs.UserDedup.command.Command.{Command}
use Rattle.restore_job.specs.UserDedup.file_list.FileEntry.{FileEntry}
use Rattle.restore_job.proofs.UserDedup.Owned.{contains_here, contains_later}
use Rattle.restore_job.specs.Restored
use Rattle.restore_job.specs.Restored.{Unrestored, Given, no_item, no_recipe, item_of, string_at, recipe_read, recipe_in, given_by, missing, items_difference, difference, differing, wrong_strings, wrong_length, or_else, unless, behind, of_secret, secret_opened, secrets_opened, batch_opened, batches_opened, batch_count, items_opened, agreed, restored_file}
use Rattle.restore_job.proofs.Sharing.{all_fine}
use Rattle.kept_files.specs.Kept.{Keeps, key_of}

-- ---- recipes

pub by_entry : (shape : Shape) (o : Option FileEntry) (bytes : List ℕ) (r : Recipe) → option_map (λ entry. entry.recipe) o ≡ Some bytes → recipe_at shape bytes ≡ Ok r
    → option_map (λ (entry : FileEntry). recipe_read (recipe_at shape entry.recipe)) o ≡ Some r
by_entry shape None bytes r e read = absurd (let f : None ≡ Some bytes = e in cc)
by_entry shape (Some entry) bytes r e read =
    let same : entry.recipe ≡ bytes = (let f : Some entry.recipe ≡ Some bytes = e in cc) in
    ap (λ (x : Result Recipe ℕ). Some (recipe_read x)) (ap (recipe_at shape) same ∙ read)

pub kept_recipe : (shape : Shape) (cloud : ℕ) (list : List Command) (user : UserId) (path : List ℕ) (version : Version) (file : List ℕ) → IsPath path → length file ≤ 67108864 → Keeps shape cloud list user path version file
    → recipe_in shape list user (key_of shape path version) ≡ Some (recipe_of shape cloud path file)
kept_recipe shape cloud list user path version file named few keeps =
    by_entry shape (entry_at (user_view shape list user).files (key_of shape path version)) (recipe_bytes shape cloud path file) (recipe_of shape cloud path file) keeps.entry
    (again shape (recipe_of shape cloud path file) (recipe_fits shape cloud path file named few))

same_items : (place : ℕ) (f g : List ℕ → Item) (xs : List (List ℕ)) → ((x : List ℕ) → (f x).secret_len ≡ (g x).secret_len) → items_difference place (map f xs) (map g xs) ≡ None
same_items place f g [] same = refl
same_items place f g (x ∷ xs) same =
    ap (λ (b : Bool). cond b (items_difference (place + 1) (map f xs) (map g xs)) (Some place)) (eq-eqb _ _ (same x)) ∙ same_items (place + 1) f g xs same

same_recipes : (shape : Shape) (a b : ℕ) (path file : List ℕ) → difference (recipe_of shape a path file) (recipe_of shape b path file) ≡ None
same_recipes shape a b path file =
    let xs = secrets file in
    let n : length (map (item_for shape a) xs) ≡ length (map (item_for shape b) xs) = length-map xs (item_for shape a) ∙ sym (length-map xs (item_for shape b)) in
    ap (λ (t : Bool). cond (not t) (Some 0) (cond (not (eqb (length file) (length file))) (Some 1) (cond (not (eqb (length (map (item_for shape a) xs)) (length (map (item_for shape b) xs)))) (Some 2) (items_difference 3 (map (item_for shape a) xs) (map (item_for shape b) xs))))) (eq-eqb (length path) (length path) refl)
    ∙ ap (λ (t : Bool). cond (not t) (Some 1) (cond (not (eqb (length (map (item_for shape a) xs)) (length (map (item_for shape b) xs)))) (Some 2) (items_difference 3 (map (item_for shape a) xs) (map (item_for shape b) xs)))) (eq-eqb (length file) (length file) refl)
    ∙ ap (λ (t : Bool). cond (not t) (Some 2) (items_difference 3 (map (item_for shape a) xs) (map (item_for shape b) xs))) (eq-eqb _ _ n)
    ∙ same_items 3 (item_for shape a) (item_for shape b) xs (λ x. refl)

-- ---- rows

pub rows_long : (f : ℕ → List ℕ) (w : ℕ) (clouds : List ℕ) → ((c : ℕ) → length (f c) ≡ w) → length (flat_map f clouds) ≡ length clouds * w
rows_long f w [] long = omega arith
rows_long f w (c ∷ clouds) long =
    let rest = rows_long f w clouds long in
    let next : suc (length clouds) * w ≡ w + length clouds * w = omega arith in
    ap length (flat_map-cons f c clouds) ∙ length-append (f c) (flat_map f clouds) ∙ omega (arith, long c, rest)

pub row_is : (f : ℕ → List ℕ) (w : ℕ) (clouds : List ℕ) (t : ℕ) → ((c : ℕ) → length (f c) ≡ w) → t < length clouds → row w t (flat_map f clouds) ≡ f (slice_index clouds t)
row_is f w [] t long lt = absurd (omega arith)
row_is f w (c ∷ clouds) zero long lt =
    let none : 0 * w ≡ 0 = omega arith in
    ap (λ (k : ℕ). take w (drop k (flat_map f (c ∷ clouds)))) none ∙ ap (take w) (flat_map-cons f c clouds) ∙ take_at (f c) (flat_map f clouds) w (long c)
row_is f w (c ∷ clouds) (suc t) long lt =
    let at : suc t * w ≡ length (f c) + t * w = omega (arith, long c) in
    ap (λ (k : ℕ). take w (drop k (flat_map f (c ∷ clouds)))) at
    ∙ ap (λ (l : List ℕ). take w (drop (length (f c) + t * w) l)) (flat_map-cons f c clouds)
    ∙ ap (take w) (drop-append-add (f c) (flat_map f clouds) (t * w))
    ∙ row_is f w clouds t long (omega arith)

-- ---- bytes

map_bytes : (f : ℕ → ℕ) (xs : List ℕ) → ((x : ℕ) → f x < 256) → AreBytes (map f xs)
map_bytes f [] all i = omega arith
map_bytes f (x ∷ xs) all zero = all x
map_bytes f (x ∷ xs) all (suc i) = map_bytes f xs all i

front_bytes : (xs ys : List ℕ) → AreBytes (xs ++ ys) → AreBytes xs
front_bytes [] ys all i = omega arith
front_bytes (x ∷ xs) ys all zero = all 0
front_bytes (x ∷ xs) ys all (suc i) = front_bytes xs ys (λ k. all (suc k)) i

back_bytes : (xs ys : List ℕ) → AreBytes (xs ++ ys) → AreBytes ys
back_bytes [] ys all = all
back_bytes (x ∷ xs) ys all = back_bytes xs ys (λ k. all (suc k))

parts_bytes : (xss : List (List ℕ)) → AreBytes (concat xss) → (i : ℕ) → AreBytes (get_or xss i [])
parts_bytes [] all i j = omega arith
parts_bytes (xs ∷ xss) all zero j = front_bytes xs (concat xss) all j
parts_bytes (xs ∷ xss) all (suc i) j = parts_bytes xss (back_bytes xs (concat xss) all) i j

pub share_bytes : (s : Shape) (j : ℕ) (text : List ℕ) → AreBytes (share s j text)
unfolding share share_of share_byte interpolant
share_bytes s j text = map_bytes (share_byte s (package_of s text) j) (range_with_len 0 (length (package_of s text) / s.k)) (λ c. combine_lt _ _ s.k)

pub flat_bytes : (f : ℕ → List ℕ) (clouds : List ℕ) → ((c : ℕ) → AreBytes (f c)) → AreBytes (flat_map f clouds)
flat_bytes f [] all i = omega arith
flat_bytes f (c ∷ clouds) all i = (subst AreBytes (sym (flat_map-cons f c clouds)) (AreBytes-append (f c) (flat_map f clouds) (all c) (λ k. flat_bytes f clouds all k))) i

-- ---- secrets in a row

abbrev front_of : List (List ℕ) → ℕ → ℕ → List ℕ
front_of xs place zero = []
front_of xs place (suc n) = get_or xs place [] ++ front_of xs (place + 1) n

front_more : (xs : List (List ℕ)) (place a b : ℕ) → front_of xs place (a + b) ≡ front_of xs place a ++ front_of xs (place + a) b
front_more xs place zero b = let e : 0 + b ≡ b = omega arith in let p : place ≡ place + 0 = omega arith in ap (front_of xs place) e ∙ ap (λ (q : ℕ). front_of xs q b) p
front_more xs place (suc a) b =
    let e : suc a + b ≡ suc (a + b) = omega arith in
    let p : place + 1 + a ≡ place + suc a = omega arith in
    ap (front_of xs place) e ∙ ap (λ (l : List ℕ). get_or xs place [] ++ l) (front_more xs (place + 1) a b)
    ∙ sym (append_assoc (get_or xs place []) (front_of xs (place + 1) a) (front_of xs (place + 1 + a) b)) ∙ ap (λ (q : ℕ). (get_or xs place [] ++ front_of xs (place + 1) a) ++ front_of xs q b) p

front_later : (x : List ℕ) (xs : List (List ℕ)) (place n : ℕ) → front_of (x ∷ xs) (place + 1) n ≡ front_of xs place n
front_later x xs place zero = refl
front_later x xs place (suc n) =
    let e : place + 1 ≡ suc place = omega arith in
    let here : get_or (x ∷ xs) (place + 1) [] ≡ get_or xs place [] = ap (λ (k : ℕ). get_or (x ∷ xs) k []) e in
    let more = front_later x xs (place + 1) n in
    λ i. here i ++ more i

front_all : (xs : List (List ℕ)) → front_of xs 0 (length xs) ≡ concat xs
front_all [] = refl
front_all (x ∷ xs) = ap (λ (l : List ℕ). x ++ l) (front_later x xs 0 (length xs) ∙ front_all xs)

-- ---- from any k clouds

pub kept_is_given : (shape : Shape) (lists : ℕ → List Command) (user : UserId) (path : List ℕ) (version : Version) (file clouds : List ℕ)
    → IsPath path → ((i : ℕ) → slice_index file i < 256) → length file ≤ 67108864 → AreChoice shape clouds
    → ((cloud : ℕ) → Contains clouds cloud → Keeps shape cloud (lists cloud) user path version file)
    → restored_file shape lists user (key_of shape path version) clouds ≡ Ok file
unfolding restored_file
kept_is_given shape lists user path version file clouds named bytes few choice keeps = none_missing ∙ by_clouds clouds refl
  where
    key : Tag × Version
    key = key_of shape path version

    xs : List (List ℕ)
    xs = secrets file

    secret : ℕ → List ℕ
    secret i = get_or xs i []

    given : ℕ → Given
    given = given_by shape lists user key

    firsts : ℕ → List Item
    firsts c = map (item_for shape c) xs

    found : (c : ℕ) → Contains clouds c → recipe_in shape (lists c) user key ≡ Some (recipe_of shape c path file)
    found c has = kept_recipe shape c (lists c) user path version file named few (keeps c has)

    recipe_is : (c : ℕ) → Contains clouds c → (given c).recipe ≡ recipe_of shape c path file
    recipe_is c has = ap (λ (o : Option Recipe). unwrap_or o no_recipe) (found c has)

    item_at : (c i : ℕ) → i < length xs → item_of (firsts c) i ≡ item_for shape c (secret i)
    item_at c i lt = get_or-map (item_for shape c) xs i [] no_item lt

    string_is : (c i : ℕ) → Contains clouds c → i < length xs → string_at (given c) i ≡ share shape c (secret i)
    string_is c i has lt =
        ap (λ (r : Recipe). (given c).held (item_of r.items i).fp) (recipe_is c has)
        ∙ ap (λ (x : Item). (given c).held x.fp) (item_at c i lt)
        ∙ ap (λ (o : Option (List ℕ)). unwrap_or o []) (All-get_or (λ s. held_string (lists c) (fingerprint (share shape c s)) ≡ Some (share shape c s)) xs i [] lt (keeps c has).shares)

    find_none : (cs : List ℕ) → ((c : ℕ) → Contains cs c → Contains clouds c) → find (λ cloud. is_none (recipe_in shape (lists cloud) user key)) cs ≡ None
    find_none [] all = refl
    find_none (c ∷ cs) all =
        ap (λ (o : Option Recipe). cond (is_none o) (Some c) (find (λ cloud. is_none (recipe_in shape (lists cloud) user key)) cs)) (found c (all c (contains_here c cs)))
        ∙ find_none cs (λ x has. all x (contains_later c cs x has))

    none_missing : unless (missing shape lists user key clouds) (agreed shape (map given clouds)) ≡ agreed shape (map given clouds)
    none_missing = ap (λ (o : Option ℕ). unless (option_map Restored.Missing o) (agreed shape (map given clouds))) (find_none clouds (λ c has. has))

    same_clouds : (cs : List ℕ) → map (λ g. g.cloud) (map given cs) ≡ cs
    same_clouds [] = refl
    same_clouds (c ∷ cs) = let more = same_clouds cs in λ i. c ∷ more i

    no_difference : (a : ℕ) (cs : List ℕ) → Contains clouds a → ((c : ℕ) → Contains cs c → Contains clouds c) → differing a (given a).recipe (map (λ g. g.cloud) (map given cs)) (map (λ g. g.recipe) (map given cs)) ≡ None
    no_difference a [] has all = refl
    no_difference a (c ∷ cs) has all =
        let ra = recipe_is a has in
        let rc = recipe_is c (all c (contains_here c cs)) in
        let none : difference (given a).recipe (given c).recipe ≡ None = (λ i. difference (ra i) (rc i)) ∙ same_recipes shape a c path file in
        ap (λ (o : Option ℕ). or_else (option_map (Restored.RecipesDiffer a c) o) (differing a (given a).recipe (map (λ g. g.cloud) (map given cs)) (map (λ g. g.recipe) (map given cs)))) none
        ∙ no_difference a cs has (λ x h. all x (contains_later c cs x h))

    strings_join : (cs : List ℕ) (i : ℕ) → ((c : ℕ) → Contains cs c → Contains clouds c) → i < length xs → flat_map (λ g. string_at g i) (map given cs) ≡ flat_map (λ c. share shape c (secret i)) cs
    strings_join [] i all lt = refl
    strings_join (c ∷ cs) i all lt =
        let here = string_is c i (all c (contains_here c cs)) lt in
        let more = strings_join cs i (λ x h. all x (contains_later c cs x h)) lt in
        flat_map-cons (λ (g : Given). string_at g i) (given c) (map given cs) ∙ (λ k. here k ++ more k) ∙ sym (flat_map-cons (λ (x : ℕ). share shape x (secret i)) c cs)

    file_bytes : AreBytes (concat xs)
    file_bytes = subst AreBytes (sym (secrets_joined file)) bytes

    opens : (a i : ℕ) → i < length xs → secret_opened shape (firsts a) (map given clouds) i ≡ Ok (secret i)
    opens a i lt =
        let len : (item_of (firsts a) i).secret_len ≡ length (secret i) = ap (λ (x : Item). x.secret_len) (item_at a i lt) in
        let w : ℕ = share_len_of shape.k (length (secret i)) in
        let f : ℕ → List ℕ = λ c. share shape c (secret i) in
        let long : (c : ℕ) → length (f c) ≡ w = λ c. length-share shape c (secret i) in
        let joined = strings_join clouds i (λ c has. has) lt in
        let points = same_clouds clouds in
        (λ k. opened shape (len k) (points k) (joined k))
        ∙ gives_back shape (secret i) clouds (flat_map f clouds) choice (parts_bytes xs file_bytes i) (flat_bytes f clouds (λ c. share_bytes shape c (secret i)))
        (rows_long f w clouds long ∙ ap (λ (n : ℕ). n * w) choice.count)
        (λ t l. row_is f w clouds t long (omega (arith, choice.count)))

    all_open : (a place n : ℕ) → place + n ≤ length xs → secrets_opened shape (firsts a) (map given clouds) place n ≡ Ok (front_of xs place n)
    all_open a place zero fits = refl
    all_open a place (suc n) fits =
        let here = opens a place (omega arith) in
        let more = all_open a (place + 1) n (omega arith) in
        λ i. behind (of_secret place (here i)) (more i)

    all_long : (a place n : ℕ) (cs : List ℕ) → ((c : ℕ) → Contains cs c → Contains clouds c) → place + n ≤ length xs → wrong_length shape (firsts a) place n (map given cs) ≡ None
    all_long a place n [] all fits = refl
    all_long a place n (c ∷ cs) all fits =
        ap (λ (o : Option Unrestored). or_else o (wrong_length shape (firsts a) place n (map given cs)))
        (all_fine shape (firsts a) (given c) place n
        (λ j lt. let l : place + j < length xs = omega arith in
        ap length (string_is c (place + j) (all c (contains_here c cs)) l) ∙ length-share shape c (secret (place + j)) ∙ ap (λ (x : Item). share_len_of shape.k x.secret_len) (sym (item_at a (place + j) l))))
        ∙ all_long a place n cs (λ x h. all x (contains_later c cs x h)) fits

    all_batches : (a m place left : ℕ) → m ≡ batch_count left → place + left ≤ length xs → batches_opened shape (firsts a) (map given clouds) m place left ≡ Ok (front_of xs place left)
    all_batches a zero place left is fits = let none : 0 ≡ left = omega arith in ap (λ (n : ℕ). Ok (front_of xs place n)) none
    all_batches a (suc m) place left is fits =
        let size : ℕ = min 256 left in
        let le : place + size ≤ length xs = omega arith in
        let sum : size + (left - size) ≡ left = omega arith in
        let rest = all_batches a m (place + size) (left - size) (omega arith) (omega arith) in
        ap (λ (o : Option Unrestored). behind (unless o (secrets_opened shape (firsts a) (map given clouds) place size)) (batches_opened shape (firsts a) (map given clouds) m (place + size) (left - size))) (all_long a place size clouds (λ c has. has) le)
        ∙ (λ i. behind (all_open a place size le i) (rest i))
        ∙ ap Ok (sym (front_more xs place size (left - size))) ∙ ap (λ (n : ℕ). Ok (front_of xs place n)) sum

    by_clouds : (cs : List ℕ) → clouds ≡ cs → agreed shape (map given clouds) ≡ Ok file
    by_clouds [] e = absurd (let n = ap length e in omega (arith, choice.count, shape.several))
    by_clouds (a ∷ cs) e =
        let has : Contains clouds a = subst (λ (l : List ℕ). Contains l a) (sym e) (contains_here a cs) in
        let all : (c : ℕ) → Contains cs c → Contains clouds c = λ c h. subst (λ (l : List ℕ). Contains l c) (sym e) (contains_later a cs c h) in
        let items : (given a).recipe.items ≡ firsts a = ap (λ (r : Recipe). r.items) (recipe_is a has) in
        let count : length (firsts a) ≡ length xs = length-map xs (item_for shape a) in
        ap (λ (l : List ℕ). agreed shape (map given l)) e
        ∙ ap (λ (o : Option Unrestored). unless o (items_opened shape (given a).recipe.items (map given (a ∷ cs)))) (no_difference a cs has all)
        ∙ ap (λ (l : List ℕ). items_opened shape (given a).recipe.items (map given l)) (sym e)
        ∙ ap (λ (is : List Item). items_opened shape is (map given clouds)) items
        ∙ all_batches a (batch_count (length (firsts a))) 0 (length (firsts a)) refl (omega arith)
        ∙ ap (λ (n : ℕ). Ok (front_of xs 0 n)) count ∙ ap Ok (front_all xs ∙ secrets_joined file)
