-- Lists that are cut into batches.
use Rattle.std.proofs.Common.{◌≡◌, ℕ, zero, suc, ◌+◌, ◌-◌, ◌<◌, ◌≤◌, List, [], ◌∷◌, ◌++◌, length, take, drop, min, Some, None, refl, sym, ap, ◌∙◌, subst, arith}
use Rattle.std.specs.List.{flat_map}
use Rattle.std.proofs.lemmas.List.{length-drop, length-take, drop_all, take_min, take-append-drop}
use Rattle.std.proofs.lemmas.List.Concat.{flat_map-cons}
use Rattle.std.specs.Prelude.{slice_get}
use Rattle.user_dedup.specs.MessageFields.Fingerprints.{IsBatch}
use Rattle.upload_job.specs.Upload.{batches_from, in_batches}
use Rattle.upload_job.specs.Lane.{Asking, Committing, onward}

batches-nil : {A : Type 0} (n : ℕ) → batches_from {A = A} n [] ≡ []
batches-nil zero = refl
batches-nil (suc n) = refl

batches_enough : {A : Type 0} (n m : ℕ) (xs : List A) → length xs ≤ n → length xs ≤ m → batches_from n xs ≡ batches_from m xs
batches_enough n m [] h k = batches-nil n ∙ sym (batches-nil m)
batches_enough zero m (x ∷ xs) h k = absurd (omega arith)
batches_enough (suc n) zero (x ∷ xs) h k = absurd (omega arith)
batches_enough {A} (suc n) (suc m) (x ∷ xs) h k =
    let len : length (drop 255 xs) ≡ length xs - 255 = length-drop 255 xs in
    ap (λ (r : List (List A)). take 256 (x ∷ xs) ∷ r) (batches_enough n m (drop 256 (x ∷ xs)) (omega arith) (omega arith))

pub in_batches-nil : {A : Type 0} → in_batches {A = A} [] ≡ []
unfolding in_batches
in_batches-nil = refl

pub in_batches-cons : {A : Type 0} (x : A) (xs : List A) → in_batches (x ∷ xs) ≡ take 256 (x ∷ xs) ∷ in_batches (drop 256 (x ∷ xs))
unfolding in_batches
in_batches-cons {A} x xs =
    let len : length (drop 255 xs) ≡ length xs - 255 = length-drop 255 xs in
    ap (λ (r : List (List A)). take 256 (x ∷ xs) ∷ r) (batches_enough (length xs) (length (drop 256 (x ∷ xs))) (drop 256 (x ∷ xs)) (omega arith) (omega arith))

pub in_batches-some : {A : Type 0} (xs : List A) → 0 < length xs → in_batches xs ≡ take 256 xs ∷ in_batches (drop 256 xs)
in_batches-some [] lt = absurd (omega arith)
in_batches-some (x ∷ xs) lt = in_batches-cons x xs

pub onward_some : (all : List (List ℕ)) (from : ℕ) → from < length all → onward (in_batches (drop from all)) ≡ Asking (take 256 (drop from all)) (in_batches (drop 256 (drop from all)))
onward_some all from lt = let len : length (drop from all) ≡ length all - from = length-drop from all in ap onward (in_batches-some (drop from all) (omega arith))

pub onward_none : (all : List (List ℕ)) (from : ℕ) → length all ≤ from → onward (in_batches (drop from all)) ≡ Committing
onward_none all from le = ap (λ (xs : List (List ℕ)). onward (in_batches xs)) (drop_all from all le) ∙ ap onward in_batches-nil

pub drop_sum : {A : Type 0} (n m : ℕ) (xs : List A) → drop (n + m) xs ≡ drop m (drop n xs)
drop_sum zero m xs = let e : 0 + m ≡ m = omega arith in ap (λ (i : ℕ). drop i xs) e
drop_sum {A} (suc n) m [] = drop_all {X = A} (suc n + m) [] (omega arith) ∙ sym (drop_all {X = A} m [] (omega arith))
drop_sum (suc n) m (x ∷ xs) = let e : suc n + m ≡ suc (n + m) = omega arith in ap (λ (i : ℕ). drop i (x ∷ xs)) e ∙ drop_sum n m xs

-- what lies behind the first n, or behind all of them where they are fewer
drop_taken : {A : Type 0} (n : ℕ) (xs : List A) → drop (length (take n xs)) xs ≡ drop n xs
drop_taken zero xs = refl
drop_taken (suc n) [] = sym (drop_all (suc n) [] (omega arith))
drop_taken (suc n) (x ∷ xs) = drop_taken n xs

pub next_batch : {A : Type 0} (from len : ℕ) (xs : List A) → len ≡ length (take 256 (drop from xs)) → drop (from + len) xs ≡ drop 256 (drop from xs)
next_batch {A} from len xs e = drop_sum from len xs ∙ ap (λ (i : ℕ). drop i (drop from xs)) e ∙ drop_taken 256 (drop from xs)

-- how many there are in a batch depends on the number of all
pub batch_len : {A B : Type 0} (from : ℕ) (xs : List A) (ys : List B) → length xs ≡ length ys → length (take 256 (drop from xs)) ≡ length (take 256 (drop from ys))
batch_len from xs ys e =
    length-take 256 (drop from xs) ∙ ap (λ (n : ℕ). min 256 n) (length-drop from xs ∙ ap (λ (n : ℕ). n - from) e ∙ sym (length-drop from ys)) ∙ sym (length-take 256 (drop from ys))

pub batch_few : {A : Type 0} (from : ℕ) (xs : List A) → length (take 256 (drop from xs)) ≤ 256
batch_few from xs = let e = length-take 256 (drop from xs) in omega arith

pub drop_least : {A : Type 0} (n : ℕ) (xs : List A) → drop (min n (length xs)) xs ≡ drop n xs
drop_least zero xs = let e : min 0 (length xs) ≡ 0 = omega arith in ap (λ (i : ℕ). drop i xs) e
drop_least {A} (suc n) [] = let e : min (suc n) 0 ≡ 0 = omega arith in ap (λ (i : ℕ). drop {A = A} i []) e
drop_least (suc n) (x ∷ xs) = let e : min (suc n) (suc (length xs)) ≡ suc (min n (length xs)) = omega arith in ap (λ (i : ℕ). drop i (x ∷ xs)) e ∙ drop_least n xs

pub take_least : {A : Type 0} (n : ℕ) (xs : List A) → take (min (length xs) n) xs ≡ take n xs
take_least n xs = let e : min (length xs) n ≡ min n (length xs) = omega arith in rw e (take_min n xs)

-- ---- joined they are the list, and each has 1 to 256

joined : {A : Type 0} (n : ℕ) (xs : List A) → length xs ≤ n → flat_map (λ (batch : List A). batch) (in_batches xs) ≡ xs
joined {A} n [] le = ap (flat_map (λ (batch : List A). batch)) in_batches-nil
joined zero (x ∷ xs) le = absurd (omega arith)
joined {A} (suc n) (x ∷ xs) le =
    let len : length (drop 255 xs) ≡ length xs - 255 = length-drop 255 xs in
    ap (flat_map (λ (batch : List A). batch)) (in_batches-cons x xs)
    ∙ flat_map-cons (λ (batch : List A). batch) (take 256 (x ∷ xs)) (in_batches (drop 256 (x ∷ xs)))
    ∙ ap (λ (r : List A). take 256 (x ∷ xs) ++ r) (joined n (drop 256 (x ∷ xs)) (omega arith)) ∙ take-append-drop 256 (x ∷ xs)

pub batches_joined : {A : Type 0} (xs : List A) → flat_map (λ (batch : List A). batch) (in_batches xs) ≡ xs
batches_joined xs = joined (length xs) xs (omega arith)

sized : {A : Type 0} (n : ℕ) (xs : List A) → length xs ≤ n → (i : ℕ) (batch : List A) → slice_get (in_batches xs) i ≡ Some batch → IsBatch batch
sized {A} n [] le i batch e = absurd (let no : None ≡ Some batch = ap (λ (bs : List (List A)). slice_get bs i) (sym in_batches-nil) ∙ e in cc)
sized zero (x ∷ xs) le i batch e = absurd (omega arith)
sized {A} (suc n) (x ∷ xs) le zero batch e =
    let is : Some (take 256 (x ∷ xs)) ≡ Some batch = ap (λ (bs : List (List A)). slice_get bs 0) (sym (in_batches-cons x xs)) ∙ e in
    let same : take 256 (x ∷ xs) ≡ batch = cc in
    let len : length (take 255 xs) ≡ min 255 (length xs) = length-take 255 xs in
    subst IsBatch same (omega arith, omega arith)
sized {A} (suc n) (x ∷ xs) le (suc i) batch e =
    let len : length (drop 255 xs) ≡ length xs - 255 = length-drop 255 xs in
    sized n (drop 256 (x ∷ xs)) (omega arith) i batch (ap (λ (bs : List (List A)). slice_get bs (suc i)) (sym (in_batches-cons x xs)) ∙ e)

pub batch_sized : {A : Type 0} (xs : List A) (i : ℕ) (batch : List A) → slice_get (in_batches xs) i ≡ Some batch → IsBatch batch
batch_sized xs i batch e = sized (length xs) xs (omega arith) i batch e
