-- Why clouds with some lists give no file: one of them lacks it, or has a string of another length.
use Rattle.std.proofs.Common.{◌≡◌, ◌≢◌, ℕ, zero, suc, ◌+◌, ◌-◌, ◌*◌, ◌<◌, ◌≤◌, ◌⊎◌, Bool, true, false, cond, List, [], ◌∷◌, ◌++◌, length, map, Option, Some, None, Result, Ok, Err, refl, sym, ap, ◌∙◌, subst, arith, inl, inr}
use Rattle.std.specs.Prelude.{min, find, is_none, option_map}
use Rattle.std.specs.List.{Contains}
use Rattle.std.proofs.lemmas.Bool.{cases_lt, cases_eq, eq-eqb, ne_eqb}
use Rattle.transcript.specs.CdBase.Lengths.{share_len_of}
use Rattle.transcript.specs.CdBase.ids.Tag.{Tag}
use Rattle.transcript.specs.CdBase.ids.UserId.{UserId}
use Rattle.transcript.specs.CdBase.ids.Version.{Version}
use Rattle.transcript.specs.CdBase.shape.Shape.{Shape}
use Rattle.restore_job.specs.CaontRs.opening.RecoverErr.{RecoverErr}
use Rattle.restore_job.specs.Recipe.items.Item.{Item}
use Rattle.restore_job.specs.Recipe.recipe.Recipe.{Recipe}
use Rattle.restore_job.specs.UserDedup.command.Command.{Command}
use Rattle.restore_job.proofs.UserDedup.Owned.{contains_here, contains_later, contains_nothing, contains_cases}
use Rattle.restore_job.specs.Restored
use Rattle.restore_job.specs.Restored.{Unrestored, Given, or_else, unless, joined, behind, item_of, string_at, recipe_in, given_by, missing, difference, differing, wrong_string, wrong_strings, wrong_length, secret_opened, of_secret, secrets_opened, batch_opened, batches_opened, batch_count, items_opened, agreed, restored_file}
use Rattle.restore_job.proofs.Ending.{never_agreed}
use Rattle.restore_job.proofs.Wrong.{SameItems, recipes_same}
use Rattle.subset_restore.proofs.Elements.{mapped_from, contains_mapped}

-- ---- outcomes and refusals

abbrev pub gives : List ℕ → Result (List ℕ) Unrestored
gives bytes = Ok bytes

abbrev pub refuses : Unrestored → Result (List ℕ) Unrestored
refuses why = Err why

abbrev cloud_in : Unrestored → ℕ
cloud_in (Restored.Missing c) = c
cloud_in (Restored.RecipesDiffer a b place) = a
cloud_in (Restored.ShareLength c secret found wanted) = c
cloud_in (Restored.NotOpened secret why) = 0

abbrev IsWrongLength : Unrestored → ℕ → Type 0
IsWrongLength (Restored.Missing c) cloud = ⊥
IsWrongLength (Restored.RecipesDiffer a b place) cloud = ⊥
IsWrongLength (Restored.ShareLength c secret found wanted) cloud = c ≡ cloud
IsWrongLength (Restored.NotOpened secret why) cloud = ⊥

why_is : (a b : Unrestored) → refuses a ≡ refuses b → a ≡ b
why_is a b e = cc

some_is : (a b : Unrestored) → Some a ≡ Some b → a ≡ b
some_is a b e = cc

no_bytes : (why : Unrestored) (bytes : List ℕ) → refuses why ≡ gives bytes → ⊥
no_bytes why bytes e = cc

none_some : (why : Unrestored) → None ≡ Some why → ⊥
none_some why e = cc

some_none : (why : Unrestored) → Some why ≡ None → ⊥
some_none why e = cc

-- ---- a cloud that lacks the version

abbrev Lacks : Shape → (ℕ → List Command) → UserId → Tag × Version → ℕ → Bool
Lacks shape lists user key cloud = is_none (recipe_in shape (lists cloud) user key)

some_num : (a b : ℕ) → Some a ≡ Some b → a ≡ b
some_num a b e = cc

found_is : (test : ℕ → Bool) (xs : List ℕ) (x : ℕ) → find test xs ≡ Some x → test x ≡ true
found_is test [] x e = cc
found_is test (y ∷ xs) x e = go (λ f. found_is test xs x f) (test y) refl e
  where
    go : (find test xs ≡ Some x → test x ≡ true) → (b : Bool) → test y ≡ b → cond b (Some y) (find test xs) ≡ Some x → test x ≡ true
    go more true t e = subst (λ (z : ℕ). test z ≡ true) (some_num y x e) t
    go more false t e = more e

pub finds_one : (test : ℕ → Bool) (xs : List ℕ) (x : ℕ) → Contains xs x → test x ≡ true → (y : ℕ) × (find test xs ≡ Some y)
finds_one test [] x c t = absurd (contains_nothing x c)
finds_one test (y ∷ xs) x c t = go (λ h. finds_one test xs x h t) (test y) refl
  where
    differs : test y ≡ false → test y ≡ true → ⊥
    differs e f = cc

    go : (Contains xs x → (z : ℕ) × (find test xs ≡ Some z)) → (b : Bool) → test y ≡ b → (z : ℕ) × (cond b (Some y) (find test xs) ≡ Some z)
    go more true e = (y, refl)
    go more false e = elim (contains_cases y xs x c) [
      | inl same ↦ absurd (differs e (ap test same ∙ t))
      | inr h ↦ more h
    ]

is_none_of : (o : Option Recipe) → is_none o ≡ true → o ≡ None
is_none_of None e = refl
is_none_of (Some r) e = cc

by_missing : (o : Option ℕ) (outcome : Result (List ℕ) Unrestored) (c : ℕ) → (outcome ≡ refuses (Restored.Missing c) → ⊥)
    → unless (option_map Restored.Missing o) outcome ≡ refuses (Restored.Missing c) → o ≡ Some c
by_missing None outcome c never e = absurd (never e)
by_missing (Some x) outcome c never e = ap (λ (n : ℕ). Some n) (ap cloud_in (why_is (Restored.Missing x) (Restored.Missing c) e))

never_missing : (shape : Shape) (all : List Given) (c : ℕ) → agreed shape all ≡ refuses (Restored.Missing c) → ⊥
never_missing shape all c e = let never = never_agreed shape all in rw e at never

-- the first cloud that lacks it
pub missing_is : (shape : Shape) (lists : ℕ → List Command) (user : UserId) (key : Tag × Version) (clouds : List ℕ) (c : ℕ)
    → restored_file shape lists user key clouds ≡ refuses (Restored.Missing c) → find (Lacks shape lists user key) clouds ≡ Some c
unfolding restored_file
missing_is shape lists user key clouds c e =
    by_missing (find (Lacks shape lists user key) clouds) (agreed shape (map (given_by shape lists user key) clouds)) c (never_missing shape (map (given_by shape lists user key) clouds) c) e

pub missing_lacks : (shape : Shape) (lists : ℕ → List Command) (user : UserId) (key : Tag × Version) (clouds : List ℕ) (c : ℕ)
    → restored_file shape lists user key clouds ≡ refuses (Restored.Missing c) → recipe_in shape (lists c) user key ≡ None
missing_lacks shape lists user key clouds c e =
    is_none_of (recipe_in shape (lists c) user key) (found_is (Lacks shape lists user key) clouds c (missing_is shape lists user key clouds c e))

-- from choices with it comes nothing
pub lacking_refuses : (shape : Shape) (lists : ℕ → List Command) (user : UserId) (key : Tag × Version) (clouds : List ℕ) (c : ℕ)
    → Contains clouds c → recipe_in shape (lists c) user key ≡ None → (why : Unrestored) × (restored_file shape lists user key clouds ≡ Err why)
unfolding restored_file
lacking_refuses shape lists user key clouds c has lacks =
    let f = finds_one (Lacks shape lists user key) clouds c has (ap is_none lacks) in
    (Restored.Missing f.0, ap (λ (o : Option ℕ). unless (option_map Restored.Missing o) (agreed shape (map (given_by shape lists user key) clouds))) f.1)

pub found_missing : (shape : Shape) (lists : ℕ → List Command) (user : UserId) (key : Tag × Version) (clouds : List ℕ) (c : ℕ)
    → find (Lacks shape lists user key) clouds ≡ Some c → restored_file shape lists user key clouds ≡ Err (Restored.Missing c)
unfolding restored_file
found_missing shape lists user key clouds c e = ap (λ (o : Option ℕ). unless (option_map Restored.Missing o) (agreed shape (map (given_by shape lists user key) clouds))) e

-- ---- the lists of other clouds

pub find_same : (f g : ℕ → Bool) (xs : List ℕ) → ((x : ℕ) → Contains xs x → f x ≡ g x) → find f xs ≡ find g xs
find_same f g [] same = refl
find_same f g (x ∷ xs) same =
    let here = same x (contains_here x xs) in
    let more = find_same f g xs (λ y c. same y (contains_later x xs y c)) in
    λ i. cond (here i) (Some x) (more i)

pub map_same : {A B : Type 0} (f g : A → B) (xs : List A) → ((x : A) → Contains xs x → f x ≡ g x) → map f xs ≡ map g xs
map_same f g [] same = refl
map_same f g (x ∷ xs) same =
    let here = same x (contains_here x xs) in
    let more = map_same f g xs (λ y c. same y (contains_later x xs y c)) in
    λ i. here i ∷ more i

-- clouds with the same lists give the same
pub same_file : (shape : Shape) (one other : ℕ → List Command) (user : UserId) (key : Tag × Version) (clouds : List ℕ)
    → ((c : ℕ) → Contains clouds c → one c ≡ other c) → restored_file shape one user key clouds ≡ restored_file shape other user key clouds
unfolding restored_file
same_file shape one other user key clouds same =
    let found = find_same (Lacks shape one user key) (Lacks shape other user key) clouds (λ c has. ap (λ (l : List Command). is_none (recipe_in shape l user key)) (same c has)) in
    let given = map_same (given_by shape one user key) (given_by shape other user key) clouds (λ c has. ap (λ (l : List Command). given_by shape (λ x. l) user key c) (same c has)) in
    λ i. unless (option_map Restored.Missing (found i)) (agreed shape (given i))

-- what is found first is found first where all up to it is the same
pub find_front : (f g : ℕ → Bool) (front rest : List ℕ) (c : ℕ) → ((x : ℕ) → Contains (front ++ c ∷ []) x → f x ≡ g x) → find f (front ++ c ∷ rest) ≡ Some c
    → find g (front ++ c ∷ rest) ≡ Some c
find_front f g [] rest c same e = ap (λ (b : Bool). cond b (Some c) (find g rest)) (sym (same c (contains_here c [])) ∙ found_is f (c ∷ rest) c e)
find_front f g (x ∷ front) rest c same e = go (λ h. find_front f g front rest c (λ y has. same y (contains_later x (front ++ c ∷ []) y has)) h) (f x) refl e
  where
    go : (find f (front ++ c ∷ rest) ≡ Some c → find g (front ++ c ∷ rest) ≡ Some c) → (b : Bool) → f x ≡ b → cond b (Some x) (find f (front ++ c ∷ rest)) ≡ Some c
        → cond (g x) (Some x) (find g (front ++ c ∷ rest)) ≡ Some c
    go more true t e = ap (λ (b : Bool). cond b (Some x) (find g (front ++ c ∷ rest))) (sym (same x (contains_here x (front ++ c ∷ []))) ∙ t) ∙ e
    go more false t e = ap (λ (b : Bool). cond b (Some x) (find g (front ++ c ∷ rest))) (sym (same x (contains_here x (front ++ c ∷ []))) ∙ t) ∙ more e

pub same_missing : (shape : Shape) (one other : ℕ → List Command) (user : UserId) (key : Tag × Version) (front rest : List ℕ) (c : ℕ)
    → ((x : ℕ) → Contains (front ++ c ∷ []) x → one x ≡ other x) → restored_file shape one user key (front ++ c ∷ rest) ≡ refuses (Restored.Missing c)
    → restored_file shape other user key (front ++ c ∷ rest) ≡ refuses (Restored.Missing c)
same_missing shape one other user key front rest c same e =
    found_missing shape other user key (front ++ c ∷ rest) c
    (find_front (Lacks shape one user key) (Lacks shape other user key) front rest c (λ x has. ap (λ (l : List Command). is_none (recipe_in shape l user key)) (same x has))
    (missing_is shape one user key (front ++ c ∷ rest) c e))

-- ---- a string of another length

-- an item's string isn't as long as a share of the secret
pub record IsWrong (shape : Shape) (given : Given) : Type 0 where
  pub i : ℕ
  pub within : i < length given.recipe.items
  pub differ : length (string_at given i) ≢ share_len_of shape.k (item_of given.recipe.items i).secret_len

-- the same by the lengths in other items
pub record IsWrongBy (shape : Shape) (items : List Item) (all : List Given) (cloud : ℕ) : Type 0 where
  pub given : Given
  pub has : Contains all given
  pub cloud_is : given.cloud ≡ cloud
  pub i : ℕ
  pub within : i < length items
  pub differ : length (string_at given i) ≢ share_len_of shape.k (item_of items i).secret_len

abbrev IsRight : Shape → List Item → Given → ℕ → Type 0
IsRight shape items given i = length (string_at given i) ≡ share_len_of shape.k (item_of items i).secret_len

string_wrong : (shape : Shape) (items : List Item) (given : Given) (i : ℕ) (why : Unrestored) → wrong_string shape items given i ≡ Some why
    → (IsRight shape items given i → ⊥) × IsWrongLength why given.cloud
string_wrong shape items given i why e = elim (cases_eq (length (string_at given i)) (share_len_of shape.k (item_of items i).secret_len)) [
  | inl same ↦ absurd (none_some why (sym (ap (λ (b : Bool). cond b None (Some (Restored.ShareLength given.cloud i (length (string_at given i)) (share_len_of shape.k (item_of items i).secret_len))))
      (eq-eqb (length (string_at given i)) (share_len_of shape.k (item_of items i).secret_len) same)) ∙ e))
  | inr other ↦ (
    other,
    subst (λ (w : Unrestored). IsWrongLength w given.cloud)
        (some_is _ why (sym (ap (λ (b : Bool). cond b None (Some (Restored.ShareLength given.cloud i (length (string_at given i)) (share_len_of shape.k (item_of items i).secret_len))))
        (ne_eqb (length (string_at given i)) (share_len_of shape.k (item_of items i).secret_len) other)) ∙ e)) refl,
  )
]

string_right : (shape : Shape) (items : List Item) (given : Given) (i : ℕ) → wrong_string shape items given i ≡ None → IsRight shape items given i
string_right shape items given i e = elim (cases_eq (length (string_at given i)) (share_len_of shape.k (item_of items i).secret_len)) [
  | inl same ↦ same
  | inr other ↦ absurd (some_none _ (sym (ap (λ (b : Bool). cond b None (Some (Restored.ShareLength given.cloud i (length (string_at given i)) (share_len_of shape.k (item_of items i).secret_len))))
      (ne_eqb (length (string_at given i)) (share_len_of shape.k (item_of items i).secret_len) other)) ∙ e))
]

pub wrong_is : (shape : Shape) (given : Given) (secret : ℕ) (why : Unrestored) → secret < length given.recipe.items → wrong_string shape given.recipe.items given secret ≡ Some why → IsWrong shape given
wrong_is shape given secret why within e = record { i = secret; within = within; differ = (string_wrong shape given.recipe.items given secret why e).0 }

-- one of so many strings is wrong
record WrongOf (shape : Shape) (items : List Item) (given : Given) (place n : ℕ) (why : Unrestored) : Type 0 where
  pub i : ℕ
  pub above : place ≤ i
  pub below : i < place + n
  pub differ : IsRight shape items given i → ⊥
  pub names : IsWrongLength why given.cloud

strings_wrong : (shape : Shape) (items : List Item) (given : Given) (place n : ℕ) (why : Unrestored) → wrong_strings shape items given place n ≡ Some why → WrongOf shape items given place n why
strings_wrong shape items given place zero why e = absurd (none_some why e)
strings_wrong shape items given place (suc n) why e = go (λ f. strings_wrong shape items given (place + 1) n why f) (wrong_string shape items given place) refl e
  where
    go : (wrong_strings shape items given (place + 1) n ≡ Some why → WrongOf shape items given (place + 1) n why) → (o : Option Unrestored) → wrong_string shape items given place ≡ o → or_else o (wrong_strings shape items given (place + 1) n) ≡ Some why → WrongOf shape items given place (suc n) why
    go more None is e = let w = more e in
        record { i = w.i; above = let a = w.above in omega arith; below = let b = w.below in omega arith; differ = w.differ; names = w.names }
    go more (Some first) is e = let w = string_wrong shape items given place why (is ∙ e) in
        record { i = place; above = omega arith; below = omega arith; differ = w.0; names = w.1 }

strings_right : (shape : Shape) (items : List Item) (given : Given) (place n : ℕ) → wrong_strings shape items given place n ≡ None
    → (i : ℕ) → place ≤ i → i < place + n → IsRight shape items given i
strings_right shape items given place zero e i above below = absurd (omega arith)
strings_right shape items given place (suc n) e i above below = go (λ f a b. strings_right shape items given (place + 1) n f i a b) (wrong_string shape items given place) refl e
  where
    go : (wrong_strings shape items given (place + 1) n ≡ None → place + 1 ≤ i → i < place + 1 + n → IsRight shape items given i) → (o : Option Unrestored) → wrong_string shape items given place ≡ o → or_else o (wrong_strings shape items given (place + 1) n) ≡ None → IsRight shape items given i
    go more (Some first) is e = absurd (some_none first e)
    go more None is e = elim (cases_eq place i) [
      | inl same ↦ subst (IsRight shape items given) same (string_right shape items given place is)
      | inr other ↦ more e (omega arith) (omega arith)
    ]

-- one of these clouds has a wrong one
record WrongAmong (shape : Shape) (items : List Item) (all : List Given) (place n : ℕ) (why : Unrestored) : Type 0 where
  pub given : Given
  pub has : Contains all given
  pub wrong : WrongOf shape items given place n why

length_wrong : (shape : Shape) (items : List Item) (place n : ℕ) (all : List Given) (why : Unrestored) → wrong_length shape items place n all ≡ Some why → WrongAmong shape items all place n why
length_wrong shape items place n [] why e = absurd (none_some why e)
length_wrong shape items place n (given ∷ all) why e = go (λ f. length_wrong shape items place n all why f) (wrong_strings shape items given place n) refl e
  where
    go : (wrong_length shape items place n all ≡ Some why → WrongAmong shape items all place n why) → (o : Option Unrestored) → wrong_strings shape items given place n ≡ o → or_else o (wrong_length shape items place n all) ≡ Some why → WrongAmong shape items (given ∷ all) place n why
    go more None is e = let w = more e in record { given = w.given; has = contains_later given all w.given w.has; wrong = w.wrong }
    go more (Some first) is e = record { given = given; has = contains_here given all; wrong = strings_wrong shape items given place n why (is ∙ e) }

length_right : (shape : Shape) (items : List Item) (place n : ℕ) (all : List Given) → wrong_length shape items place n all ≡ None
    → (given : Given) → Contains all given → (i : ℕ) → place ≤ i → i < place + n → IsRight shape items given i
length_right shape items place n [] e given has i above below = absurd (contains_nothing given has)
length_right shape items place n (first ∷ all) e given has i above below = go (λ f h. length_right shape items place n all f given h i above below) (wrong_strings shape items first place n) refl e
  where
    go : (wrong_length shape items place n all ≡ None → Contains all given → IsRight shape items given i) → (o : Option Unrestored) → wrong_strings shape items first place n ≡ o → or_else o (wrong_length shape items place n all) ≡ None → IsRight shape items given i
    go more (Some why) is e = absurd (some_none why e)
    go more None is e = elim (contains_cases first all given has) [
      | inl same ↦ subst (λ (g : Given). IsRight shape items g i) same (strings_right shape items first place n is i above below)
      | inr h ↦ more e h
    ]

-- ---- batches

-- no secret's refusal is one of a length
secret_other : (i : ℕ) (r : Result (List ℕ) RecoverErr) (why : Unrestored) (c : ℕ) → of_secret i r ≡ Err why → IsWrongLength why c → ⊥
secret_other i (Ok bytes) why c e is = no_bytes why bytes (sym e)
secret_other i (Err w) why c e is = subst (λ (x : Unrestored). IsWrongLength x c) (sym (why_is (Restored.NotOpened i w) why e)) is

joined_err : (bytes : List ℕ) (o : Result (List ℕ) Unrestored) (why : Unrestored) → joined bytes o ≡ Err why → o ≡ Err why
joined_err bytes (Ok more) why e = absurd (no_bytes why (bytes ++ more) (sym e))
joined_err bytes (Err w) why e = e

-- the first outcome's refusal, or the second's
behind_err : (one other : Result (List ℕ) Unrestored) (why : Unrestored) → behind one other ≡ Err why → (one ≡ Err why) ⊎ (other ≡ Err why)
behind_err (Ok bytes) other why e = inr (joined_err bytes other why e)
behind_err (Err w) other why e = inl e

joined_ok : (bytes : List ℕ) (o : Result (List ℕ) Unrestored) (file : List ℕ) → joined bytes o ≡ Ok file → (more : List ℕ) × (o ≡ Ok more)
joined_ok bytes (Ok more) file e = (more, refl)
joined_ok bytes (Err w) file e = absurd (no_bytes w file e)

behind_ok : (one other : Result (List ℕ) Unrestored) (file : List ℕ) → behind one other ≡ Ok file → ((a : List ℕ) × (one ≡ Ok a)) × ((b : List ℕ) × (other ≡ Ok b))
behind_ok (Ok bytes) other file e = ((bytes, refl), joined_ok bytes other file e)
behind_ok (Err w) other file e = absurd (no_bytes w file e)

secrets_other : (shape : Shape) (items : List Item) (all : List Given) (place n : ℕ) (why : Unrestored) (c : ℕ) → secrets_opened shape items all place n ≡ Err why → IsWrongLength why c → ⊥
secrets_other shape items all place zero why c e is = no_bytes why [] (sym e)
secrets_other shape items all place (suc n) why c e is =
    elim (behind_err (of_secret place (secret_opened shape items all place)) (secrets_opened shape items all (place + 1) n) why e) [
      | inl first ↦ secret_other place (secret_opened shape items all place) why c first is
      | inr more ↦ secrets_other shape items all (place + 1) n why c more is
    ]

by_length : (o : Option Unrestored) (outcome : Result (List ℕ) Unrestored) (why : Unrestored) → unless o outcome ≡ Err why → (o ≡ Some why) ⊎ ((o ≡ None) × (outcome ≡ Err why))
by_length None outcome why e = inr (refl, e)
by_length (Some w) outcome why e = inl (ap (λ (x : Unrestored). Some x) (why_is w why e))

unless_ok : (o : Option Unrestored) (outcome : Result (List ℕ) Unrestored) (file : List ℕ) → unless o outcome ≡ Ok file → (o ≡ None) × (outcome ≡ Ok file)
unless_ok None outcome file e = (refl, e)
unless_ok (Some w) outcome file e = absurd (no_bytes w file e)

batch_wrong : (shape : Shape) (items : List Item) (all : List Given) (place n : ℕ) (why : Unrestored) (c : ℕ) → batch_opened shape items all place n ≡ Err why → IsWrongLength why c → WrongAmong shape items all place n why
batch_wrong shape items all place n why c e is = elim (by_length (wrong_length shape items place n all) (secrets_opened shape items all place n) why e) [
  | inl wrong ↦ length_wrong shape items place n all why wrong
  | inr other ↦ absurd (secrets_other shape items all place n why c other.1 is)
]

-- a wrong string among so many more
batches_wrong : (shape : Shape) (items : List Item) (all : List Given) (m place left : ℕ) (why : Unrestored) (c : ℕ) → batches_opened shape items all m place left ≡ Err why → IsWrongLength why c → WrongAmong shape items all place left why
batches_wrong shape items all zero place left why c e is = absurd (no_bytes why [] (sym e))
batches_wrong shape items all (suc m) place left why c e is =
    elim (behind_err (batch_opened shape items all place (min 256 left)) (batches_opened shape items all m (place + min 256 left) (left - min 256 left)) why e) [
      | inl first ↦
          let w = batch_wrong shape items all place (min 256 left) why c first is in
          record { given = w.given; has = w.has; wrong = record { i = w.wrong.i; above = w.wrong.above; below = let b = w.wrong.below in omega arith; differ = w.wrong.differ; names = w.wrong.names } }
      | inr more ↦
          let w = batches_wrong shape items all m (place + min 256 left) (left - min 256 left) why c more is in
          record { given = w.given; has = w.has; wrong = record { i = w.wrong.i; above = let a = w.wrong.above in omega arith; below = let b = w.wrong.below in omega arith; differ = w.wrong.differ; names = w.wrong.names } }
    ]

batches_right : (shape : Shape) (items : List Item) (all : List Given) (m place left : ℕ) (file : List ℕ) → batches_opened shape items all m place left ≡ Ok file → left ≤ m * 256
    → (given : Given) → Contains all given → (i : ℕ) → place ≤ i → i < place + left → IsRight shape items given i
batches_right shape items all zero place left file e enough given has i above below = absurd (omega arith)
batches_right shape items all (suc m) place left file e enough given has i above below =
    let parts = behind_ok (batch_opened shape items all place (min 256 left)) (batches_opened shape items all m (place + min 256 left) (left - min 256 left)) file e in
    let first = unless_ok (wrong_length shape items place (min 256 left) all) (secrets_opened shape items all place (min 256 left)) parts.0.0 parts.0.1 in
    elim (cases_lt i (place + min 256 left)) [
      | inl l ↦ length_right shape items place (min 256 left) all first.0 given has i above l
      | inr m' ↦ batches_right shape items all m (place + min 256 left) (left - min 256 left) parts.1.0 parts.1.1 (omega arith) given has i m' (omega arith)
    ]

-- ---- recipes that agree

or_none : (one other : Option Unrestored) → or_else one other ≡ None → (one ≡ None) × (other ≡ None)
or_none None other e = (refl, e)
or_none (Some w) other e = absurd (some_none w e)

mapped_none : (make : ℕ → Unrestored) (o : Option ℕ) → option_map make o ≡ None → o ≡ None
mapped_none make None e = refl
mapped_none make (Some n) e = absurd (some_none (make n) e)

all_same : (cloud : ℕ) (recipe : Recipe) (all : List Given) → differing cloud recipe (map (λ given. given.cloud) all) (map (λ given. given.recipe) all) ≡ None
    → (given : Given) → Contains all given → SameItems recipe.items given.recipe.items
all_same cloud recipe [] e given has = absurd (contains_nothing given has)
all_same cloud recipe (g ∷ all) e given has =
    let o = or_none (option_map (Restored.RecipesDiffer cloud g.cloud) (difference recipe g.recipe)) (differing cloud recipe (map (λ given. given.cloud) all) (map (λ given. given.recipe) all)) e in
    elim (contains_cases g all given has) [
      | inl same ↦ subst (λ (x : Given). SameItems recipe.items x.recipe.items) same (recipes_same recipe g.recipe (mapped_none (Restored.RecipesDiffer cloud g.cloud) (difference recipe g.recipe) o.0))
      | inr h ↦ all_same cloud recipe all o.1 given h
    ]

first_same : (a : Given) (others : List Given) → differing a.cloud a.recipe (map (λ given. given.cloud) others) (map (λ given. given.recipe) others) ≡ None
    → (given : Given) → Contains (a ∷ others) given → SameItems a.recipe.items given.recipe.items
first_same a others e given has = elim (contains_cases a others given has) [
  | inl same ↦ subst (λ (x : Given). SameItems a.recipe.items x.recipe.items) same (record { count = refl; lens = λ i. refl })
  | inr h ↦ all_same a.cloud a.recipe others e given h
]

-- no recipe's difference is one of a length
differing_other : (cloud : ℕ) (recipe : Recipe) (clouds : List ℕ) (recipes : List Recipe) (why : Unrestored) (c : ℕ) → differing cloud recipe clouds recipes ≡ Some why → IsWrongLength why c → ⊥
differing_other cloud recipe [] recipes why c e is = none_some why e
differing_other cloud recipe (x ∷ clouds) [] why c e is = none_some why e
differing_other cloud recipe (x ∷ clouds) (r ∷ recipes) why c e is = go (λ f. differing_other cloud recipe clouds recipes why c f is) (difference recipe r) e
  where
    go : (differing cloud recipe clouds recipes ≡ Some why → ⊥) → (o : Option ℕ) → or_else (option_map (Restored.RecipesDiffer cloud x) o) (differing cloud recipe clouds recipes) ≡ Some why → ⊥
    go more None e = more e
    go more (Some n) e = subst (λ (w : Unrestored). IsWrongLength w c) (sym (some_is (Restored.RecipesDiffer cloud x n) why e)) is

-- ---- what clouds give

pub record WrongGiven (shape : Shape) (all : List Given) (cloud : ℕ) : Type 0 where
  pub given : Given
  pub has : Contains all given
  pub cloud_is : given.cloud ≡ cloud
  pub wrong : IsWrong shape given

names_one : (why : Unrestored) (a b : ℕ) → IsWrongLength why a → IsWrongLength why b → a ≡ b
names_one (Restored.Missing c) a b one other = absurd one
names_one (Restored.RecipesDiffer x y place) a b one other = absurd one
names_one (Restored.ShareLength c secret found wanted) a b one other = sym one ∙ other
names_one (Restored.NotOpened secret w) a b one other = absurd one

agreed_wrong : (shape : Shape) (all : List Given) (why : Unrestored) (c : ℕ) → agreed shape all ≡ Err why → IsWrongLength why c → WrongGiven shape all c
agreed_wrong shape [] why c e is = absurd (no_bytes why [] (sym e))
agreed_wrong shape (a ∷ others) why c e is =
    let clouds : List ℕ = map (λ given. given.cloud) others in
    let recipes : List Recipe = map (λ given. given.recipe) others in
    elim (by_length (differing a.cloud a.recipe clouds recipes) (items_opened shape a.recipe.items (a ∷ others)) why e) [
      | inl differ ↦ absurd (differing_other a.cloud a.recipe clouds recipes why c differ is)
      | inr opened ↦
          let w : WrongAmong shape a.recipe.items (a ∷ others) 0 (length a.recipe.items) why =
          batches_wrong shape a.recipe.items (a ∷ others) (batch_count (length a.recipe.items)) 0 (length a.recipe.items) why c opened.1 is in
          let same = first_same a others opened.0 w.given w.has in
          record {
            given = w.given;
            has = w.has;
            cloud_is = names_one why w.given.cloud c w.wrong.names is;
            wrong = record {
              i = w.wrong.i;
              within = let b = w.wrong.below in omega (arith, same.count);
              differ = λ right. w.wrong.differ (right ∙ ap (λ (n : ℕ). share_len_of shape.k n) (sym (same.lens w.wrong.i)));
            };
          }
    ]

agreed_right : (shape : Shape) (all : List Given) (file : List ℕ) → agreed shape all ≡ Ok file → (given : Given) → Contains all given → IsWrong shape given → ⊥
agreed_right shape [] file e given has wrong = contains_nothing given has
agreed_right shape (a ∷ others) file e given has wrong =
    let clouds : List ℕ = map (λ given. given.cloud) others in
    let recipes : List Recipe = map (λ given. given.recipe) others in
    let parts = unless_ok (differing a.cloud a.recipe clouds recipes) (items_opened shape a.recipe.items (a ∷ others)) file e in
    let same = first_same a others parts.0 given has in
    let below : wrong.i < 0 + length a.recipe.items = let w = wrong.within in omega (arith, same.count) in
    let right = batches_right shape a.recipe.items (a ∷ others) (batch_count (length a.recipe.items)) 0 (length a.recipe.items) file parts.1 (omega arith) given has wrong.i (omega arith) below in
    wrong.differ (right ∙ ap (λ (n : ℕ). share_len_of shape.k n) (same.lens wrong.i))

given_from : (shape : Shape) (lists : ℕ → List Command) (user : UserId) (key : Tag × Version) (clouds : List ℕ) (given : Given) (c : ℕ)
    → Contains (map (given_by shape lists user key) clouds) given → given.cloud ≡ c → given ≡ given_by shape lists user key c
given_from shape lists user key clouds given c has is =
    let m = mapped_from (given_by shape lists user key) clouds given has in
    let same : m.x ≡ c = ap (λ (g : Given). g.cloud) m.is ∙ is in
    sym m.is ∙ ap (given_by shape lists user key) same

-- the cloud that a wrong length names has a wrong string
pub length_is_wrong : (shape : Shape) (lists : ℕ → List Command) (user : UserId) (key : Tag × Version) (clouds : List ℕ) (c secret found wanted : ℕ)
    → restored_file shape lists user key clouds ≡ refuses (Restored.ShareLength c secret found wanted) → IsWrong shape (given_by shape lists user key c)
unfolding restored_file
length_is_wrong shape lists user key clouds c secret found wanted e =
    elim (by_length (missing shape lists user key clouds) (agreed shape (map (given_by shape lists user key) clouds)) (Restored.ShareLength c secret found wanted) e) [
      | inl none ↦ absurd (not_missing (find (Lacks shape lists user key) clouds) none)
      | inr opened ↦
          let w = agreed_wrong shape (map (given_by shape lists user key) clouds) (Restored.ShareLength c secret found wanted) c opened.1 refl in
          subst (IsWrong shape) (given_from shape lists user key clouds w.given c w.has w.cloud_is) w.wrong
    ]
  where
    not_missing : (o : Option ℕ) → option_map Restored.Missing o ≡ Some (Restored.ShareLength c secret found wanted) → ⊥
    not_missing None e = none_some _ e
    not_missing (Some x) e = subst (λ (w : Unrestored). IsWrongLength w c) (sym (some_is (Restored.Missing x) (Restored.ShareLength c secret found wanted) e)) refl

file_right : (shape : Shape) (lists : ℕ → List Command) (user : UserId) (key : Tag × Version) (clouds : List ℕ) (c : ℕ) (file : List ℕ)
    → Contains clouds c → IsWrong shape (given_by shape lists user key c) → restored_file shape lists user key clouds ≡ gives file → ⊥
unfolding restored_file
file_right shape lists user key clouds c file has wrong e =
    let parts = unless_ok (missing shape lists user key clouds) (agreed shape (map (given_by shape lists user key) clouds)) file e in
    agreed_right shape (map (given_by shape lists user key) clouds) file parts.1 (given_by shape lists user key c) (contains_mapped (given_by shape lists user key) clouds c has) wrong

-- from choices with it comes nothing
pub wrong_refuses : (shape : Shape) (lists : ℕ → List Command) (user : UserId) (key : Tag × Version) (clouds : List ℕ) (c : ℕ)
    → Contains clouds c → IsWrong shape (given_by shape lists user key c) → (why : Unrestored) × (restored_file shape lists user key clouds ≡ Err why)
wrong_refuses shape lists user key clouds c has wrong = go (restored_file shape lists user key clouds) refl
  where
    go : (o : Result (List ℕ) Unrestored) → restored_file shape lists user key clouds ≡ o → (why : Unrestored) × (o ≡ Err why)
    go (Ok file) e = absurd (file_right shape lists user key clouds c file has wrong e)
    go (Err why) e = (why, refl)
