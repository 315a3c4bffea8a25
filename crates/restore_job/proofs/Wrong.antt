-- Strings of another length, by a cloud's own recipe.
use Rattle.std.proofs.Common.{◌≡◌, ℕ, zero, suc, ◌+◌, ◌<◌, ◌≤◌, Bool, true, false, not, cond, List, [], ◌∷◌, length, Option, Some, None, Result, Ok, Err, refl, sym, ap, ◌∙◌, subst, arith, inl, inr}
use Rattle.std.specs.Prelude.{IsTrue, ◌&&◌, ◌==◌, unwrap_or}
use Rattle.std.proofs.lemmas.Bool.{cases_eq, eq-eqb, ne_eqb}
use Rattle.user_dedup.specs.CdBase.Lengths.{share_len_of}
use Rattle.user_dedup.specs.CdBase.ids.Tag.{Tag}
use Rattle.user_dedup.specs.CdBase.ids.UserId.{UserId}
use Rattle.user_dedup.specs.CdBase.ids.Version.{Version}
use Rattle.user_dedup.specs.CdBase.shape.Shape.{Shape}
use Rattle.user_dedup.specs.Recipe.items.Item.{Item}
use Rattle.user_dedup.specs.Recipe.recipe.Recipe.{Recipe}
use Rattle.user_dedup.specs.declared.command.Command.{Command}
use Rattle.user_dedup.specs.Cloud.{held_string}
use Rattle.user_dedup.specs.Exec.{Peer}
use Rattle.user_dedup.specs.Link.{LinkTelling}
use Rattle.restore_job.specs.Asking.{MayRead, among}
use Rattle.restore_job.specs.Refusals.{Caused, Causes, CausesAmong, IsWrongAt, Shown, ShownAmong, Shows}
use Rattle.restore_job.specs.Restored
use Rattle.restore_job.specs.Restored.{Unrestored, Given, difference, items_difference, item_of, no_recipe, or_else, recipe_in, given_by, string_at, wrong_string, wrong_strings}
use Rattle.restore_job.specs.Steps.{ReadyAt, SameLens, given_of}
use Rattle.restore_job.specs.declared.error.RestoreErr.{RestoreErr}
use Rattle.restore_job.specs.declared.error.RestoreErr.TheVariants as errors
use Rattle.restore_job.proofs.Leading.{settled_same}

-- the refusal of a string's length
abbrev short : ℕ → ℕ → ℕ → ℕ → Option Unrestored
short cloud secret found wanted = Some (Restored.ShareLength cloud secret found wanted)

-- the place among so many strings at which one is wrong
record WrongPlace (shape : Shape) (items : List Item) (given : Given) (place n secret : ℕ) (why : Option Unrestored) : Type 0 where
  pub above : place ≤ secret
  pub below : secret < place + n
  pub is : wrong_string shape items given secret ≡ why

one_place : (b : Bool) (cloud place f w c secret found wanted : ℕ) → cond b None (short cloud place f w) ≡ short c secret found wanted → place ≡ secret
one_place true cloud place f w c secret found wanted e = absurd (let g : None ≡ short c secret found wanted = e in cc)
one_place false cloud place f w c secret found wanted e = (let g : short cloud place f w ≡ short c secret found wanted = e in cc)

wrong_at : (shape : Shape) (items : List Item) (given : Given) (place n c secret found wanted : ℕ) → wrong_strings shape items given place n ≡ short c secret found wanted
    → WrongPlace shape items given place n secret (short c secret found wanted)
wrong_at shape items given place zero c secret found wanted e = absurd (let f : None ≡ short c secret found wanted = e in cc)
wrong_at shape items given place (suc n) c secret found wanted e = go (λ f. wrong_at shape items given (place + 1) n c secret found wanted f) (wrong_string shape items given place) refl e
  where
    go : (wrong_strings shape items given (place + 1) n ≡ short c secret found wanted → WrongPlace shape items given (place + 1) n secret (short c secret found wanted))
        → (o : Option Unrestored) → wrong_string shape items given place ≡ o → or_else o (wrong_strings shape items given (place + 1) n) ≡ short c secret found wanted
        → WrongPlace shape items given place (suc n) secret (short c secret found wanted)
    go more None is e = let w = more e in
        record { above = let a = w.above in omega arith; below = let b = w.below in omega arith; is = w.is }
    go more (Some why) is e =
        let here : wrong_string shape items given place ≡ short c secret found wanted = is ∙ e in
        let same : place ≡ secret = one_place (length (string_at given place) == share_len_of shape.k (item_of items place).secret_len) given.cloud place (length (string_at given place)) (share_len_of shape.k (item_of items place).secret_len) c secret found wanted here in
        record {
          above = omega (arith, same);
          below = omega (arith, same);
          is = subst (λ (i : ℕ). wrong_string shape items given i ≡ short c secret found wanted) same here;
        }

-- by the lengths in other items
by_lens : (shape : Shape) (one other : List Item) (given : Given) (i : ℕ) → SameLens one other → wrong_string shape one given i ≡ wrong_string shape other given i
by_lens shape one other given i same =
    ap (λ (len : ℕ). cond (length (string_at given i) == share_len_of shape.k len) None (short given.cloud i (length (string_at given i)) (share_len_of shape.k len))) (same i)

-- A told cloud that stood ready has this recipe still, and by it the string is wrong.
pub wrong_own : (shape : Shape) (user : UserId) (key : Tag × Version) (cloud : ℕ) (firsts : List Item) (recipe : Recipe) (place n secret found wanted : ℕ) (p : Peer) (peers : ℕ → Peer)
    → ReadyAt shape user key recipe p → MayRead p (peers cloud) → SameLens firsts recipe.items → place + n ≤ length recipe.items
    → wrong_strings shape firsts (given_of p cloud recipe) place n ≡ Some (Restored.ShareLength cloud secret found wanted) → IsWrongAt shape user key cloud secret found wanted peers
wrong_own shape user key cloud firsts recipe place n secret found wanted p peers ready may alike fits e =
    let w = wrong_at shape firsts (given_of p cloud recipe) place n cloud secret found wanted e in
    let same = settled_same p (peers cloud) ready.settled may in
    let list_is : p.list ≡ (peers cloud).list = sym same.list in
    let recipe_is : Some recipe ≡ recipe_in shape (peers cloud).list user key = sym (ap (λ (l : List Command). recipe_in shape l user key) same.list ∙ ready.recipe_is) in
    let given_is : given_of p cloud recipe ≡ given_by shape (λ c. (peers c).list) user key cloud =
    (λ i. record { cloud = cloud; recipe = unwrap_or (recipe_is i) no_recipe; held = λ fp. unwrap_or (held_string (list_is i) fp) [] }) in
    let within : secret < length recipe.items = let b = w.below in omega (arith, fits) in
    subst (λ (g : Given). (secret < length g.recipe.items) × (wrong_string shape g.recipe.items g secret ≡ short cloud secret found wanted)) given_is
    (within, sym (by_lens shape firsts recipe.items (given_of p cloud recipe) secret alike) ∙ w.is)

-- ---- recipes that agree

-- as many items, whose secrets have the same lengths
pub record SameItems (one other : List Item) : Type 0 where
  pub count : length other ≡ length one
  pub lens : (i : ℕ) → (item_of one i).secret_len ≡ (item_of other i).secret_len

items_same : (place : ℕ) (one other : List Item) → items_difference place one other ≡ None → length one ≡ length other → (i : ℕ) → (item_of one i).secret_len ≡ (item_of other i).secret_len
items_same place [] [] e count i = refl
items_same place [] (b ∷ other) e count i = absurd (omega (arith, count))
items_same place (a ∷ one) [] e count i = absurd (omega (arith, count))
items_same place (a ∷ one) (b ∷ other) e count i = elim (cases_eq a.secret_len b.secret_len) [
  | inl same ↦ go same (λ f j. items_same (place + 1) one other f (omega (arith, count)) j) (ap (λ (x : Bool). cond x (items_difference (place + 1) one other) (Some place)) (sym (eq-eqb a.secret_len b.secret_len same)) ∙ e) i
  | inr differ ↦ absurd (some_num_none place (sym (ap (λ (x : Bool). cond x (items_difference (place + 1) one other) (Some place)) (ne_eqb a.secret_len b.secret_len differ)) ∙ e))
]
  where
    some_num_none : (n : ℕ) → Some n ≡ None → ⊥
    some_num_none n e = cc

    go : a.secret_len ≡ b.secret_len → (items_difference (place + 1) one other ≡ None → (j : ℕ) → (item_of one j).secret_len ≡ (item_of other j).secret_len)
        → items_difference (place + 1) one other ≡ None → (i : ℕ) → (item_of (a ∷ one) i).secret_len ≡ (item_of (b ∷ other) i).secret_len
    go same more e zero = same
    go same more e (suc i) = more e i

pub recipes_same : (a b : Recipe) → difference a b ≡ None → SameItems a.items b.items
recipes_same a b e = by_name (a.name_len == b.name_len) refl e
  where
    some_none_at : (n : ℕ) → Some n ≡ None → ⊥
    some_none_at n e = cc

    by_items : (x : Bool) → (length a.items == length b.items) ≡ x → cond (not x) (Some 2) (items_difference 3 a.items b.items) ≡ None → SameItems a.items b.items
    by_items false t e = absurd (some_none_at 2 e)
    by_items true t e = elim (cases_eq (length a.items) (length b.items)) [
      | inl same ↦ record { count = sym same; lens = items_same 3 a.items b.items e same }
      | inr differ ↦ absurd (let f = sym (ne_eqb (length a.items) (length b.items) differ) ∙ t in cc)
    ]

    by_file : (x : Bool) → (a.file_len == b.file_len) ≡ x → cond (not x) (Some 1) (cond (not (length a.items == length b.items)) (Some 2) (items_difference 3 a.items b.items)) ≡ None → SameItems a.items b.items
    by_file false t e = absurd (some_none_at 1 e)
    by_file true t e = by_items (length a.items == length b.items) refl e

    by_name : (x : Bool) → (a.name_len == b.name_len) ≡ x
        → cond (not x) (Some 0) (cond (not (a.file_len == b.file_len)) (Some 1) (cond (not (length a.items == length b.items)) (Some 2) (items_difference 3 a.items b.items))) ≡ None → SameItems a.items b.items
    by_name false t e = absurd (some_none_at 0 e)
    by_name true t e = by_file (a.file_len == b.file_len) refl e

-- ---- what is shown, and what is said of it

pub shown_caused : {L : Type 0} (t : LinkTelling L) (link : L) (shape : Shape) (user : UserId) (key : Tag × Version) (e : RestoreErr) (a b : ℕ → Peer) → Shown t link shape user key e a b → Caused t link shape user key e a b
shown_caused t link shape user key (errors.Missing c) a b k = k
shown_caused t link shape user key (errors.Lost c) a b k = tt
shown_caused t link shape user key (errors.CloudFault c) a b k = k
shown_caused t link shape user key (errors.CloudDamaged c at byte) a b k = k
shown_caused t link shape user key (errors.CloudRotten c hash found) a b k = k
shown_caused t link shape user key (errors.CloudNoMemory c) a b k = k
shown_caused t link shape user key (errors.Strange c kind) a b k = k
shown_caused t link shape user key (errors.RecipesDiffer x y at) a b k = tt
shown_caused t link shape user key (errors.ShareLength c secret found wanted) a b k = tt
shown_caused t link shape user key (errors.BadShare c secret hash found) a b k = k
shown_caused t link shape user key (errors.BadSecret secret hash found) a b k = tt
shown_caused t link shape user key (errors.BadPad secret at byte) a b k = tt
shown_caused t link shape user key errors.NoMemory a b k = tt

pub shows_caused : {L : Type 0} (t : LinkTelling L) (link : L) (shape : Shape) (user : UserId) (key : Tag × Version) (res : Result (Unit {0}) RestoreErr) (a b : ℕ → Peer) → Shows t link shape user key res a b → Causes t link shape user key res a b
shows_caused t link shape user key (Ok u) a b k = tt
shows_caused t link shape user key (Err e) a b k = shown_caused t link shape user key e a b k

pub both_true : (a b : Bool) → IsTrue a → IsTrue b → IsTrue (a && b)
both_true true b one two = two
both_true false b one two = absurd (let f : false ≡ true = one in cc)

other_false : (a b : Bool) → IsTrue a → (a && b) ≡ false → b ≡ false
other_false true b one e = e
other_false false b one e = absurd (let f : false ≡ true = one in cc)

-- of some clouds alone, it says the same of these
pub shown_among : {L : Type 0} (t : LinkTelling L) (these : ℕ → Bool) (link : L) (shape : Shape) (user : UserId) (key : Tag × Version) (e : RestoreErr) (a b : ℕ → Peer)
    → Shown (among these t) link shape user key e a b → ShownAmong t link shape user key these e a b
shown_among t these link shape user key (errors.Missing c) a b k one = λ told. k (both_true (these c.0) (t.told link c.0) one told)
shown_among t these link shape user key (errors.Lost c) a b k one = tt
shown_among t these link shape user key (errors.CloudFault c) a b k one = k
shown_among t these link shape user key (errors.CloudDamaged c at byte) a b k one = other_false (these c.0) (t.told link c.0) one k
shown_among t these link shape user key (errors.CloudRotten c hash found) a b k one = other_false (these c.0) (t.told link c.0) one k
shown_among t these link shape user key (errors.CloudNoMemory c) a b k one = other_false (these c.0) (t.told link c.0) one k
shown_among t these link shape user key (errors.Strange c kind) a b k one = other_false (these c.0) (t.told link c.0) one k
shown_among t these link shape user key (errors.RecipesDiffer x y at) a b k one = tt
shown_among t these link shape user key (errors.ShareLength c secret found wanted) a b k one = λ told. k (both_true (these c.0) (t.told link c.0) one told)
shown_among t these link shape user key (errors.BadShare c secret hash found) a b k one = other_false (these c.0) (t.told link c.0) one k
shown_among t these link shape user key (errors.BadSecret secret hash found) a b k one = tt
shown_among t these link shape user key (errors.BadPad secret at byte) a b k one = tt
shown_among t these link shape user key errors.NoMemory a b k one = tt

pub causes_among : {L : Type 0} (t : LinkTelling L) (these : ℕ → Bool) (link : L) (shape : Shape) (user : UserId) (key : Tag × Version) (res : Result (Unit {0}) RestoreErr) (a b : ℕ → Peer)
    → Shows (among these t) link shape user key res a b → CausesAmong t link shape user key res these a b
causes_among t these link shape user key (Ok u) a b k = tt
causes_among t these link shape user key (Err e) a b k = shown_among t these link shape user key e a b k
