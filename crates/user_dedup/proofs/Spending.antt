-- What users have spent; and whether a user's room is full follows from the user's own commands, where no two strings share a SHA-256.
use Rattle.std.proofs.Common.{◌≡◌, ℕ, ◌-◌, Bool, true, false, cond, List, [], ◌∷◌, ◌++◌, length, None, refl, sym, ap, subst, ◌∙◌, arith, append_assoc, append-nil}
use Rattle.std.specs.Prelude.{find, fold, unwrap_or}
use Rattle.std.specs.List.{Contains, flat_map, sum_by}
use Rattle.std.specs.Option.{option_or}
use Rattle.std.proofs.lemmas.List.Sums.{sum_by-cons}
use Rattle.std.proofs.lemmas.List.Elements.{filter-append, Contains-append_left}
use Rattle.std.proofs.lemmas.Grind.{flat_map-append}
use Rattle.journal_start.specs.CdBase.ids.Tag.{Tag}
use Rattle.journal_start.specs.CdBase.ids.UserId.{UserId}
use Rattle.journal_start.specs.CdBase.ids.Version.{Version}
use Rattle.journal_start.specs.CdBase.rooms.Room.TheVariants as names
use Rattle.journal_start.specs.CdBase.shape.Shape.{Shape}
use Rattle.journal_start.specs.declared.rooms.UserRooms.{UserRooms}
use Rattle.user_dedup.specs.Cloud.{fingerprint, has_fingerprint, no_view}
use Rattle.user_dedup.specs.declared.view.View.{View}
use Rattle.user_dedup.proofs.Owned.{contains_here, contains_later}
use Rattle.user_dedup.specs.declared.command.Command.{Command}
use Rattle.user_dedup.specs.declared.command.Command.TheVariants as commands
use Rattle.user_dedup.specs.Cloud.{user_of, is_of, commands_of, strings_of, strings_in, recipes_of, held_bytes, view_after, deletion}
use Rattle.user_dedup.specs.Spending.{SpentByUser, nothing, refusal, held_len, spent_in, spent_of, limits_of, files_of, files_limit, full_for, HoldsItself, UsesWithin, IsWithin}
use Rattle.user_dedup.proofs.Views.{strings_among, sent_is_held, held_more}

-- ---- strings that are held as they were sent

abbrev own_bytes : List Command → ℕ
own_bytes some = sum_by (λ (s : List ℕ). length s) (strings_in some)

pub sums_alike : (f g : List ℕ → ℕ) (xs : List (List ℕ)) → ((x : List ℕ) → Contains xs x → f x ≡ g x) → sum_by f xs ≡ sum_by g xs
sums_alike f g [] same = refl
sums_alike f g (x ∷ xs) same =
    omega (arith, sum_by-cons f x xs, sum_by-cons g x xs, same x (contains_here x xs), sums_alike f g xs (λ y c. same y (contains_later x xs y c)))

-- what a user has spent on shares is the length of its strings
spent_shares : (list : List Command) (user : UserId) → HoldsItself list → (spent_of list user).shares ≡ own_bytes (commands_of user list)
spent_shares list user holds =
    sums_alike (held_len list) (λ (s : List ℕ). length s) (strings_in (commands_of user list))
    (λ s c. ap (λ (l : List ℕ). length l) (holds s (strings_among (is_of user) list s c)))

-- a front of such a list is one too: what it holds is held still
holds_before : (list more : List Command) → HoldsItself (list ++ more) → HoldsItself list
holds_before list more holds s c =
    let h = sent_is_held list (fingerprint s) (s, c, refl) in
    let here : held_bytes list (fingerprint s) ≡ h.0 = ap (λ o. unwrap_or o []) h.1 in
    let there : held_bytes (list ++ more) (fingerprint s) ≡ h.0 = ap (λ o. unwrap_or o []) (held_more list more (fingerprint s) h.0 h.1) in
    here ∙ sym there
    ∙ holds s (subst (λ (l : List (List ℕ)). Contains l s) (sym (flat_map-append strings_of list more)) (Contains-append_left (strings_in list) (strings_in more) s c))

-- ---- full rooms

pub commands_more : (user : UserId) (list more : List Command) → commands_of user (list ++ more) ≡ commands_of user list ++ commands_of user more
commands_more user list more = filter-append (is_of user) list more

-- In two lists in which a user has the same commands, the same command of the user finds the same room full.
pub full_alone : (shape : Shape) (rooms : UserRooms) (one two : List Command) (command : Command)
    → commands_of (user_of command) one ≡ commands_of (user_of command) two
    → HoldsItself (one ++ command ∷ []) → HoldsItself (two ++ command ∷ [])
    → full_for shape rooms one command ≡ full_for shape rooms two command
unfolding full_for
full_alone shape rooms one two (commands.Put user shares) same g1 g2 =
    let put = commands.Put user shares in
    let h1 = holds_before one (put ∷ []) g1 in
    let h2 = holds_before two (put ∷ []) g2 in
    let used : (spent_of one user).shares ≡ (spent_of two user).shares = spent_shares one user h1 ∙ ap own_bytes same ∙ sym (spent_shares two user h2) in
    let grown : (spent_of (one ++ put ∷ []) user).shares ≡ (spent_of (two ++ put ∷ []) user).shares =
    spent_shares (one ++ put ∷ []) user g1 ∙ ap own_bytes (commands_more user one (put ∷ []) ∙ ap (λ (l : List Command). l ++ commands_of user (put ∷ [])) same ∙ sym (commands_more user two (put ∷ [])))
    ∙ sym (spent_shares (two ++ put ∷ []) user g2) in
    let owners : (spent_of one user).owners ≡ (spent_of two user).owners = ap (λ (l : List Command). length (strings_in l)) same in
    λ i. option_or (refusal names.Owners (owners i) (length shares) (limits_of rooms user).owners)
    (refusal names.Shares (used i) (grown i - used i) (limits_of rooms user).shares)
full_alone shape rooms one two (commands.Commit user tag version recipe) same g1 g2 =
    let files : files_of shape one user ≡ files_of shape two user = ap (λ (l : List Command). length (seen l).files) same in
    let recipes : (spent_of one user).recipes ≡ (spent_of two user).recipes = ap (λ (l : List Command). (spent_in one l).recipes) same in
    λ i. option_or (refusal names.Files (files i) 1 (files_limit rooms user)) (refusal names.Recipes (recipes i) (length recipe) (limits_of rooms user).recipes)
  where
    seen : List Command → View
    seen l = fold (view_after shape) no_view l
full_alone shape rooms one two (commands.Delete user tag version) same g1 g2 = refl

pub never_full : (shape : Shape) (rooms : UserRooms) (list : List Command) (user : UserId) (key : Tag × Version) → full_for shape rooms list (deletion user key) ≡ None
unfolding full_for
never_full shape rooms list user key = refl

-- ---- deletions spend nothing

pub nothing_spent : (user : UserId) → spent_of [] user ≡ nothing
nothing_spent user = refl

-- what a command without strings and recipes adds to some numbers: nothing
strings_same : (list : List Command) (user : UserId) (key : Tag × Version) → strings_in (list ++ deletion user key ∷ []) ≡ strings_in list
strings_same list user key = flat_map-append strings_of list (deletion user key ∷ []) ∙ append-nil (strings_in list)

own_strings_same : (list : List Command) (user other : UserId) (key : Tag × Version) → strings_in (commands_of other (list ++ deletion user key ∷ [])) ≡ strings_in (commands_of other list)
own_strings_same list user other key =
    ap strings_in (commands_more other list (deletion user key ∷ []))
    ∙ flat_map-append strings_of (commands_of other list) (commands_of other (deletion user key ∷ []))
    ∙ by_test (is_of other (deletion user key))
  where
    by_test : (b : Bool) → strings_in (commands_of other list) ++ strings_in (cond b (deletion user key ∷ []) []) ≡ strings_in (commands_of other list)
    by_test true = append-nil (strings_in (commands_of other list))
    by_test false = append-nil (strings_in (commands_of other list))

own_recipes_same : (list : List Command) (user other : UserId) (key : Tag × Version) → flat_map recipes_of (commands_of other (list ++ deletion user key ∷ [])) ≡ flat_map recipes_of (commands_of other list)
own_recipes_same list user other key =
    ap (flat_map recipes_of) (commands_more other list (deletion user key ∷ []))
    ∙ flat_map-append recipes_of (commands_of other list) (commands_of other (deletion user key ∷ []))
    ∙ by_test (is_of other (deletion user key))
  where
    by_test : (b : Bool) → flat_map recipes_of (commands_of other list) ++ flat_map recipes_of (cond b (deletion user key ∷ []) []) ≡ flat_map recipes_of (commands_of other list)
    by_test true = append-nil (flat_map recipes_of (commands_of other list))
    by_test false = append-nil (flat_map recipes_of (commands_of other list))

-- the numbers, by all strings, and by a user's own strings and recipes
abbrev numbers_of : List (List ℕ) → List (List ℕ) → List (List ℕ) → SpentByUser
numbers_of all strings recipes = record {
  owners = length strings;
  shares = sum_by (λ (s : List ℕ). length (unwrap_or (find (has_fingerprint (fingerprint s)) all) [])) strings;
  recipes = sum_by (λ (recipe : List ℕ). length recipe) recipes;
}

pub deletes_nothing_spent : (list : List Command) (user other : UserId) (key : Tag × Version) → spent_of (list ++ deletion user key ∷ []) other ≡ spent_of list other
deletes_nothing_spent list user other key =
    let all = strings_same list user key in
    let strings = own_strings_same list user other key in
    let recipes = own_recipes_same list user other key in
    λ i. numbers_of (all i) (strings i) (recipes i)

-- ---- within rooms

no_front : (before after : List Command) → [] ≡ before ++ after → before ≡ []
no_front [] after e = refl
no_front (c ∷ before) after e = absurd (let no : [] ≡ c ∷ (before ++ after) = e in cc)

uses_none : (shape : Shape) (rooms : UserRooms) (user : UserId) → UsesWithin shape rooms [] user
uses_none shape rooms user = record { owners = omega arith; shares = omega arith; recipes = omega arith; files = omega arith }

pub none_within : (shape : Shape) (rooms : UserRooms) → IsWithin shape rooms []
none_within shape rooms before after is user = subst (λ (l : List Command). UsesWithin shape rooms l user) (sym (no_front before after is)) (uses_none shape rooms user)

pub front_within : (shape : Shape) (rooms : UserRooms) (list more : List Command) → IsWithin shape rooms (list ++ more) → IsWithin shape rooms list
front_within shape rooms list more within before after is user =
    within before (after ++ more) (ap (λ (l : List Command). l ++ more) is ∙ append_assoc before after more) user

pub each_within : (shape : Shape) (rooms : UserRooms) (list : List Command) (user : UserId) → IsWithin shape rooms list → UsesWithin shape rooms list user
each_within shape rooms list user within = within list [] (sym (append-nil list)) user
