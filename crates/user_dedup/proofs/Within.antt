-- A list within its rooms, with one command more for which no room is full.
use Rattle.std.proofs.Common.{◌≡◌, ◌≢◌, ℕ, suc, ◌+◌, ◌-◌, ◌<◌, ◌≤◌, Bool, true, false, cond, List, [], ◌∷◌, ◌++◌, length, Option, Some, None, refl, sym, ap, subst, ◌∙◌, arith, inl, inr, ◌⊎◌, eq-eqb, append-nil, length-append}
use Rattle.std.specs.Prelude.{nat_lt, not, filter, unwrap_or}
use Rattle.std.specs.List.{Contains, flat_map, sum_by}
use Rattle.std.specs.Option.{option_or}
use Rattle.std.proofs.lemmas.Bool.{cases_eq, cases_lt, ne_eqb}
use Rattle.std.proofs.lemmas.Bool.Decides.{Decides-ltb}
use Rattle.std.proofs.lemmas.List.Sums.{sum_by-append}
use Rattle.std.proofs.lemmas.Grind.{flat_map-append}
use Rattle.journal_start.specs.CdBase.ids.Tag.{Tag}
use Rattle.journal_start.specs.CdBase.ids.UserId.{UserId}
use Rattle.journal_start.specs.CdBase.ids.Version.{Version}
use Rattle.journal_start.specs.CdBase.rooms.Room.{Room}
use Rattle.journal_start.specs.CdBase.rooms.Room.TheVariants as names
use Rattle.journal_start.specs.CdBase.shape.Shape.{Shape}
use Rattle.journal_start.specs.declared.rooms.UserRooms.{UserRooms}
use Rattle.user_dedup.specs.declared.file_list.FileEntry.{FileEntry}
use Rattle.user_dedup.specs.declared.view.View.{View}
use Rattle.user_dedup.specs.Cloud.{fingerprint}
use Rattle.user_dedup.specs.Dedup.{FullRoom}
use Rattle.user_dedup.specs.Pages.{is_at}
use Rattle.user_dedup.specs.declared.command.Command.{Command}
use Rattle.user_dedup.specs.declared.command.Command.TheVariants as commands
use Rattle.user_dedup.specs.Cloud.{user_of, is_of, commands_of, strings_of, strings_in, recipes_of, held_bytes, user_view}
use Rattle.user_dedup.specs.Spending.{SpentByUser, refusal, held_len, spent_of, limits_of, files_of, files_limit, full_for, UsesWithin, IsWithin}
use Rattle.user_dedup.proofs.Views.{own_adds, others_stay, strings_among, sent_is_held, held_more}
use Rattle.user_dedup.proofs.Spending.{sums_alike, commands_more, deletes_nothing_spent}

-- ---- refusals

abbrev full_of : Room → ℕ → ℕ → ℕ → FullRoom
full_of room used need limit = record { room = room; used = used; need = need; limit = limit }

not_above : (limit n : ℕ) → (limit < n → ⊥) → n ≤ limit
not_above limit n f = elim (cases_lt limit n) [ inl lt ↦ absurd (f lt) | inr le ↦ le ]

-- what isn't refused is within the limit
room_left : (room : Room) (used need limit : ℕ) → refusal room used need limit ≡ None → used + need ≤ limit
room_left room used need limit = by_test (nat_lt limit (used + need)) (Decides-ltb limit (used + need)).1
  where
    by_test : (b : Bool) → (limit < used + need → b ≡ true) → cond b (Some (full_of room used need limit)) None ≡ None → used + need ≤ limit
    by_test true back e = absurd (let never : Some (full_of room used need limit) ≡ None = e in cc)
    by_test false back e = not_above limit (used + need) (λ lt. let t = back lt in cc)

pub neither : (one two : Option FullRoom) → option_or one two ≡ None → (one ≡ None) × (two ≡ None)
neither None two e = (refl, e)
neither (Some room) two e = absurd (let never : Some room ≡ None = e in cc)

-- ---- what stays

-- a string that is held already counts as before
len_stays : (list more : List Command) (s : List ℕ) → Contains (strings_in list) s → held_len (list ++ more) s ≡ held_len list s
len_stays list more s c =
    let h = sent_is_held list (fingerprint s) (s, c, refl) in
    let here : held_bytes list (fingerprint s) ≡ h.0 = ap (λ o. unwrap_or o []) h.1 in
    let there : held_bytes (list ++ more) (fingerprint s) ≡ h.0 = ap (λ o. unwrap_or o []) (held_more list more (fingerprint s) h.0 h.1) in
    ap (λ (l : List ℕ). length l) (there ∙ sym here)

abbrev bytes_in : List Command → List (List ℕ) → ℕ
bytes_in list strings = sum_by (held_len list) strings

bytes_stay : (list more : List Command) (user : UserId) → bytes_in (list ++ more) (strings_in (commands_of user list)) ≡ bytes_in list (strings_in (commands_of user list))
bytes_stay list more user =
    sums_alike (held_len (list ++ more)) (held_len list) (strings_in (commands_of user list))
    (λ s c. len_stays list more s (strings_among (is_of user) list s c))

abbrev recipe_bytes : List Command → ℕ
recipe_bytes some = sum_by (λ (recipe : List ℕ). length recipe) (flat_map recipes_of some)

-- where the user's strings stay, what is spent on them does
shares_stay : (list more : List Command) (user : UserId) → strings_in (commands_of user (list ++ more)) ≡ strings_in (commands_of user list)
    → (spent_of (list ++ more) user).shares ≡ (spent_of list user).shares
shares_stay list more user same = ap (bytes_in (list ++ more)) same ∙ bytes_stay list more user

at_most : (a b limit : ℕ) → a ≡ b → b ≤ limit → a ≤ limit
at_most a b limit e le = omega (arith, e, le)

no_more : (a b c : ℕ) → a ≡ b + (0 + c) → a ≡ b + c
no_more a b c e = omega (arith, e)

grown : (a b limit : ℕ) → a + (b - a) ≤ limit → b ≤ limit
grown a b limit le = omega (arith, le)

-- ---- another user's command

uses_other : (shape : Shape) (rooms : UserRooms) (list : List Command) (command : Command) (user : UserId) → (user_of command).0 ≢ user.0
    → UsesWithin shape rooms list user → UsesWithin shape rooms (list ++ command ∷ []) user
uses_other shape rooms list command user other u =
    let same : commands_of user (list ++ command ∷ []) ≡ commands_of user list =
    commands_more user list (command ∷ [])
    ∙ ap (λ (b : Bool). commands_of user list ++ cond b (command ∷ []) []) (ne_eqb (user_of command).0 user.0 other)
    ∙ append-nil (commands_of user list) in
    record {
      owners = at_most _ _ _ (ap (λ (l : List Command). length (strings_in l)) same) u.owners;
      shares = at_most _ _ _ (shares_stay list (command ∷ []) user (ap strings_in same)) u.shares;
      recipes = at_most _ _ _ (ap recipe_bytes same) u.recipes;
      files = at_most _ _ _ (ap (λ (v : View). length v.files) (others_stay shape list command user other)) u.files;
    }

-- ---- the user's own

abbrev Fits : Shape → UserRooms → List Command → Command → Type 0
Fits shape rooms list command = UsesWithin shape rooms (list ++ command ∷ []) (user_of command)

own_more : (list : List Command) (command : Command) → commands_of (user_of command) (list ++ command ∷ []) ≡ commands_of (user_of command) list ++ command ∷ []
own_more list command =
    commands_more (user_of command) list (command ∷ [])
    ∙ ap (λ (b : Bool). commands_of (user_of command) list ++ cond b (command ∷ []) []) (eq-eqb (user_of command).0 (user_of command).0 refl)

strings_more : (list : List Command) (command : Command)
    → strings_in (commands_of (user_of command) (list ++ command ∷ [])) ≡ strings_in (commands_of (user_of command) list) ++ (strings_of command ++ [])
strings_more list command = ap strings_in (own_more list command) ∙ flat_map-append strings_of (commands_of (user_of command) list) (command ∷ [])

recipes_more : (list : List Command) (command : Command)
    → flat_map recipes_of (commands_of (user_of command) (list ++ command ∷ [])) ≡ flat_map recipes_of (commands_of (user_of command) list) ++ (recipes_of command ++ [])
recipes_more list command = ap (flat_map recipes_of) (own_more list command) ∙ flat_map-append recipes_of (commands_of (user_of command) list) (command ∷ [])

put_fits : (shape : Shape) (rooms : UserRooms) (list : List Command) (user : UserId) (shares : List (List ℕ))
    → UsesWithin shape rooms list user → full_for shape rooms list (commands.Put user shares) ≡ None → Fits shape rooms list (commands.Put user shares)
unfolding full_for
put_fits shape rooms list user shares u free =
    let put = commands.Put user shares in
    let strings = strings_in (commands_of user list) in
    let used = spent_of list user in
    let then = spent_of (list ++ put ∷ []) user in
    let limits = limits_of rooms user in
    let both = neither (refusal names.Owners used.owners (length shares) limits.owners) (refusal names.Shares used.shares (then.shares - used.shares) limits.shares) free in
    let owners = ap (λ (l : List (List ℕ)). length l) (strings_more list put) ∙ length-append strings (shares ++ []) ∙ ap (λ (l : List (List ℕ)). length strings + length l) (append-nil shares) in
    let recipes = recipes_more list put ∙ append-nil (flat_map recipes_of (commands_of user list)) in
    record {
      owners = at_most _ _ _ owners (room_left names.Owners used.owners (length shares) limits.owners both.0);
      shares = grown used.shares then.shares limits.shares (room_left names.Shares used.shares (then.shares - used.shares) limits.shares both.1);
      recipes = at_most _ _ _ (ap (sum_by (λ (recipe : List ℕ). length recipe)) recipes) u.recipes;
      files = at_most _ _ _ (ap (λ (v : View). length v.files) (own_adds shape list put user refl)) u.files;
    }

commit_fits : (shape : Shape) (rooms : UserRooms) (list : List Command) (user : UserId) (tag : Tag) (version : Version) (recipe : List ℕ)
    → UsesWithin shape rooms list user → full_for shape rooms list (commands.Commit user tag version recipe) ≡ None
    → Fits shape rooms list (commands.Commit user tag version recipe)
unfolding full_for
commit_fits shape rooms list user tag version recipe u free =
    let commit = commands.Commit user tag version recipe in
    let entry : FileEntry = record { tag = tag; version = version; recipe = recipe } in
    let limits = limits_of rooms user in
    let used = (spent_of list user).recipes in
    let files = files_of shape list user in
    let both = neither (refusal names.Files files 1 (files_limit rooms user)) (refusal names.Recipes used (length recipe) limits.recipes) free in
    let strings = strings_more list commit ∙ append-nil (strings_in (commands_of user list)) in
    let spent =
    no_more (spent_of (list ++ commit ∷ []) user).recipes used (length recipe)
    (ap (sum_by (λ (r : List ℕ). length r)) (recipes_more list commit) ∙ sum_by-append (λ (r : List ℕ). length r) (flat_map recipes_of (commands_of user list)) (recipe ∷ [])) in
    let entries = ap (λ (v : View). length v.files) (own_adds shape list commit user refl) ∙ length-append (user_view shape list user).files (entry ∷ []) in
    record {
      owners = at_most _ _ _ (ap (λ (l : List (List ℕ)). length l) strings) u.owners;
      shares = at_most _ _ _ (shares_stay list (commit ∷ []) user strings) u.shares;
      recipes = at_most _ _ _ spent (room_left names.Recipes used (length recipe) limits.recipes both.1);
      files = at_most _ _ _ entries (room_left names.Files files 1 (files_limit rooms user) both.0);
    }

one_less : (a b : ℕ) → a ≤ b → a ≤ suc b
one_less a b le = omega (arith, le)

one_each : (a b : ℕ) → a ≤ b → suc a ≤ suc b
one_each a b le = omega (arith, le)

fewer : {A : Type 0} (p : A → Bool) (xs : List A) → length (filter p xs) ≤ length xs
fewer p [] = omega arith
fewer p (x ∷ xs) = by_test (p x) (fewer p xs)
  where
    by_test : (b : Bool) → length (filter p xs) ≤ length xs → length (cond b (x ∷ filter p xs) (filter p xs)) ≤ length (x ∷ xs)
    by_test true le = one_each (length (filter p xs)) (length xs) le
    by_test false le = one_less (length (filter p xs)) (length xs) le

below : (a b limit : ℕ) → a ≤ b → b ≤ limit → a ≤ limit
below a b limit one two = omega (arith, one, two)

delete_fits : (shape : Shape) (rooms : UserRooms) (list : List Command) (user : UserId) (tag : Tag) (version : Version)
    → UsesWithin shape rooms list user → Fits shape rooms list (commands.Delete user tag version)
delete_fits shape rooms list user tag version u =
    let delete = commands.Delete user tag version in
    let spent = deletes_nothing_spent list user user (tag, version) in
    let files = (user_view shape list user).files in
    let left = fewer (λ (e : FileEntry). not (is_at (tag, version) e)) files in
    record {
      owners = at_most _ _ _ (ap (λ (s : SpentByUser). s.owners) spent) u.owners;
      shares = at_most _ _ _ (ap (λ (s : SpentByUser). s.shares) spent) u.shares;
      recipes = at_most _ _ _ (ap (λ (s : SpentByUser). s.recipes) spent) u.recipes;
      files = at_most _ _ _ (ap (λ (v : View). length v.files) (own_adds shape list delete user refl)) (below _ _ _ left u.files);
    }

own_fits : (shape : Shape) (rooms : UserRooms) (list : List Command) (command : Command) → UsesWithin shape rooms list (user_of command)
    → full_for shape rooms list command ≡ None → Fits shape rooms list command
own_fits shape rooms list (commands.Put user shares) u free = put_fits shape rooms list user shares u free
own_fits shape rooms list (commands.Commit user tag version recipe) u free = commit_fits shape rooms list user tag version recipe u free
own_fits shape rooms list (commands.Delete user tag version) u free = delete_fits shape rooms list user tag version u

-- ---- lists

uses_next : (shape : Shape) (rooms : UserRooms) (list : List Command) (command : Command) (user : UserId)
    → ((u : UserId) → UsesWithin shape rooms list u) → full_for shape rooms list command ≡ None → UsesWithin shape rooms (list ++ command ∷ []) user
uses_next shape rooms list command user each free =
    elim (cases_eq (user_of command).0 user.0) [
      | inl same ↦
          let user_is : user_of command ≡ user = λ i. record { 0 = same i } in
          subst (UsesWithin shape rooms (list ++ command ∷ [])) user_is (own_fits shape rooms list command (each (user_of command)) free)
      | inr other ↦ uses_other shape rooms list command user other (each user)
    ]

nothing_in : {A : Type 0} (xs ys : List A) → [] ≡ xs ++ ys → xs ≡ []
nothing_in [] ys e = refl
nothing_in (x ∷ xs) ys e = absurd (let no : [] ≡ x ∷ (xs ++ ys) = e in cc)

-- a front of a list with one element more is all of it, or a front of the list
front_cases : {A : Type 0} (xs : List A) (x : A) (bs more : List A) → xs ++ x ∷ [] ≡ bs ++ more → (bs ≡ xs ++ x ∷ []) ⊎ ((rest : List A) × (xs ≡ bs ++ rest))
front_cases xs x [] more e = inr (xs, refl)
front_cases [] x (b ∷ bs) more e =
    let f : x ∷ [] ≡ b ∷ (bs ++ more) = e in
    let head : b ≡ x = cc in
    let tail : [] ≡ bs ++ more = cc in
    let none = nothing_in bs more tail in
    inl (λ i. head i ∷ none i)
front_cases (y ∷ xs) x (b ∷ bs) more e =
    let f : y ∷ (xs ++ x ∷ []) ≡ b ∷ (bs ++ more) = e in
    let head : y ≡ b = cc in
    let tail : xs ++ x ∷ [] ≡ bs ++ more = cc in
    elim (front_cases xs x bs more tail) [
      | inl all ↦ inl (λ i. sym head i ∷ all i)
      | inr rest ↦ inr (rest.0, λ i. head i ∷ rest.1 i)
    ]

pub next_within : (shape : Shape) (rooms : UserRooms) (list : List Command) (command : Command) → IsWithin shape rooms list
    → full_for shape rooms list command ≡ None → IsWithin shape rooms (list ++ command ∷ [])
next_within shape rooms list command within free before after is user =
    elim (front_cases list command before after is) [
      | inl all ↦
          subst (λ (l : List Command). UsesWithin shape rooms l user) (sym all)
          (uses_next shape rooms list command user (λ u. within list [] (sym (append-nil list)) u) free)
      | inr front ↦ within before front.0 front.1 user
    ]
