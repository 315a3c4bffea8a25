-- Which user is the first that keeps too much.
use Rattle.std.proofs.Common.{◌≡◌, ℕ, zero, suc, ◌+◌, ◌<◌, ◌≤◌, ◌⊎◌, Bool, true, false, cond, List, [], ◌∷◌, Option, Some, None, refl, sym, ap, ◌∙◌, subst, arith, inl, inr}
use Rattle.std.specs.Prelude.{◌==◌, nat_lt, IfSome, option_map, sum_by, count_by}
use Rattle.std.specs.Option.{option_or}
use Rattle.std.specs.FinMap.{get, entries}
use Rattle.std.proofs.lemmas.Bool.{cases_lt}
use Rattle.std.proofs.lemmas.Bool.Decides.{Decides-ltb}
use Rattle.std.proofs.lemmas.List.{get_or_past}
use Rattle.std.proofs.lemmas.List.Sums.{sum_by-cons}
use Rattle.record_body.specs.CdBase.ids.UserId.{UserId}
use Rattle.record_body.specs.CdBase.rooms.Room.{Room}
use Rattle.record_body.specs.CdBase.rooms.Room.TheVariants as names
use Rattle.record_body.specs.CdBase.shape.Shape.{Shape}
use Rattle.compact_memories.specs.FileIndex.key.Entry.{Entry}
use Rattle.compact_memories.specs.FileIndex.key.FileKey.{FileKey}
use Rattle.compact_memories.specs.JournalStart.rooms.UserRooms.{UserRooms}
use Rattle.compact_memories.specs.PoolMap.Accounts.{keys_of}
use Rattle.compact_memories.specs.ShareIndex.key.Owner.{Owner}
use Rattle.compact_memories.specs.SpentTable.Spent.{Spent as Row}
use Rattle.compact_memories.specs.SpentTable.Spending.{spent_by}
use Rattle.compact_memories.specs.SpentTable.Spending as rows
use Rattle.compact_memories.specs.UserDedup.Dedup.{FullRoom, IsSound}
use Rattle.compact_memories.specs.UserDedup.command.Command.{Command}
use Rattle.compact_memories.specs.UserDedup.Spending.{SpentByUser, refusal, limits_of, files_limit, nothing}
use Rattle.compact_memories.specs.CloudAreas.FormatOne.{passed_room, too_large_for}
use Rattle.compact_memories.specs.CloudMemory.Memory.{Memory, Remembers, as_spent}
use Rattle.compact_memories.specs.CloudMemory.Steps.{placed_len}
use Rattle.compact_memories.proofs.CloudMemoryLaws.FullRooms.{files_counted}
use Rattle.compact_memories.specs.CompactLists.Live.{live_of}
use Rattle.compact_memories.specs.Kept.{kept_in}
use Rattle.compact_memories.specs.Tables.{with_table}
use Rattle.compact_memories.proofs.Keeping.{kept}
use Rattle.compact_memories.proofs.UserDedup.Within.{neither}
use Rattle.migration_model.proofs.Large.{by_kept, both_none}
use Rattle.large_users.specs.declared.large.TooLarge.{TooLarge}
use Rattle.large_users.specs.Counting.{recipes_in, IsFirstFrom, AreNoneBelow}
use Rattle.large_users.specs.Large.{files_in, passed_in, full_of, IsFirstOf, IsFirstBy, IsCountedBy}

-- ---- refusals that need nothing more

abbrev full_with : Room → ℕ → ℕ → FullRoom
full_with room used limit = record { room = room; used = used; need = 0; limit = limit }

room_left : (room : Room) (used limit : ℕ) → refusal room used 0 limit ≡ None → used ≤ limit
room_left room used limit = by_test (nat_lt limit (used + 0)) (Decides-ltb limit (used + 0)).1
  where
    by_test : (b : Bool) → (limit < used + 0 → b ≡ true) → cond b (Some (full_with room used limit)) None ≡ None → used ≤ limit
    by_test true back e = absurd (let never : Some (full_with room used limit) ≡ None = e in cc)
    by_test false back e =
        elim (cases_lt limit used) [
          | inl lt ↦ absurd (let t = back (omega (arith, lt)) in let no : false ≡ true = t in cc)
          | inr le ↦ le
        ]

none_left : (room : Room) (used limit : ℕ) → used ≤ limit → refusal room used 0 limit ≡ None
none_left room used limit le = by_test (nat_lt limit (used + 0)) (Decides-ltb limit (used + 0)).0
  where
    by_test : (b : Bool) → (b ≡ true → limit < used + 0) → cond b (Some (full_with room used limit)) None ≡ None
    by_test true is = absurd (let lt = is refl in omega (arith, lt, le))
    by_test false is = refl

is_refused : (room : Room) (used limit : ℕ) → limit < used → refusal room used 0 limit ≡ Some (full_with room used limit)
is_refused room used limit lt = by_test (nat_lt limit (used + 0)) (Decides-ltb limit (used + 0)).1
  where
    by_test : (b : Bool) → (limit < used + 0 → b ≡ true) → cond b (Some (full_with room used limit)) None ≡ Some (full_with room used limit)
    by_test true back = refl
    by_test false back = absurd (let t = back (omega (arith, lt)) in let no : false ≡ true = t in cc)

-- ---- a user whose number isn't below that of the users

not_below : (a b : ℕ) → b ≤ a → nat_lt a b ≡ false
not_below a b le = by_test (nat_lt a b) refl
  where
    by_test : (t : Bool) → nat_lt a b ≡ t → t ≡ false
    by_test true is = absurd (let lt = (Decides-ltb a b).0 is in omega (arith, lt, le))
    by_test false is = refl

module _ (rooms : UserRooms) (user : UserId) where
  abbrev given : SpentByUser
  given = record { owners = rooms.owners; shares = rooms.shares; recipes = rooms.recipes }

  pub no_limit : rooms.users ≤ user.0 → limits_of rooms user ≡ nothing
  no_limit le = ap (λ (b : Bool). cond b given nothing) (not_below user.0 rooms.users le)

  pub no_files : rooms.users ≤ user.0 → files_limit rooms user ≡ 0
  no_files le = ap (λ (b : Bool). cond b rooms.files 0) (not_below user.0 rooms.users le)

  pub most_owners : (limits_of rooms user).owners ≤ rooms.owners
  most_owners = by_test (nat_lt user.0 rooms.users)
    where
      by_test : (b : Bool) → (cond b given nothing).owners ≤ rooms.owners
      by_test true = omega arith
      by_test false = omega arith

  pub most_files : files_limit rooms user ≤ rooms.files
  most_files = by_test (nat_lt user.0 rooms.users)
    where
      by_test : (b : Bool) → cond b rooms.files 0 ≤ rooms.files
      by_test true = omega arith
      by_test false = omega arith

  -- where no room is passed, each use is within its limit
  pub within_limits : (used : SpentByUser) (files : ℕ) → passed_room rooms user used files ≡ None
      → (used.owners ≤ (limits_of rooms user).owners) × (used.shares ≤ (limits_of rooms user).shares) × (used.recipes ≤ (limits_of rooms user).recipes) × (files ≤ files_limit rooms user)
  within_limits used files e =
      let limits = limits_of rooms user in
      let a = neither (refusal names.Owners used.owners 0 limits.owners) _ e in
      let b = neither (refusal names.Shares used.shares 0 limits.shares) _ a.1 in
      let c = neither (refusal names.Recipes used.recipes 0 limits.recipes) (refusal names.Files files 0 (files_limit rooms user)) b.1 in (
        room_left names.Owners used.owners limits.owners a.0,
        room_left names.Shares used.shares limits.shares b.0,
        room_left names.Recipes used.recipes limits.recipes c.0,
        room_left names.Files files (files_limit rooms user) c.1,
      )

  -- where nothing is used, no room is passed
  nothing_passed : (used : SpentByUser) (files : ℕ) → used.owners ≡ 0 → used.shares ≡ 0 → used.recipes ≡ 0 → files ≡ 0 → passed_room rooms user used files ≡ None
  nothing_passed used files a b c d =
      let limits = limits_of rooms user in
      both_none (refusal names.Owners used.owners 0 limits.owners) _ (none_left names.Owners used.owners limits.owners (omega (arith, a)))
      (both_none (refusal names.Shares used.shares 0 limits.shares) _ (none_left names.Shares used.shares limits.shares (omega (arith, b)))
      (both_none (refusal names.Recipes used.recipes 0 limits.recipes) (refusal names.Files files 0 (files_limit rooms user))
      (none_left names.Recipes used.recipes limits.recipes (omega (arith, c))) (none_left names.Files files (files_limit rooms user) (omega (arith, d)))))

  -- and where something is, one is
  something_passed : (used : SpentByUser) (files : ℕ) → rooms.users ≤ user.0 → (1 ≤ used.owners) ⊎ (1 ≤ files) → passed_room rooms user used files ≡ None → ⊥
  something_passed used files le some e =
      let w = within_limits used files e in
      let own = w.0 in let has = w.3 in
      let none : (limits_of rooms user).owners ≡ 0 = ap (λ (s : SpentByUser). s.owners) (no_limit le) in
      let no = no_files le in
      elim some [
        | inl one ↦ omega (arith, one, own, none)
        | inr one ↦ omega (arith, one, has, no)
      ]

  -- the owners decide where they pass
  owners_decide : (one two : SpentByUser) (files others : ℕ) → one.owners ≡ two.owners → rooms.users ≤ user.0 → 1 ≤ one.owners
      → passed_room rooms user one files ≡ passed_room rooms user two others
  owners_decide one two files others same le some =
      let none : (limits_of rooms user).owners ≡ 0 = ap (λ (s : SpentByUser). s.owners) (no_limit le) in
      let limit = (limits_of rooms user).owners in
      ap (λ (o : Option FullRoom). option_or o (option_or (refusal names.Shares one.shares 0 (limits_of rooms user).shares)
      (option_or (refusal names.Recipes one.recipes 0 (limits_of rooms user).recipes) (refusal names.Files files 0 (files_limit rooms user)))))
      (is_refused names.Owners one.owners limit (omega (arith, some, none)))
      ∙ ap (λ (n : ℕ). Some (full_with names.Owners n limit)) same
      ∙ sym (ap (λ (o : Option FullRoom). option_or o (option_or (refusal names.Shares two.shares 0 (limits_of rooms user).shares)
      (option_or (refusal names.Recipes two.recipes 0 (limits_of rooms user).recipes) (refusal names.Files others 0 (files_limit rooms user)))))
      (is_refused names.Owners two.owners limit (omega (arith, some, none, same))))

-- ---- what a user keeps

none_weigh : {X : Type 0} (test : X → Bool) (f : X → ℕ) (xs : List X) → count_by test xs ≡ 0 → sum_by (λ (x : X). cond (test x) (f x) 0) xs ≡ 0
none_weigh test f [] none = refl
none_weigh {X} test f (x ∷ xs) none = by_test (test x) refl (sum_by-cons (λ (y : X). cond (test y) 1 0) x xs) (sum_by-cons (λ (y : X). cond (test y) (f y) 0) x xs) (none_weigh test f xs)
  where
    by_test : (b : Bool) → test x ≡ b → sum_by (λ (y : X). cond (test y) 1 0) (x ∷ xs) ≡ cond (test x) 1 0 + sum_by (λ (y : X). cond (test y) 1 0) xs
        → sum_by (λ (y : X). cond (test y) (f y) 0) (x ∷ xs) ≡ cond (test x) (f x) 0 + sum_by (λ (y : X). cond (test y) (f y) 0) xs
        → (count_by test xs ≡ 0 → sum_by (λ (y : X). cond (test y) (f y) 0) xs ≡ 0)
        → sum_by (λ (y : X). cond (test y) (f y) 0) (x ∷ xs) ≡ 0
    by_test true is count sum others = absurd (let one : ◌≡◌ {A = ℕ} (cond (test x) 1 0) 1 = ap (λ (b : Bool). cond b 1 0) is in omega (arith, none, count, one))
    by_test false is count sum others =
        let one : ◌≡◌ {A = ℕ} (cond (test x) 1 0) 0 = ap (λ (b : Bool). cond b 1 0) is in
        let here : ◌≡◌ {A = ℕ} (cond (test x) (f x) 0) 0 = ap (λ (b : Bool). cond b (f x) 0) is in
        let rest = others (omega (arith, none, count, one)) in
        omega (arith, sum, here, rest)

module _ (m : Memory) (user : UserId) where
  no_shares : keys_of (λ (k : Owner). k.user) m.owners user.0 ≡ 0 → (kept_in m user).shares ≡ 0
  no_shares none = none_weigh (λ (e : Owner × ℕ). e.0.user == user.0) (λ (e : Owner × ℕ). placed_len (get m.places e.0.fp)) (entries m.owners) none

  no_recipes : keys_of (λ (k : FileKey). k.user) m.files user.0 ≡ 0 → (kept_in m user).recipes ≡ 0
  no_recipes none = none_weigh (λ (e : FileKey × Entry). e.0.user == user.0) (λ (e : FileKey × Entry). e.1.len) (entries m.files) none

  pub none_passed : (rooms : UserRooms) → keys_of (λ (k : Owner). k.user) m.owners user.0 ≡ 0 → keys_of (λ (k : FileKey). k.user) m.files user.0 ≡ 0
      → passed_in rooms m user ≡ None
  none_passed rooms owners files = nothing_passed rooms user (kept_in m user) (files_in m user) owners (no_shares owners) (no_recipes files) files

  -- what a memory says that counts it, and what a pass over its entries says
  pub room_is : (rooms : UserRooms) (users : ℕ) (n : Memory) (used : Row) (files : ℕ) → IsCountedBy users m n → rooms.users ≤ users
      → used.owners ≡ keys_of (λ (k : Owner). k.user) n.owners user.0 → used.shares ≡ (spent_by n.spent user).shares
      → used.recipes ≡ recipes_in n.files user.0 → files ≡ keys_of (λ (k : FileKey). k.user) n.files user.0
      → passed_room rooms user (as_spent used) files ≡ passed_in rooms m user
  room_is rooms users n used files is le owners shares recipes count =
      elim (cases_lt user.0 users) [
        | inl inside ↦ with_shares (shares ∙ ap (λ (s : SpentByUser). s.shares) (is.spent user inside))
        | inr past ↦ by_count past (keys_of (λ (k : Owner). k.user) m.owners user.0) refl
      ]
    where
      own : used.owners ≡ (kept_in m user).owners
      own = owners ∙ ap (λ o. keys_of (λ (k : Owner). k.user) o user.0) is.owners

      sent : used.recipes ≡ (kept_in m user).recipes
      sent = recipes ∙ ap (λ f. recipes_in f user.0) is.files

      many : files ≡ files_in m user
      many = count ∙ ap (λ f. keys_of (λ (k : FileKey). k.user) f user.0) is.files

      with_shares : used.shares ≡ (kept_in m user).shares → passed_room rooms user (as_spent used) files ≡ passed_in rooms m user
      with_shares held =
          let same : as_spent used ≡ kept_in m user = λ i. record { owners = own i; shares = held i; recipes = sent i } in
          ap (λ (s : SpentByUser). passed_room rooms user s files) same ∙ ap (λ (f : ℕ). passed_room rooms user (kept_in m user) f) many

      none_spent : users ≤ user.0 → used.shares ≡ 0
      none_spent past =
          let long = is.rows in
          shares ∙ ap (λ (row : Row). row.shares) (get_or_past n.spent user.0 rows.nothing (omega (arith, past, long)))

      by_count : users ≤ user.0 → (c : ℕ) → keys_of (λ (k : Owner). k.user) m.owners user.0 ≡ c → passed_room rooms user (as_spent used) files ≡ passed_in rooms m user
      by_count past zero none = with_shares (none_spent past ∙ sym (no_shares none))
      by_count past (suc c) some =
          owners_decide rooms user (as_spent used) (kept_in m user) files (files_in m user) own (omega (arith, le, past)) (omega (arith, own, some))

-- ---- the first one

pub first_here : (rooms : UserRooms) (m : Memory) (large : TooLarge) (user : UserId) → Some (full_of large) ≡ passed_in rooms m user → large.user ≡ user
    → passed_in rooms m large.user ≡ Some (full_of large)
first_here rooms m large user full same = ap (passed_in rooms m) same ∙ sym full

pub first_from : (rooms : UserRooms) (m : Memory) (result : Option TooLarge) (user : UserId) → option_map full_of result ≡ passed_in rooms m user
    → IfSome result (λ (large : TooLarge). large.user ≡ user) → rooms.users ≤ user.0
    → (1 ≤ keys_of (λ (k : Owner). k.user) m.owners user.0) ⊎ (1 ≤ keys_of (λ (k : FileKey). k.user) m.files user.0)
    → ((u : ℕ) → rooms.users ≤ u → u < user.0 → (keys_of (λ (k : Owner). k.user) m.owners u ≡ 0) × (keys_of (λ (k : FileKey). k.user) m.files u ≡ 0))
    → IsFirstFrom rooms.users rooms m result
first_from rooms m None user full same le some none = absurd (something_passed rooms user (kept_in m user) (files_in m user) le some (sym full))
first_from rooms m (Some large) user full same le some none = (
  first_here rooms m large user full same,
  λ other from lt. let no = none other.0 from (subst (λ (u : UserId). other.0 < u.0) same lt) in none_passed m other rooms no.0 no.1,
)

pub first_of_all : (rooms : UserRooms) (m : Memory) (result : Option TooLarge) → AreNoneBelow rooms.users rooms m → IsFirstFrom rooms.users rooms m result → IsFirstOf rooms m result
first_of_all rooms m None below from = λ user.
    elim (cases_lt user.0 rooms.users) [
      | inl lt ↦ below user lt
      | inr le ↦ from user le
    ]
first_of_all rooms m (Some large) below from = record {
  here = from.0;
  before = λ other less. elim (cases_lt other.0 rooms.users) [
    | inl lt ↦ below other lt
    | inr le ↦ from.1 other le less
  ];
}

pub below_more : (rooms : UserRooms) (m : Memory) (count : ℕ) → AreNoneBelow count rooms m → passed_in rooms m (record { 0 = count }) ≡ None → AreNoneBelow (count + 1) rooms m
below_more rooms m count below here user lt =
    elim (cases_lt user.0 count) [
      | inl less ↦ below user less
      | inr le ↦
          let same : user.0 ≡ count = omega (arith, lt, le) in
          ap (passed_in rooms m) (let two : user ≡ record { 0 = count } = λ i. record { 0 = same i } in two) ∙ here
    ]

-- ---- by a list

passed_by : (shape : Shape) (cloud : ℕ) (rooms : UserRooms) (list : List Command) (table : List Row) (m : Memory) (user : UserId) → IsSound shape cloud list
    → Remembers shape list (with_table table m) → passed_in rooms m user ≡ too_large_for shape rooms list user
passed_by shape cloud rooms list table m user sound r =
    ap (λ (s : SpentByUser). passed_room rooms user s (files_in m user)) (kept shape cloud list (with_table table m) user sound r)
    ∙ ap (λ (n : ℕ). passed_room rooms user (live_of shape list user) n) (files_counted shape cloud list user (with_table table m) sound r)
    ∙ sym (by_kept shape cloud rooms list user sound)

pub first_by : (shape : Shape) (cloud : ℕ) (rooms : UserRooms) (list : List Command) (table : List Row) (m : Memory) (result : Option TooLarge) → IsSound shape cloud list
    → Remembers shape list (with_table table m) → IsFirstOf rooms m result → IsFirstBy shape rooms list result
first_by shape cloud rooms list table m None sound r is = λ user. sym (passed_by shape cloud rooms list table m user sound r) ∙ is user
first_by shape cloud rooms list table m (Some large) sound r is = record {
  here = sym (passed_by shape cloud rooms list table m large.user sound r) ∙ is.here;
  before = λ other less. sym (passed_by shape cloud rooms list table m other sound r) ∙ is.before other less;
}

-- ---- what the calls say

limit_is : (b : Bool) (s : SpentByUser) (f : SpentByUser → ℕ) → f nothing ≡ 0 → cond b (f s) 0 ≡ f (cond b s nothing)
limit_is true s f none = refl
limit_is false s f none = sym none

-- the four refusals, one after another
pub rooms_are : (rooms : UserRooms) (user : UserId) (used : SpentByUser) (files : ℕ) (o s r f : Option FullRoom)
    → o ≡ refusal names.Owners used.owners 0 (cond (nat_lt user.0 rooms.users) rooms.owners 0)
    → s ≡ refusal names.Shares used.shares 0 (cond (nat_lt user.0 rooms.users) rooms.shares 0)
    → r ≡ refusal names.Recipes used.recipes 0 (cond (nat_lt user.0 rooms.users) rooms.recipes 0)
    → f ≡ refusal names.Files files 0 (cond (nat_lt user.0 rooms.users) rooms.files 0)
    → option_or o (option_or s (option_or r f)) ≡ passed_room rooms user used files
rooms_are rooms user used files o s r f eo es er ef =
    let t = nat_lt user.0 rooms.users in
    let g = given rooms user in
    let one = eo ∙ ap (λ (n : ℕ). refusal names.Owners used.owners 0 n) (limit_is t g (λ (x : SpentByUser). x.owners) refl) in
    let two = es ∙ ap (λ (n : ℕ). refusal names.Shares used.shares 0 n) (limit_is t g (λ (x : SpentByUser). x.shares) refl) in
    let three = er ∙ ap (λ (n : ℕ). refusal names.Recipes used.recipes 0 n) (limit_is t g (λ (x : SpentByUser). x.recipes) refl) in
    λ i. option_or (one i) (option_or (two i) (option_or (three i) (ef i)))

pub owner_found : (o : Option ℕ) (from : ℕ) (m n : Memory) → n.owners ≡ m.owners
    → IfSome o (λ (user : ℕ). (from ≤ user) × (1 ≤ keys_of (λ (k : Owner). k.user) n.owners user))
    → IfSome o (λ (user : ℕ). (from ≤ user) × ((1 ≤ keys_of (λ (k : Owner). k.user) m.owners user) ⊎ (1 ≤ keys_of (λ (k : FileKey). k.user) m.files user)))
owner_found None from m n same found = tt
owner_found (Some user) from m n same found = (found.0, inl (subst (λ owners. 1 ≤ keys_of (λ (k : Owner). k.user) owners user) same found.1))

pub file_found : (o : Option ℕ) (from : ℕ) (m n : Memory) → n.files ≡ m.files
    → IfSome o (λ (user : ℕ). (from ≤ user) × (1 ≤ keys_of (λ (k : FileKey). k.user) n.files user))
    → IfSome o (λ (user : ℕ). (from ≤ user) × ((1 ≤ keys_of (λ (k : Owner). k.user) m.owners user) ⊎ (1 ≤ keys_of (λ (k : FileKey). k.user) m.files user)))
file_found None from m n same found = tt
file_found (Some user) from m n same found = (found.0, inr (subst (λ files. 1 ≤ keys_of (λ (k : FileKey). k.user) files user) same found.1))
