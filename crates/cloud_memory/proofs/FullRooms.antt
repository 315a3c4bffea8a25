-- The room that is full by a memory is the one that is full by its list.
use Rattle.std.proofs.Common.{◌≡◌, ℕ, zero, suc, ◌+◌, ◌-◌, ◌*◌, ◌<◌, ◌≤◌, nat_lt, lt-ltb, ltb-true, Bool, true, false, cond, List, [], ◌∷◌, ◌++◌, length, map, Option, Some, None, refl, sym, ap, ◌∙◌, subst, arith, inl, inr, append-nil, length-append, eq-eqb}
use Rattle.std.specs.Prelude.{◌||◌, ◌==◌, not, filter, fold, max, is_some, IsSome, sum_by}
use Rattle.std.specs.List.{Contains}
use Rattle.std.specs.Option.{option_or}
use Rattle.std.specs.FinMap.{get, len}
use Rattle.std.proofs.lemmas.Bool.{cases_eq, cases_lt, ne_eqb, eqb-true, false_from_ne_true}
use Rattle.std.proofs.lemmas.List.{length-map}
use Rattle.spent_table.specs.CdBase.ids.Fp.{Fp}
use Rattle.spent_table.specs.CdBase.ids.Tag.{Tag}
use Rattle.spent_table.specs.CdBase.ids.UserId.{UserId}
use Rattle.spent_table.specs.CdBase.ids.Version.{Version}
use Rattle.spent_table.specs.CdBase.rooms.Room.{Room}
use Rattle.spent_table.specs.CdBase.rooms.Room.TheVariants as names
use Rattle.spent_table.specs.CdBase.shape.Shape.{Shape}
use Rattle.file_index.specs.PoolMap.Accounts.{keys_of}
use Rattle.file_index.specs.declared.key.FileKey.{FileKey}
use Rattle.file_index.specs.Order.{key_exact}
use Rattle.file_index.proofs.Order.{key_total}
use Rattle.cloud_areas.specs.JournalStart.rooms.UserRooms.{UserRooms}
use Rattle.share_index.specs.declared.key.Owner.{Owner}
use Rattle.share_index.specs.Order.{owner_of, owner_exact}
use Rattle.spent_table.specs.CdBase.Order.{fp_exact}
use Rattle.share_index.proofs.Owning.{owner_total}
use Rattle.share_index.proofs.Placing.{fp_total}
use Rattle.spent_table.specs.Spending.{spent_by}
use Rattle.cloud_areas.specs.UserDedup.file_list.FileEntry.{FileEntry}
use Rattle.cloud_areas.specs.UserDedup.view.View.{View}
use Rattle.cloud_areas.specs.UserDedup.Cloud.{fingerprint, no_view}
use Rattle.cloud_areas.specs.UserDedup.Dedup.{FullRoom}
use Rattle.cloud_areas.specs.UserDedup.Owning.{is_among}
use Rattle.cloud_areas.specs.UserDedup.Pages.{entry_at, AreApart}
use Rattle.cloud_areas.specs.UserDedup.Pages.{key_of as file_key}
use Rattle.cloud_areas.proofs.UserDedup.Owned.{among_contains, contains_here, contains_later, contains_nothing, contains_cases}
use Rattle.cloud_areas.specs.UserDedup.command.Command.{Command}
use Rattle.cloud_areas.specs.UserDedup.command.Command.TheVariants as commands
use Rattle.cloud_areas.specs.UserDedup.Dedup.{IsSound}
use Rattle.cloud_areas.specs.UserDedup.Cloud.{user_of, commands_of, strings_of, strings_in, view_after, user_view, named_by, named_in, without_key}
use Rattle.cloud_areas.specs.UserDedup.Spending.{SpentByUser, nothing, refusal, limits_of, spent_of, files_of, files_limit, full_for, UsesWithin, IsWithin}
use Rattle.cloud_areas.specs.UserDedup.Spending as spending
use Rattle.cloud_areas.proofs.UserDedup.Once.{Once}
use Rattle.cloud_areas.proofs.UserDedup.Sound.{keys_apart}
use Rattle.cloud_areas.proofs.UserDedup.Spending.{each_within}
use Rattle.cloud_areas.proofs.UserDedup.Pages.{Key}
use Rattle.cloud_memory.specs.declared.rooms.New.{New}
use Rattle.cloud_memory.specs.Memory.{Memory, Remembers, uses_of}
use Rattle.cloud_memory.specs.News.{AreOf, AreNewTo}
use Rattle.cloud_memory.specs.Rooms.{full_news, full_commit}
use Rattle.cloud_memory.specs.Steps.{held_len}
use Rattle.cloud_memory.proofs.Adding.{cost_held}
use Rattle.cloud_memory.proofs.KeyCounts.{few_keys, many_keys, all_keys}
use Rattle.cloud_memory.proofs.Lists.{strings_more, and_more, spent_next}
use Rattle.cloud_memory.proofs.Next.{of, Holds, holds_of, mapped_at}
use Rattle.cloud_memory.proofs.PutLaw.{cost_is}
use Rattle.cloud_memory.proofs.Taking.{refusal_none}

-- ---- how many strings all users together have put

abbrev user_at : ℕ → UserId
user_at n = record { 0 = n }

abbrev weight : List Command → ℕ
weight some = length (strings_in some)

abbrev is_below : ℕ → Command → Bool
is_below n c = nat_lt (user_of c).0 n

-- above the numbers of the users
abbrev top : List Command → ℕ
top [] = 0
top (c ∷ cs) = max (suc (user_of c).0) (top cs)

not_below : (a b : ℕ) → b ≤ a → nat_lt a b ≡ false
not_below a b ge = false_from_ne_true (nat_lt a b) (λ t. let lt = ltb-true a b t in absurd (omega (arith, lt, ge)))

whole : (n : ℕ) (cs : List Command) → top cs ≤ n → filter (is_below n) cs ≡ cs
whole n [] le = refl
whole n (c ∷ cs) le =
    ap (λ (b : Bool). cond b (c ∷ filter (is_below n) cs) (filter (is_below n) cs)) (lt-ltb (user_of c).0 n (omega (arith, le)))
    ∙ ap (λ (l : List Command). c ∷ l) (whole n cs (omega (arith, le)))

none_below : (cs : List Command) → filter (is_below 0) cs ≡ []
none_below [] = refl
none_below (c ∷ cs) =
    ap (λ (b : Bool). cond b (c ∷ filter (is_below 0) cs) (filter (is_below 0) cs)) (not_below (user_of c).0 0 (omega arith)) ∙ none_below cs

parted : (u n : ℕ) → cond (nat_lt u (suc n)) 1 0 ≡ cond (nat_lt u n) 1 0 + cond (u == n) 1 0
parted u n = elim (cases_lt u n) [
  | inl lt ↦ (λ i. cond (lt-ltb u (suc n) (omega (arith, lt)) i) 1 0)
      ∙ sym (λ i. cond (lt-ltb u n lt i) 1 0 + cond (ne_eqb u n (λ e. absurd (omega (arith, e, lt))) i) 1 0)
  | inr ge ↦ elim (cases_eq u n) [
    | inl same ↦ (λ i. cond (lt-ltb u (suc n) (omega (arith, same)) i) 1 0) ∙ sym (λ i. cond (not_below u n ge i) 1 0 + cond (eq-eqb u n same i) 1 0)
    | inr other ↦ (λ i. cond (not_below u (suc n) (omega (arith, ge, other)) i) 1 0) ∙ sym (λ i. cond (not_below u n ge i) 1 0 + cond (ne_eqb u n other i) 1 0)
  ]
]

-- those of the first users, and those of one more
split : (n : ℕ) (cs : List Command) → weight (filter (is_below (suc n)) cs) ≡ weight (filter (is_below n) cs) + weight (commands_of (user_at n) cs)
split n [] = let none : weight [] ≡ 0 = refl in omega (arith, none)
split n (c ∷ cs) =
    by_test (nat_lt (user_of c).0 (suc n)) (nat_lt (user_of c).0 n) ((user_of c).0 == n) (parted (user_of c).0 n)
    (filter (is_below (suc n)) cs) (filter (is_below n) cs) (commands_of (user_at n) cs) (split n cs)
  where
    more : (l : List Command) → weight (c ∷ l) ≡ length (strings_of c) + weight l
    more l = length-append (strings_of c) (strings_in l)

    by_test : (d a b : Bool) → cond d 1 0 ≡ cond a 1 0 + cond b 1 0 → (ds es fs : List Command) → weight ds ≡ weight es + weight fs
        → weight (cond d (c ∷ ds) ds) ≡ weight (cond a (c ∷ es) es) + weight (cond b (c ∷ fs) fs)
    by_test true true true counts ds es fs sum = absurd (omega (arith, counts))
    by_test true true false counts ds es fs sum = omega (arith, sum, more ds, more es)
    by_test true false true counts ds es fs sum = omega (arith, sum, more ds, more fs)
    by_test true false false counts ds es fs sum = absurd (omega (arith, counts))
    by_test false true true counts ds es fs sum = absurd (omega (arith, counts))
    by_test false true false counts ds es fs sum = absurd (omega (arith, counts))
    by_test false false true counts ds es fs sum = absurd (omega (arith, counts))
    by_test false false false counts ds es fs sum = sum

under : (n most : ℕ) (cs : List Command) → ((u : ℕ) → u < n → weight (commands_of (user_at u) cs) ≤ most) → weight (filter (is_below n) cs) ≤ n * most
under zero most cs each = let none = ap weight (none_below cs) in let nothing_is : weight [] ≡ 0 = refl in omega (arith, none, nothing_is)
under (suc n) most cs each =
    let rest = under n most cs (λ u lt. each u (omega (arith, lt))) in
    let both = split n cs in
    let last = each n (omega arith) in
    omega (arith, rest, both, last)

above : (n users : ℕ) (cs : List Command) → users ≤ n → ((u : ℕ) → users ≤ u → weight (commands_of (user_at u) cs) ≡ 0)
    → weight (filter (is_below n) cs) ≡ weight (filter (is_below users) cs)
above zero users cs le none = let same : 0 ≡ users = omega (arith, le) in ap (λ (k : ℕ). weight (filter (is_below k) cs)) same
above (suc n) users cs le none = elim (cases_lt n users) [
  | inl lt ↦ (let same : suc n ≡ users = omega (arith, le, lt) in ap (λ (k : ℕ). weight (filter (is_below k) cs)) same)
  | inr ge ↦ (let both = split n cs in let rest = above n users cs ge none in let last = none n ge in omega (arith, both, rest, last))
]

all_strings : (users most : ℕ) (cs : List Command) → ((u : ℕ) → u < users → weight (commands_of (user_at u) cs) ≤ most)
    → ((u : ℕ) → users ≤ u → weight (commands_of (user_at u) cs) ≡ 0) → weight cs ≤ users * most
all_strings users most cs each none =
    let n = max (top cs) users in
    let all = ap weight (whole n cs (omega arith)) in
    let same = above n users cs (omega arith) none in
    let few = under users most cs each in
    omega (arith, all, same, few)

-- where each user has put no more than it may
pub strings_within : (rooms : UserRooms) (list : List Command) → ((q : UserId) → (spent_of list q).owners ≤ (limits_of rooms q).owners)
    → length (strings_in list) ≤ rooms.users * rooms.owners
strings_within rooms list each =
    all_strings rooms.users rooms.owners list
    (λ u lt. let le = each (user_at u) in let limit : (limits_of rooms (user_at u)).owners ≡ rooms.owners = ap by (lt-ltb u rooms.users lt) in omega (arith, le, limit))
    (λ u ge. let le = each (user_at u) in let limit : (limits_of rooms (user_at u)).owners ≡ 0 = ap by (not_below u rooms.users ge) in omega (arith, le, limit))
  where
    by : Bool → ℕ
    by b = (cond {A = SpentByUser} b (record { owners = rooms.owners; shares = rooms.shares; recipes = rooms.recipes }) nothing).owners

-- ---- what a user owns

filter_few : (p : Fp → Bool) (fps : List Fp) → length (filter p fps) ≤ length fps
filter_few p [] = omega arith
filter_few p (fp ∷ fps) = by_test (p fp) (filter_few p fps)
  where
    by_test : (b : Bool) → length (filter p fps) ≤ length fps → length (cond b (fp ∷ filter p fps) (filter p fps)) ≤ suc (length fps)
    by_test true le = omega (arith, le)
    by_test false le = omega (arith, le)

pub own_few : (shape : Shape) (v : View) (some : List Command) → length (fold (view_after shape) v some).own ≤ length v.own + length (strings_in some)
own_few shape v [] = omega arith
own_few shape v (commands.Put user shares ∷ some) =
    let rest = own_few shape (view_after shape v (commands.Put user shares)) some in
    let own = length-append v.own (map fingerprint shares) in
    let all = length-append shares (strings_in some) in
    let same = length-map shares fingerprint in
    omega (arith, rest, own, all, same)
own_few shape v (commands.Commit user tag version recipe ∷ some) = own_few shape (view_after shape v (commands.Commit user tag version recipe)) some
own_few shape v (commands.Delete user tag version ∷ some) =
    let rest = own_few shape (view_after shape v (commands.Delete user tag version)) some in
    let less = filter_few (λ (fp : Fp). not (is_among (named_by shape (entry_at v.files (tag, version))) fp) || is_among (named_in shape (without_key (tag, version) v.files)) fp) v.own in
    omega (arith, rest, less)

in_mapped : {X Y : Type 0} (f : X → Y) (xs : List X) (x : X) → Contains xs x → Contains (map f xs) (f x)
in_mapped f [] x c = absurd (contains_nothing x c)
in_mapped f (y ∷ xs) x c = elim (contains_cases y xs x c) [
  | inl same ↦ subst (λ z. Contains (f y ∷ map f xs) (f z)) same (contains_here (f y) (map f xs))
  | inr later ↦ contains_later (f y) (map f xs) (f x) (in_mapped f xs x later)
]

from_mapped : {X Y : Type 0} (f : X → Y) (xs : List X) (y : Y) → Contains (map f xs) y → (x : X) × Contains xs x × (f x ≡ y)
from_mapped f [] y c = absurd (contains_nothing y c)
from_mapped f (x ∷ xs) y c = elim (contains_cases (f x) (map f xs) y c) [
  | inl same ↦ (x, contains_here x xs, same)
  | inr later ↦ (let r = from_mapped f xs y later in (r.0, contains_later x xs r.0 r.1, r.2))
]

-- ---- refusals

some_left : (room : Room) (used need limit : ℕ) → used + need ≤ limit → refusal room used need limit ≡ None
some_left room used need limit le =
    ap (λ (b : Bool). cond {A = Option FullRoom} b (Some (record { room = room; used = used; need = need; limit = limit })) None) (not_below limit (used + need) le)

-- the first two of four, where the others follow from the first
first_two : (a b c d : Option FullRoom) → (a ≡ None → (c ≡ None) × (d ≡ None)) → option_or a (option_or b (option_or c d)) ≡ option_or a b
first_two (Some x) b c d then = refl
first_two None b c d then =
    let both = then refl in
    (λ i. option_or b (option_or (both.0 i) (both.1 i))) ∙ or_none b
  where
    or_none : (o : Option FullRoom) → option_or o None ≡ o
    or_none None = refl
    or_none (Some x) = refl

-- ---- entries

module _ (shape : Shape) (cloud : ℕ) (list : List Command) (user : UserId) (m : Memory) (sound : IsSound shape cloud list) (r : Remembers shape list m) where
  -- the index has as many entries of a user as its view
  pub files_counted : keys_of (λ (k : FileKey). k.user) m.files user.0 ≡ files_of shape list user
  files_counted =
      let few = few_keys key_total key_exact (λ (k : FileKey). k.user == user.0) m.files (map (of user) keys) (λ k t some. among k t some) in
      let many = many_keys key_total key_exact (λ (k : FileKey). k.user == user.0) m.files (map (of user) keys) (once_mapped files (keys_apart shape cloud list user sound)) (λ k c. there k c) in
      let one = length-map keys (of user) in
      let two = length-map files file_key in
      omega (arith, few, many, one, two)
    where
      files : List FileEntry
      files = (user_view shape list user).files

      keys : List Key
      keys = map file_key files

      holds : Holds m.files user files
      holds = holds_of shape list m r user

      among : (k : FileKey) → (k.user == user.0) ≡ true → IsSome (get m.files k) → Contains (map (of user) keys) k
      among k t some =
          let key : Key = (record { 0 = k.tag }, record { 0 = k.version }) in
          let same : of user key ≡ k = λ i. record { user = sym (eqb-true k.user user.0 t) i; tag = k.tag; version = k.version } in
          subst (Contains (map (of user) keys)) same
          (in_mapped (of user) keys key ((holds key).0 (subst (λ (q : FileKey). IsSome (get m.files q)) (sym same) some)))

      there : (k : FileKey) → Contains (map (of user) keys) k → ((k.user == user.0) ≡ true) × IsSome (get m.files k)
      there k c =
          let f = from_mapped (of user) keys k c in
          subst (λ (q : FileKey). ((q.user == user.0) ≡ true) × IsSome (get m.files q)) f.2 (eq-eqb user.0 user.0 refl, (holds f.0).1 f.1)

      alike : (a b : Key) → of user a ≡ of user b → a ≡ b
      alike a b e = λ i. (record { 0 = (e i).tag }, record { 0 = (e i).version })

      once_mapped : (fs : List FileEntry) → AreApart fs → Once (map (of user) (map file_key fs))
      once_mapped [] apart = tt
      once_mapped (f ∷ fs) apart = (
        λ c.
            let g = from_mapped (of user) (map file_key fs) (of user (file_key f)) c in
            let key = alike g.0 (file_key f) g.2 in
            let at = mapped_at fs g.0 g.1 in
            let wrong : 0 ≡ suc at.0 = apart 0 (suc at.0) f at.1 refl at.2 (sym key ∙ sym at.3) in
            absurd (omega (arith, wrong)),
        once_mapped fs (λ i j a b x y same. let e = apart (suc i) (suc j) a b x y same in omega (arith, e)),
      )

-- ---- a list within its rooms

module _ (shape : Shape) (cloud : ℕ) (rooms : UserRooms) (list : List Command) (user : UserId) (m : Memory)
    (sound : IsSound shape cloud list) (r : Remembers shape list m) (within : IsWithin shape rooms list) where
  -- the indexes have no more of a user's than it has put
  pub owned_few : keys_of (λ (k : Owner). k.user) m.owners user.0 ≤ (spent_of list user).owners
  owned_few =
      let own = (user_view shape list user).own in
      let few = few_keys owner_total owner_exact (λ (k : Owner). k.user == user.0) m.owners (map (λ (fp : Fp). owner_of user.0 fp.0) own) (λ k t some. among k t some) in
      let long = length-map own (λ (fp : Fp). owner_of user.0 fp.0) in
      let most = own_few shape no_view (commands_of user list) in
      let none : length no_view.own ≡ 0 = refl in
      omega (arith, few, long, most, none)
    where
      among : (k : Owner) → (k.user == user.0) ≡ true → IsSome (get m.owners k) → Contains (map (λ (fp : Fp). owner_of user.0 fp.0) (user_view shape list user).own) k
      among k t some =
          let fp : Fp = record { 0 = k.fp } in
          let same : owner_of user.0 k.fp ≡ k = λ i. record { user = sym (eqb-true k.user user.0 t) i; fp = k.fp } in
          let here : is_some (cond (is_among (user_view shape list user).own fp) (Some (uses_of shape (user_view shape list user).files fp)) None) ≡ true =
          ap is_some (sym (r.owners user fp)) ∙ ap (λ (q : Owner). is_some (get m.owners q)) same ∙ some in
          subst (Contains (map (λ (fp : Fp). owner_of user.0 fp.0) (user_view shape list user).own)) same
          (in_mapped (λ (fp : Fp). owner_of user.0 fp.0) (user_view shape list user).own fp
          (among_contains (user_view shape list user).own fp (by_test (is_among (user_view shape list user).own fp) here)))
        where
          by_test : (b : Bool) → is_some (cond b (Some (uses_of shape (user_view shape list user).files (record { 0 = k.fp }))) None) ≡ true → b ≡ true
          by_test true e = refl
          by_test false e = e

  -- and no more places than there are strings
  pub placed_few : len m.places ≤ length (strings_in list)
  placed_few =
      let fps = map fingerprint (strings_in list) in
      let few = few_keys fp_total fp_exact (λ (k : List ℕ). true) m.places (map (λ (fp : Fp). fp.0) fps) (λ k t some.
      in_mapped (λ (fp : Fp). fp.0) fps (record { 0 = k }) ((r.placed (record { 0 = k })).0 some)) in
      let all = all_keys m.places in
      let one = length-map fps (λ (fp : Fp). fp.0) in
      let two = length-map (strings_in list) fingerprint in
      omega (arith, few, all, one, two)

  -- ---- a Put

  module _ (strings : List (List ℕ)) (news : List New) (of_strings : AreOf news strings) (new : AreNewTo m user news) where
    abbrev put : Command
    put = commands.Put user strings

    abbrev grown : List Command
    grown = list ++ put ∷ []

    news_long : length news ≡ length strings
    news_long =
        sym (length-map news (λ (n : New). n.fp)) ∙ ap (λ (l : List Fp). length l) of_strings.fps ∙ length-map strings fingerprint

    owners_more : (q : UserId) → (spent_of grown q).owners ≡ (spent_of list q).owners + cond (user.0 == q.0) (length strings) 0
    owners_more q =
        ap (λ (s : SpentByUser). s.owners) (spent_next list put q) ∙ by_test (user.0 == q.0)
      where
        by_test : (b : Bool) → (spent_of list q).owners + length (strings_in (cond b (put ∷ []) [])) ≡ (spent_of list q).owners + cond b (length strings) 0
        by_test true = ap (λ (l : List (List ℕ)). (spent_of list q).owners + length l) (append-nil strings)
        by_test false = refl

    -- where the user may put so many
    fits : (spent_of list user).owners + length strings ≤ (limits_of rooms user).owners → (q : UserId) → (spent_of grown q).owners ≤ (limits_of rooms q).owners
    fits le q = elim (cases_eq user.0 q.0) [
      | inl same ↦ subst (λ (u : UserId). (spent_of grown u).owners ≤ (limits_of rooms u).owners) (λ i. record { 0 = same i })
          (let more = owners_more user ∙ ap (λ (b : Bool). (spent_of list user).owners + cond b (length strings) 0) (eq-eqb user.0 user.0 refl) in omega (arith, more, le))
      | inr other ↦ (let more = owners_more q ∙ ap (λ (b : Bool). (spent_of list q).owners + cond b (length strings) 0) (ne_eqb user.0 q.0 other) in
          let had = (each_within shape rooms list q within).owners in omega (arith, more, had))
    ]

    -- what the shares cost
    cost_same : sum_by (held_len m.places) news ≡ (spent_of grown user).shares - (spent_of list user).shares
    cost_same =
        let held = cost_held m user news new.apart in
        let cost = cost_is shape cloud list user strings news m sound r of_strings new in
        let more : (spent_of grown user).shares ≡ (spent_of list user).shares + sum_by (spending.held_len grown) strings =
        ap (λ (s : SpentByUser). s.shares) (spent_next list put user)
        ∙ ap (λ (b : Bool). (and_more grown (cond b (put ∷ []) []) (spent_of list user)).shares) (eq-eqb user.0 user.0 refl)
        ∙ ap (λ (l : List (List ℕ)). (spent_of list user).shares + sum_by (spending.held_len grown) l) (append-nil strings) in
        omega (arith, held, cost, more)

    pub full_put_is : full_news rooms user m news ≡ full_for shape rooms list (commands.Put user strings)
    unfolding full_for
    full_put_is =
        let used = r.spent user in
        let limits = limits_of rooms user in
        first_two
        (refusal names.Owners (spent_by m.spent user).owners (length news) limits.owners)
        (refusal names.Shares (spent_by m.spent user).shares (sum_by (held_len m.places) news) limits.shares)
        (refusal names.Owners (keys_of (λ (k : Owner). k.user) m.owners user.0) (length news) limits.owners)
        (refusal names.Owners (len m.places) (length news) (rooms.users * rooms.owners))
        (λ none.
        let spent = refusal_none names.Owners (spent_by m.spent user).owners (length news) limits.owners none in
        let row : (spent_by m.spent user).owners ≡ (spent_of list user).owners = ap (λ (s : SpentByUser). s.owners) used in
        let long = news_long in
        let owned = owned_few in
        let placed = placed_few in
        let all = strings_within rooms grown (fits (omega (arith, spent, row, long))) in
        let more = ap (λ (l : List (List ℕ)). length l) (strings_more list put) ∙ length-append (strings_in list) strings in (
          some_left names.Owners (keys_of (λ (k : Owner). k.user) m.owners user.0) (length news) limits.owners (omega (arith, spent, row, owned)),
          some_left names.Owners (len m.places) (length news) (rooms.users * rooms.owners) (omega (arith, placed, all, more, long)),
        ))
        ∙ (λ i. option_or (refusal names.Owners (used i).owners (news_long i) limits.owners) (refusal names.Shares (used i).shares (cost_same i) limits.shares))

  -- ---- a Commit

  crowded : (used limit : ℕ) → used ≤ limit → (used == limit) ≡ nat_lt limit (used + 1)
  crowded used limit le = elim (cases_eq used limit) [
    | inl same ↦ eq-eqb used limit same ∙ sym (lt-ltb limit (used + 1) (omega (arith, same)))
    | inr other ↦ ne_eqb used limit other ∙ sym (not_below limit (used + 1) (omega (arith, le, other)))
  ]

  pub full_commit_is : (tag : Tag) (version : Version) (recipe : List ℕ) → full_commit rooms user m (length recipe) ≡ full_for shape rooms list (commands.Commit user tag version recipe)
  unfolding full_for
  full_commit_is tag version recipe =
      let used = r.spent user in
      let limit = files_limit rooms user in
      let files = files_counted shape cloud list user m sound r in
      let few = (each_within shape rooms list user within).files in
      let test = crowded (keys_of (λ (k : FileKey). k.user) m.files user.0) limit (omega (arith, files, few)) in
      (λ i. option_or (cond {A = Option FullRoom} (test i) (Some (record { room = names.Files; used = keys_of (λ (k : FileKey). k.user) m.files user.0; need = 1; limit = limit })) None)
      (refusal names.Recipes (used i).recipes (length recipe) (limits_of rooms user).recipes))
      ∙ ap (λ (n : ℕ). option_or (refusal names.Files n 1 limit) (refusal names.Recipes (spent_of list user).recipes (length recipe) (limits_of rooms user).recipes)) files
