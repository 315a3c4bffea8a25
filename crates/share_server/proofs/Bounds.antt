-- What a cloud serves can be written: the fields of a reply are in their ranges, those of Full too.
use Rattle.std.proofs.Common.{◌≡◌, ℕ, zero, suc, ◌+◌, ◌-◌, ◌*◌, ◌^◌, ◌<◌, ◌≤◌, Bool, true, false, cond, List, [], ◌∷◌, ◌++◌, length, get_or, Option, Some, None, refl, sym, ap, ◌∙◌, subst, arith, length-append, append-nil}
use Rattle.std.specs.Prelude.{nat_lt, All, unwrap_or}
use Rattle.std.specs.List.{sum_by}
use Rattle.std.specs.Option.{option_or}
use Rattle.std.proofs.lemmas.List.Elements.{All-append, All-contains, Contains-get_or}
use Rattle.std.proofs.lemmas.List.Sums.{sum_by-cons}
use Rattle.std.proofs.lemmas.Grind.{flat_map-append}
use Rattle.server_requests.specs.CdBase.ids.Fp.{Fp}
use Rattle.server_requests.specs.CdBase.ids.Tag.{Tag}
use Rattle.server_requests.specs.CdBase.ids.UserId.{UserId}
use Rattle.server_requests.specs.CdBase.ids.Version.{Version}
use Rattle.server_requests.specs.CdBase.rooms.Room.{Room}
use Rattle.server_requests.specs.CdBase.rooms.Room.TheVariants as names
use Rattle.server_requests.specs.CdBase.shape.Shape.{Shape}
use Rattle.server_requests.specs.JournalStart.rooms.UserRooms.{UserRooms}
use Rattle.server_requests.specs.JournalStart.Ranges.{AreRooms}
use Rattle.server_requests.specs.MessageFields.Shares.{IsShare}
use Rattle.server_requests.specs.Messages.request.Request.{Request}
use Rattle.server_requests.specs.Messages.request.Request.TheVariants as requests
use Rattle.server_requests.specs.Messages.Replies.{FitsReply}
use Rattle.server_requests.specs.Messages.Requests.{FitsRequest}
use Rattle.server_requests.specs.Recipe.recipe.Recipe.{Recipe}
use Rattle.server_requests.specs.Recipe.Spelling.{IsRecipe}
use Rattle.server_requests.proofs.Recipe.Written.{longest}
use Rattle.server_requests.specs.UserDedup.command.Command.{Command}
use Rattle.server_requests.specs.UserDedup.command.Command.TheVariants as commands
use Rattle.server_requests.specs.UserDedup.Cloud.{fingerprint, user_view, is_of, commands_of, strings_of, strings_in, held_string, held_bytes}
use Rattle.server_requests.specs.UserDedup.Dedup.{FullRoom, room_for, by_room, answer_over, IsSound}
use Rattle.server_requests.specs.UserDedup.Owning.{first_lacking, new_strings}
use Rattle.server_requests.specs.UserDedup.Pages.{entry_at}
use Rattle.server_requests.specs.UserDedup.Requests.{fps_of, HasRecipe}
use Rattle.server_requests.specs.UserDedup.Served.{served_by}
use Rattle.server_requests.specs.UserDedup.Spending.{SpentByUser, nothing, held_len, spent_of, limits_of, files_limit, files_of, refusal, full_for, IsWithin}
use Rattle.server_requests.proofs.UserDedup.New.{are_new}
use Rattle.server_requests.proofs.UserDedup.Sound.{put_adds, commit_adds, deletes_from}
use Rattle.server_requests.proofs.UserDedup.Spending.{commands_more, each_within}
use Rattle.server_requests.proofs.UserDedup.Suiting.{suits, few_new}
use Rattle.server_requests.proofs.UserDedup.Views.{held_is}
use Rattle.server_requests.proofs.ServerReads.Sound.{strings_fit}

-- ---- the parts of a command that a request adds

-- no more strings than a message has, each a share; or a recipe of a store
abbrev IsBounded : Command → Type 0
IsBounded (commands.Put user shares) = (length shares ≤ 256) × All IsShare shares
IsBounded (commands.Commit user tag version recipe) = length recipe ≤ 1180190
IsBounded (commands.Delete user tag version) = Unit {0}

all_new : (own : List Fp) (sent : List (List ℕ)) → All IsShare sent → All IsShare (new_strings own sent)
all_new own sent all k d l = All-contains IsShare sent (get_or (new_strings own sent) k d) all ((are_new own sent).among (get_or (new_strings own sent) k d) (Contains-get_or (new_strings own sent) k d l)).0

short : (shape : Shape) (recipe : List ℕ) (r : Recipe) → IsRecipe shape recipe r → length recipe ≤ 1180190
short shape recipe r is = let long = ap length is.spelled in let most = longest shape r is.fits in omega arith

bounded : (shape : Shape) (cloud : ℕ) (list : List Command) (request : Request) (command : Command) → FitsRequest request → HasRecipe shape request
    → (answer_over shape cloud list request).adds ≡ Some command → IsBounded command
bounded shape cloud list requests.Hello command fits has e = absurd (let f : None ≡ Some command = e in cc)
bounded shape cloud list (requests.Query user fps) command fits has e = absurd (let f : None ≡ Some command = e in cc)
bounded shape cloud list (requests.Put user shares) command fits has e =
    let own = (user_view shape list user).own in
    let few = few_new own shares in
    let batch = fits.1.0.1 in
    subst IsBounded (sym (put_adds user (new_strings own shares) command e)) (omega (arith, few, batch), all_new own shares fits.1.1)
bounded shape cloud list (requests.Commit user tag version recipe) command fits has e =
    let v = user_view shape list user in
    let a = commit_adds (first_lacking v.own (fps_of shape recipe)) (entry_at v.files (tag, version)) (commands.Commit user tag version recipe) recipe command e in
    subst IsBounded (sym a.2) (short shape recipe has.0 has.1)
bounded shape cloud list (requests.GetRecipe user tag version) command fits has e = absurd (let f : None ≡ Some command = e in cc)
bounded shape cloud list (requests.GetShares user fps) command fits has e = absurd (let f : None ≡ Some command = e in cc)
bounded shape cloud list (requests.List user after) command fits has e = absurd (let f : None ≡ Some command = e in cc)
bounded shape cloud list (requests.Delete user tag version) command fits has e =
    subst IsBounded (sym (deletes_from (entry_at (user_view shape list user).files (tag, version)) (commands.Delete user tag version) command e).1) tt

-- ---- what a user may spend

each_most : (users each most : ℕ) → 1 ≤ users → users * each ≤ most → each ≤ most
each_most zero each most some le = absurd (omega arith)
each_most (suc users) each most some le = omega (arith, le)

-- no limit is above what all users may hold together
record AreLimits (limits : SpentByUser) : Type 0 where
  owners : limits.owners ≤ 524288
  shares : limits.shares ≤ 8589934592
  recipes : limits.recipes ≤ 1073741824

limits_are : (rooms : UserRooms) (user : UserId) → AreRooms rooms → AreLimits (limits_of rooms user)
limits_are rooms user a = by_test (nat_lt user.0 rooms.users)
  where
    by_test : (b : Bool) → AreLimits (cond b (record { owners = rooms.owners; shares = rooms.shares; recipes = rooms.recipes }) nothing)
    by_test true = record { owners = each_most rooms.users rooms.owners _ a.some a.owners; shares = each_most rooms.users rooms.shares _ a.some a.shares; recipes = each_most rooms.users rooms.recipes _ a.some a.recipes }
    by_test false = record { owners = omega arith; shares = omega arith; recipes = omega arith }

files_are : (rooms : UserRooms) (user : UserId) → AreRooms rooms → files_limit rooms user ≤ 16384
files_are rooms user a = by_test (nat_lt user.0 rooms.users)
  where
    by_test : (b : Bool) → cond b rooms.files 0 ≤ 16384
    by_test true = each_most rooms.users rooms.files 16384 a.some a.files
    by_test false = omega arith

-- ---- what a user has spent

held_short : (list : List Command) (fp : Fp) → All IsShare (strings_in list) → length (held_bytes list fp) ≤ 8208
held_short list fp all = by_held (held_string list fp) refl
  where
    by_held : (o : Option (List ℕ)) → held_string list fp ≡ o → length (unwrap_or o []) ≤ 8208
    by_held None is = omega arith
    by_held (Some s) is = (All-contains IsShare (strings_in list) s all (held_is list fp s is).1).1

sum_most : (f : List ℕ → ℕ) (xs : List (List ℕ)) → ((x : List ℕ) → f x ≤ 8208) → sum_by f xs ≤ 8208 * length xs
sum_most f [] each = omega arith
sum_most f (x ∷ xs) each = omega (arith, sum_by-cons f x xs, each x, sum_most f xs each)

-- a user's strings with one Put more
strings_grow : (list : List Command) (user : UserId) (shares : List (List ℕ)) → length (strings_in (commands_of user (list ++ commands.Put user shares ∷ []))) ≤ (spent_of list user).owners + length shares
strings_grow list user shares =
    let more = ap strings_in (commands_more user list (commands.Put user shares ∷ [])) ∙ flat_map-append strings_of (commands_of user list) (commands_of user (commands.Put user shares ∷ [])) in
    let sum = ap (λ (l : List (List ℕ)). length l) more ∙ length-append (strings_in (commands_of user list)) (strings_in (commands_of user (commands.Put user shares ∷ []))) in
    let last = by_test (is_of user (commands.Put user shares)) in
    omega (arith, sum, last)
  where
    by_test : (b : Bool) → length (strings_in (cond b (commands.Put user shares ∷ []) [])) ≤ length shares
    by_test true = let all = ap (λ (l : List (List ℕ)). length l) (append-nil shares) in omega (arith, all)
    by_test false = omega arith

shares_most : (list : List Command) (user : UserId) → All IsShare (strings_in list) → (spent_of list user).shares ≤ 8208 * length (strings_in (commands_of user list))
shares_most list user all = sum_most (held_len list) (strings_in (commands_of user list)) (λ s. held_short list (fingerprint s) all)

-- ---- a full room

record IsSmall (full : FullRoom) : Type 0 where
  used : full.used < 2 ^ 64
  need : full.need < 2 ^ 64
  limit : full.limit < 2 ^ 64

full_of : Room → ℕ → ℕ → ℕ → FullRoom
full_of room used need limit = record { room = room; used = used; need = need; limit = limit }

refused_small : (room : Room) (used need limit : ℕ) (full : FullRoom) → used < 2 ^ 64 → need < 2 ^ 64 → limit < 2 ^ 64 → refusal room used need limit ≡ Some full → IsSmall full
unfolding full_of
refused_small room used need limit full small_used small_need small_limit e = by_test (nat_lt limit (used + need)) e
  where
    by_test : (b : Bool) → cond b (Some (full_of room used need limit)) None ≡ Some full → IsSmall full
    by_test true e =
        let same : full_of room used need limit ≡ full = cc in
        subst IsSmall same (record { used = small_used; need = small_need; limit = small_limit })
    by_test false e = absurd (let f : None ≡ Some full = e in cc)

either : (a b : Option FullRoom) (full : FullRoom) → (a ≡ Some full → IsSmall full) → (b ≡ Some full → IsSmall full) → option_or a b ≡ Some full → IsSmall full
either None b full one two e = two e
either (Some x) b full one two e = one e

module _ (shape : Shape) (rooms : UserRooms) (list : List Command) (within : IsWithin shape rooms list) (allowed : AreRooms rooms) where
  put_small : (user : UserId) (shares : List (List ℕ)) (full : FullRoom) → All IsShare (strings_in list) → length shares ≤ 256 → All IsShare shares
      → full_for shape rooms list (commands.Put user shares) ≡ Some full → IsSmall full
  unfolding full_for
  put_small user shares full all few each e =
      let used = spent_of list user in let limits = limits_of rooms user in
      let then = spent_of (list ++ commands.Put user shares ∷ []) user in
      let u = each_within shape rooms list user within in
      let l = limits_are rooms user allowed in
      let most = shares_most (list ++ commands.Put user shares ∷ []) user (all_strings user shares all each) in
      let grow = strings_grow list user shares in
      let owners = u.owners in let spent = u.shares in let owners_limit = l.owners in let shares_limit = l.shares in
      either (refusal names.Owners used.owners (length shares) limits.owners) (refusal names.Shares used.shares (then.shares - used.shares) limits.shares) full
      (refused_small names.Owners used.owners (length shares) limits.owners full (omega (arith, owners, owners_limit)) (omega (arith, few)) (omega (arith, owners_limit)))
      (refused_small names.Shares used.shares (then.shares - used.shares) limits.shares full (omega (arith, spent, shares_limit)) (omega (arith, most, grow, owners, owners_limit, few)) (omega (arith, shares_limit))) e
    where
      all_strings : (user : UserId) (shares : List (List ℕ)) → All IsShare (strings_in list) → All IsShare shares → All IsShare (strings_in (list ++ commands.Put user shares ∷ []))
      all_strings user shares all each =
          subst (All IsShare) (sym (flat_map-append strings_of list (commands.Put user shares ∷ []) ∙ ap (λ (l : List (List ℕ)). strings_in list ++ l) (append-nil shares)))
          (All-append IsShare (strings_in list) shares all each)

  commit_small : (user : UserId) (tag : Tag) (version : Version) (recipe : List ℕ) (full : FullRoom) → length recipe ≤ 1180190
      → full_for shape rooms list (commands.Commit user tag version recipe) ≡ Some full → IsSmall full
  unfolding full_for
  commit_small user tag version recipe full few e =
      let used = spent_of list user in let limits = limits_of rooms user in
      let u = each_within shape rooms list user within in
      let l = limits_are rooms user allowed in
      let most = files_are rooms user allowed in
      let files = u.files in let spent = u.recipes in let recipes_limit = l.recipes in
      either (refusal names.Files (files_of shape list user) 1 (files_limit rooms user)) (refusal names.Recipes used.recipes (length recipe) limits.recipes) full
      (refused_small names.Files (files_of shape list user) 1 (files_limit rooms user) full (omega (arith, files, most)) (omega arith) (omega (arith, most)))
      (refused_small names.Recipes used.recipes (length recipe) limits.recipes full (omega (arith, spent, recipes_limit)) (omega (arith, few)) (omega (arith, recipes_limit))) e

  delete_small : (user : UserId) (tag : Tag) (version : Version) (full : FullRoom) → full_for shape rooms list (commands.Delete user tag version) ≡ Some full → IsSmall full
  unfolding full_for
  delete_small user tag version full e = absurd (let f : None ≡ Some full = e in cc)

  full_small : (command : Command) (full : FullRoom) → All IsShare (strings_in list) → IsBounded command → full_for shape rooms list command ≡ Some full → IsSmall full
  full_small (commands.Put user shares) full all b e = put_small user shares full all b.0 b.1 e
  full_small (commands.Commit user tag version recipe) full all b e = commit_small user tag version recipe full b e
  full_small (commands.Delete user tag version) full all b e = delete_small user tag version full e

  module _ (cloud : ℕ) (request : Request) (sound : IsSound shape cloud list) (small : cloud < 256) (fits : FitsRequest request) (has : HasRecipe shape request) where
    fits_by_room : (command : Command) (room : Option FullRoom) → (answer_over shape cloud list request).adds ≡ Some command → full_for shape rooms list command ≡ room
        → FitsReply (by_room (answer_over shape cloud list request) room).reply
    fits_by_room command None adds is = (suits shape cloud list request sound small fits has).fits
    fits_by_room command (Some full) adds is =
        let s = full_small command full (strings_fit shape cloud list sound) (bounded shape cloud list request command fits has adds) is in
        (tt, (s.used, (s.need, s.limit)))

    fits_by : (adds : Option Command) → (answer_over shape cloud list request).adds ≡ adds
        → FitsReply (by_room (answer_over shape cloud list request) (room_for (full_for shape rooms list) adds)).reply
    fits_by None is = (suits shape cloud list request sound small fits has).fits
    fits_by (Some command) is = fits_by_room command (full_for shape rooms list command) is refl

    pub reply_fits : FitsReply (served_by rooms shape cloud list request).reply
    reply_fits = fits_by (answer_over shape cloud list request).adds refl
