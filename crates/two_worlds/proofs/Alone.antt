-- What a cloud serves a user follows from the user's own commands, where no two strings share a SHA-256.
use Rattle.std.proofs.Common.{◌≡◌, ◌≢◌, ℕ, Bool, true, false, cond, List, [], ◌∷◌, ◌++◌, Option, Some, None, refl, sym, ap, ◌∙◌, subst, inl, inr, ◌⊎◌, eq-eqb, append-nil}
use Rattle.std.specs.Prelude.{filter, fold, option_to_list, unwrap_or}
use Rattle.std.specs.List.{Contains}
use Rattle.std.proofs.lemmas.Bool.{ne_eqb}
use Rattle.std.proofs.lemmas.List.Elements.{filter-append, Contains-append_cases}
use Rattle.std.proofs.lemmas.Grind.{flat_map-append}
use Rattle.recipe.specs.CdBase.ids.Fp.{Fp}
use Rattle.recipe.specs.CdBase.ids.UserId.{UserId}
use Rattle.recipe.specs.CdBase.shape.Shape.{Shape}
use Rattle.session_model.specs.JournalStart.rooms.UserRooms.{UserRooms}
use Rattle.session_model.specs.Messages.request.Request.{Request}
use Rattle.session_model.specs.Messages.request.Request.TheVariants as requests
use Rattle.session_model.specs.UserDedup.command.Command.{Command}
use Rattle.session_model.specs.UserDedup.command.Command.TheVariants as commands
use Rattle.session_model.specs.UserDedup.view.View.{View}
use Rattle.session_model.specs.UserDedup.Cloud.{fingerprint, no_view, view_after, is_of, user_of, commands_of, user_view, held_string, strings_of, strings_in}
use Rattle.session_model.specs.UserDedup.Owning.{is_among, first_lacking, new_strings}
use Rattle.session_model.specs.UserDedup.Pages.{entry_at}
use Rattle.session_model.specs.UserDedup.Requests.{asker, fps_of}
use Rattle.session_model.specs.UserDedup.Dedup.{Outcome, FullRoom, HeldAlike, answer_over, room_for, by_room, unless_full}
use Rattle.session_model.specs.UserDedup.Spending.{full_for, HoldsItself}
use Rattle.session_model.proofs.UserDedup.Owned.{contains_here, contains_later, contains_nothing, contains_cases}
use Rattle.session_model.proofs.UserDedup.Views.{strings_among, sent_is_held, held_is, owned_is_held}
use Rattle.session_model.proofs.UserDedup.Spending.{full_alone}
use Rattle.session_model.proofs.UserDedup.Replies.{same_reply}
use Rattle.session_model.proofs.UserDedup.Sound.{put_adds, commit_adds, deletes_from, by_asker}
use Rattle.two_worlds.specs.Worlds.{sent_strings}
use Rattle.session_model.specs.UserDedup.Exec.{served}

-- strings of which no two share a SHA-256
abbrev pub Apart : (List ℕ → Type 0) → Type 0
Apart Is = (one other : List ℕ) → Is one → Is other → fingerprint one ≡ fingerprint other → one ≡ other

pub filter_twice : {A : Type 0} (p : A → Bool) (xs : List A) → filter p (filter p xs) ≡ filter p xs
filter_twice p [] = refl
filter_twice {A} p (x ∷ xs) = by_test (p x) refl (filter_twice p xs)
  where
    by_test : (b : Bool) → p x ≡ b → filter p (filter p xs) ≡ filter p xs → filter p (cond b (x ∷ filter p xs) (filter p xs)) ≡ cond b (x ∷ filter p xs) (filter p xs)
    by_test true h rest = rw h (ap (λ (l : List A). x ∷ l) rest)
    by_test false h rest = rest

-- ---- views and strings

module _ (shape : Shape) (u : UserId) where
  pub same_commands : (list : List Command) → commands_of u (commands_of u list) ≡ commands_of u list
  same_commands list = filter_twice (is_of u) list

  pub same_view : (list : List Command) → user_view shape (commands_of u list) u ≡ user_view shape list u
  same_view list = ap (λ (l : List Command). fold (view_after shape) no_view l) (same_commands list)

  pub same_held : (list : List Command) → Apart (Contains (strings_in list)) → (fp : Fp) → Contains (user_view shape list u).own fp
      → held_string (commands_of u list) fp ≡ held_string list fp
  same_held list apart fp c =
      let all = owned_is_held shape list u fp c in
      let own = owned_is_held shape (commands_of u list) u fp (subst (λ (v : View). Contains v.own fp) (sym (same_view list)) c) in
      let there = strings_among (is_of u) list own.0 (held_is (commands_of u list) fp own.0 own.1).1 in
      own.1 ∙ ap (λ (x : List ℕ). Some x) (apart own.0 all.0 there (held_is list fp all.0 all.1).1 (own.2 ∙ sym all.2)) ∙ sym all.1

  alike : (list : List Command) → Apart (Contains (strings_in list)) → (request : Request) → asker request ≡ u
      → HeldAlike (user_view shape list (asker request)) (held_string list) (held_string (commands_of u list)) request
  alike list apart requests.Hello same = tt
  alike list apart (requests.Query user fps) same = tt
  alike list apart (requests.Put user shares) same = tt
  alike list apart (requests.Commit user tag version recipe) same = tt
  alike list apart (requests.GetRecipe user tag version) same = tt
  alike list apart (requests.GetShares user fps) same =
      λ fp c o. sym (same_held list apart fp (subst (λ (w : UserId). Contains (user_view shape list w).own fp) same o))
  alike list apart (requests.List user after) same = tt
  alike list apart (requests.Delete user tag version) same = tt

  pub answer_alike : (cloud : ℕ) (list : List Command) → Apart (Contains (strings_in list)) → (request : Request) → asker request ≡ u
      → answer_over shape cloud (commands_of u list) request ≡ answer_over shape cloud list request
  answer_alike cloud list apart request same =
      same_reply shape cloud list (commands_of u list) request
      (subst (λ (w : UserId). user_view shape (commands_of u list) w ≡ user_view shape list w) (sym same) (same_view list))
      (alike list apart request same)

-- ---- rooms

-- where no two of its strings share a SHA-256, a list holds each of its strings
pub holds_itself : (list : List Command) → Apart (Contains (strings_in list)) → HoldsItself list
holds_itself list apart s c =
    let h = sent_is_held list (fingerprint s) (s, c, refl) in
    ap (λ (o : Option (List ℕ)). unwrap_or o []) h.1 ∙ apart h.0 s (held_is list (fingerprint s) h.0 h.1).1 c h.2

new_among : (own : List Fp) (sent : List (List ℕ)) (x : List ℕ) → Contains (new_strings own sent) x → Contains sent x
new_among own [] x c = c
new_among own (s ∷ sent) x c = by_test (is_among own (fingerprint s)) (new_among own sent x) (new_among (own ++ fingerprint s ∷ []) sent x) c
  where
    by_test : (b : Bool) → (Contains (new_strings own sent) x → Contains sent x) → (Contains (new_strings (own ++ fingerprint s ∷ []) sent) x → Contains sent x)
        → Contains (cond b (new_strings own sent) (s ∷ new_strings (own ++ fingerprint s ∷ []) sent)) x → Contains (s ∷ sent) x
    by_test true had new h = contains_later s sent x (had h)
    by_test false had new h = elim (contains_cases s (new_strings (own ++ fingerprint s ∷ []) sent) x h) [
      | inl same ↦ subst (Contains (s ∷ sent)) same (contains_here s sent)
      | inr later ↦ contains_later s sent x (new later)
    ]

-- the strings of the command that a request adds were sent with it
pub adds_sent : (shape : Shape) (cloud : ℕ) (list : List Command) (request : Request) (command : Command) → (answer_over shape cloud list request).adds ≡ Some command
    → (x : List ℕ) → Contains (strings_of command) x → Contains (sent_strings request) x
adds_sent shape cloud list requests.Hello command e x c = absurd (let no : None ≡ Some command = e in cc)
adds_sent shape cloud list (requests.Query user fps) command e x c = absurd (let no : None ≡ Some command = e in cc)
adds_sent shape cloud list (requests.Put user shares) command e x c =
    let own = (user_view shape list user).own in
    new_among own shares x (subst (λ (d : Command). Contains (strings_of d) x) (put_adds user (new_strings own shares) command e) c)
adds_sent shape cloud list (requests.Commit user tag version recipe) command e x c =
    let a = commit_adds (first_lacking (user_view shape list user).own (fps_of shape recipe))
    (entry_at (user_view shape list user).files (tag, version)) (commands.Commit user tag version recipe) recipe command e in
    subst (λ (d : Command). Contains (strings_of d) x) a.2 c
adds_sent shape cloud list (requests.GetRecipe user tag version) command e x c = absurd (let no : None ≡ Some command = e in cc)
adds_sent shape cloud list (requests.GetShares user fps) command e x c = absurd (let no : None ≡ Some command = e in cc)
adds_sent shape cloud list (requests.List user after) command e x c = absurd (let no : None ≡ Some command = e in cc)
adds_sent shape cloud list (requests.Delete user tag version) command e x c =
    let a = deletes_from (entry_at (user_view shape list user).files (tag, version)) (commands.Delete user tag version) command e in
    subst (λ (d : Command). Contains (strings_of d) x) a.1 c

-- the strings of a list, and those that are sent with a request
abbrev pub Among : List Command → Request → List ℕ → Type 0
Among list request x = Contains (strings_in list) x ⊎ Contains (sent_strings request) x

module _ (shape : Shape) (rooms : UserRooms) (cloud : ℕ) (u : UserId) where
  apart_front : (list : List Command) (request : Request) → Apart (Among list request) → Apart (Contains (strings_in list))
  apart_front list request apart one other a b = apart one other (inl a) (inl b)

  -- the strings of a list behind the command that the request adds
  behind : (list some : List Command) (request : Request) (command : Command) → (answer_over shape cloud list request).adds ≡ Some command
      → ((x : List ℕ) → Contains (strings_in some) x → Contains (strings_in list) x)
      → (x : List ℕ) → Contains (strings_in (some ++ command ∷ [])) x → Among list request x
  behind list some request command e among x c =
      elim (Contains-append_cases (strings_in some) (strings_in (command ∷ [])) x (subst (λ (l : List (List ℕ)). Contains l x) (flat_map-append strings_of some (command ∷ [])) c)) [
        | inl here ↦ inl (among x here)
        | inr last ↦ elim (Contains-append_cases (strings_of command) [] x last) [
          | inl new ↦ inr (adds_sent shape cloud list request command e x new)
          | inr none ↦ absurd (contains_nothing x none)
        ]
      ]

  full_alike : (list : List Command) (request : Request) → asker request ≡ u → Apart (Among list request) → (command : Command)
      → (answer_over shape cloud list request).adds ≡ Some command
      → full_for shape rooms (commands_of u list) command ≡ full_for shape rooms list command
  full_alike list request same apart command e =
      let own : user_of command ≡ u = by_asker shape cloud list request command e ∙ same in
      full_alone shape rooms (commands_of u list) list command
      (subst (λ (w : UserId). commands_of w (commands_of u list) ≡ commands_of w list) (sym own) (same_commands shape u list))
      (holds_itself (commands_of u list ++ command ∷ []) (λ one other a b.
      apart one other (behind list (commands_of u list) request command e (strings_among (is_of u) list) one a)
      (behind list (commands_of u list) request command e (strings_among (is_of u) list) other b)))
      (holds_itself (list ++ command ∷ []) (λ one other a b.
      apart one other (behind list list request command e (λ x c. c) one a) (behind list list request command e (λ x c. c) other b)))

  room_alike : (list : List Command) (request : Request) → asker request ≡ u → Apart (Among list request) → (o : Option Command)
      → (answer_over shape cloud list request).adds ≡ o
      → room_for (full_for shape rooms (commands_of u list)) o ≡ room_for (full_for shape rooms list) o
  room_alike list request same apart None e = refl
  room_alike list request same apart (Some command) e = full_alike list request same apart command e

  -- what a cloud serves the user is what it serves by the user's own commands
  pub served_alike : (list : List Command) (request : Request) → asker request ≡ u → Apart (Among list request)
      → served shape cloud (full_for shape rooms) (commands_of u list) request ≡ served shape cloud (full_for shape rooms) list request
  served_alike list request same apart =
      let o = answer_over shape cloud list request in
      ap (unless_full (full_for shape rooms (commands_of u list))) (answer_alike shape u cloud list (apart_front list request apart) request same)
      ∙ ap (by_room o) (room_alike list request same apart o.adds refl)

  room_adds : (o : Outcome) (room : Option FullRoom) (command : Command) → (by_room o room).adds ≡ Some command → o.adds ≡ Some command
  room_adds o None command e = e
  room_adds o (Some full) command e = absurd (let no : None ≡ Some command = e in cc)

  pub served_adds : (list : List Command) (request : Request) (command : Command) → (served shape cloud (full_for shape rooms) list request).adds ≡ Some command
      → (answer_over shape cloud list request).adds ≡ Some command
  served_adds list request command e =
      let o = answer_over shape cloud list request in
      room_adds o (room_for (full_for shape rooms list) o.adds) command e

-- ---- a user's commands behind what is added

added_own : (u : UserId) (o : Option Command) → ((command : Command) → o ≡ Some command → (user_of command).0 ≡ u.0) → commands_of u (option_to_list o) ≡ option_to_list o
added_own u None own = refl
added_own u (Some command) own = ap (λ (b : Bool). cond b (command ∷ []) []) (eq-eqb (user_of command).0 u.0 (own command refl))

added_other : (u : UserId) (o : Option Command) → ((command : Command) → o ≡ Some command → (user_of command).0 ≢ u.0) → commands_of u (option_to_list o) ≡ []
added_other u None other = refl
added_other u (Some command) other = ap (λ (b : Bool). cond b (command ∷ []) []) (ne_eqb (user_of command).0 u.0 (other command refl))

pub own_behind : (u : UserId) (list : List Command) (o : Option Command) → ((command : Command) → o ≡ Some command → (user_of command).0 ≡ u.0)
    → commands_of u (list ++ option_to_list o) ≡ commands_of u list ++ option_to_list o
own_behind u list o own = filter-append (is_of u) list (option_to_list o) ∙ ap (λ (l : List Command). commands_of u list ++ l) (added_own u o own)

pub other_behind : (u : UserId) (list : List Command) (o : Option Command) → ((command : Command) → o ≡ Some command → (user_of command).0 ≢ u.0)
    → commands_of u (list ++ option_to_list o) ≡ commands_of u list
other_behind u list o other =
    filter-append (is_of u) list (option_to_list o) ∙ ap (λ (l : List Command). commands_of u list ++ l) (added_other u o other)
    ∙ append-nil (commands_of u list)
