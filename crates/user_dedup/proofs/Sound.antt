-- What holds of sound lists.
use Rattle.std.proofs.Common.{◌≡◌, ℕ, List, [], ◌∷◌, ◌++◌, length, get_or, map, Option, Some, None, refl, sym, ap, subst, arith, inl, inr, ◌⊎◌}
use Rattle.std.specs.Prelude.{All, IsSome}
use Rattle.std.specs.List.{Contains}
use Rattle.std.proofs.lemmas.Bool.{cases_eq}
use Rattle.std.proofs.lemmas.List.{length-append}
use Rattle.std.proofs.lemmas.List.Elements.{All-weaker, All-contains, Contains-get_or, Contains-append_left, Contains-push_cases}
use Rattle.journal_start.specs.CdBase.ids.Tag.{Tag}
use Rattle.journal_start.specs.CdBase.ids.UserId.{UserId}
use Rattle.journal_start.specs.CdBase.ids.Version.{Version}
use Rattle.journal_start.specs.CdBase.shape.Shape.{Shape}
use Rattle.messages.specs.declared.request.Request.TheVariants as requests
use Rattle.messages.specs.declared.request.Request.{Request}
use Rattle.user_dedup.specs.declared.file_list.FileEntry.{FileEntry}
use Rattle.user_dedup.specs.declared.view.View.{View}
use Rattle.user_dedup.specs.Owning.{first_lacking, FindsLacking, new_strings}
use Rattle.user_dedup.specs.Pages.{entry_at, AreApart}
use Rattle.user_dedup.specs.Requests.{fps_of, asker}
use Rattle.user_dedup.proofs.Owned.{finds, contains_nothing}
pub use Rattle.user_dedup.proofs.EntryLists.{found_entry, no_entry}
use Rattle.user_dedup.proofs.EntryLists.{apart_push}
use Rattle.user_dedup.specs.declared.command.Command.{Command}
use Rattle.user_dedup.specs.declared.command.Command.TheVariants as commands
use Rattle.user_dedup.specs.Cloud.{fingerprint, no_view, user_of, view_after, user_view, without_entry, deletion}
use Rattle.user_dedup.specs.Dedup.{put_outcome, commit_outcome, delete_outcome, answer_over, IsSound, Begun, Added, IsAddedCommand}
use Rattle.user_dedup.proofs.Views.{own_adds, others_stay}
use Rattle.user_dedup.proofs.Deleting.{entries_left, apart_left, own_named}

-- ---- one command

-- where a view's user enters a version, nothing is lacking and no entry has its key; where the user takes one out, it is there
abbrev LawfulIn : Shape → View → Command → Type 0
LawfulIn shape v (commands.Put user shares) = Unit {0}
LawfulIn shape v (commands.Commit user tag version recipe) = (first_lacking v.own (fps_of shape recipe) ≡ None) × (entry_at v.files (tag, version) ≡ None)
LawfulIn shape v (commands.Delete user tag version) = IsSome (entry_at v.files (tag, version))

abbrev AddsFor : Shape → List Command → UserId → Command → Type 0
AddsFor shape list user command = LawfulIn shape (user_view shape list (user_of command)) command × (user_of command ≡ user)

pub put_adds : (user : UserId) (ss : List (List ℕ)) (command : Command) → (put_outcome user ss).adds ≡ Some command → command ≡ commands.Put user ss
put_adds user [] command e = absurd (let no : None ≡ Some command = e in cc)
put_adds user (s ∷ ss) command e = let f : Some (commands.Put user (s ∷ ss)) ≡ Some command = e in cc

pub commit_adds : (lack : Option ℕ) (entry : Option FileEntry) (c : Command) (recipe : List ℕ) (command : Command) → (commit_outcome lack entry c recipe).adds ≡ Some command
    → (lack ≡ None) × (entry ≡ None) × (command ≡ c)
commit_adds (Some place) entry c recipe command e = absurd (let no : None ≡ Some command = e in cc)
commit_adds None (Some entry) c recipe command e = absurd (let no : None ≡ Some command = e in cc)
commit_adds None None c recipe command e = (refl, refl, let f : Some c ≡ Some command = e in cc)

pub deletes_from : (entry : Option FileEntry) (c command : Command) → (delete_outcome entry c).adds ≡ Some command → IsSome entry × (command ≡ c)
deletes_from None c command e = absurd (let no : None ≡ Some command = e in cc)
deletes_from (Some entry) c command e = (refl, let f : Some c ≡ Some command = e in cc)

adds_for : (shape : Shape) (cloud : ℕ) (list : List Command) (request : Request) (command : Command) → (answer_over shape cloud list request).adds ≡ Some command
    → AddsFor shape list (asker request) command
adds_for shape cloud list requests.Hello command e = absurd (let no : None ≡ Some command = e in cc)
adds_for shape cloud list (requests.Query user fps) command e = absurd (let no : None ≡ Some command = e in cc)
adds_for shape cloud list (requests.Put user shares) command e =
    subst (AddsFor shape list user) (sym (put_adds user (new_strings (user_view shape list user).own shares) command e)) (tt, refl)
adds_for shape cloud list (requests.Commit user tag version recipe) command e =
    let a = commit_adds (first_lacking (user_view shape list user).own (fps_of shape recipe)) (entry_at (user_view shape list user).files (tag, version)) (commands.Commit user tag version recipe) recipe command e in
    subst (AddsFor shape list user) (sym a.2) ((a.0, a.1), refl)
adds_for shape cloud list (requests.GetRecipe user tag version) command e = absurd (let no : None ≡ Some command = e in cc)
adds_for shape cloud list (requests.GetShares user fps) command e = absurd (let no : None ≡ Some command = e in cc)
adds_for shape cloud list (requests.List user after) command e = absurd (let no : None ≡ Some command = e in cc)
adds_for shape cloud list (requests.Delete user tag version) command e =
    let d = deletes_from (entry_at (user_view shape list user).files (tag, version)) (commands.Delete user tag version) command e in
    subst (AddsFor shape list user) (sym d.1) (d.0, refl)

pub by_asker : (shape : Shape) (cloud : ℕ) (list : List Command) (request : Request) (command : Command) → (answer_over shape cloud list request).adds ≡ Some command
    → user_of command ≡ asker request
by_asker shape cloud list request command e = (adds_for shape cloud list request command e).1

-- ---- rules

record KeepsRules (shape : Shape) (v : View) : Type 0 where
  pub apart : AreApart v.files
  pub owned : (entry : FileEntry) → Contains v.files entry → All (Contains v.own) (fps_of shape entry.recipe)

rules_begun : (shape : Shape) → KeepsRules shape no_view
rules_begun shape = record { apart = λ i j a b at_i at_j same. absurd (let no : None ≡ Some a = at_i in cc); owned = λ entry c. absurd (contains_nothing entry c) }

pub contained : {X : Type 0} (P : X → Type 0) (xs : List X) → ((x : X) → Contains xs x → P x) → All P xs
contained P xs each k d below = each (get_or xs k d) (Contains-get_or xs k d below)

rules_step : (shape : Shape) (v : View) (command : Command) → LawfulIn shape v command → KeepsRules shape v → KeepsRules shape (view_after shape v command)
rules_step shape v (commands.Put user shares) lawful k = record {
  apart = k.apart;
  owned = λ entry c. All-weaker (Contains v.own) (Contains (v.own ++ map fingerprint shares)) (λ fp o. Contains-append_left v.own (map fingerprint shares) fp o) (fps_of shape entry.recipe) (k.owned entry c);
}
rules_step shape v (commands.Commit user tag version recipe) lawful k = record {
  apart = apart_push v.files (record { tag = tag; version = version; recipe = recipe }) k.apart lawful.1;
  owned = λ entry c.
      elim (Contains-push_cases v.files (record { tag = tag; version = version; recipe = recipe }) entry c) [
        | inl old ↦ k.owned entry old
        | inr same ↦ subst (λ (x : FileEntry). All (Contains v.own) (fps_of shape x.recipe)) same (subst (FindsLacking v.own (fps_of shape recipe)) lawful.0 (finds v.own (fps_of shape recipe)))
      ];
}
rules_step shape v (commands.Delete user tag version) lawful k = record {
  apart = apart_left (tag, version) v.files k.apart;
  owned = λ entry c.
      let left = entries_left (tag, version) v.files entry c in
      contained (Contains (without_entry shape (tag, version) v).own) (fps_of shape entry.recipe)
      (λ fp names. own_named shape (tag, version) v fp (All-contains (Contains v.own) (fps_of shape entry.recipe) fp (k.owned entry left.0) names)
      (record { entry = entry; here = left.0; other = left.1; names = names }));
}

-- ---- lists

rules : (shape : Shape) (cloud : ℕ) (list : List Command) → IsSound shape cloud list → (user : UserId) → KeepsRules shape (user_view shape list user)
rules shape cloud list Begun user = rules_begun shape
rules shape cloud list (Added before request command sound fits recipe adds) user =
    by_user (cases_eq (user_of command).0 user.0) (rules shape cloud before sound user)
  where
    by_user : ((user_of command).0 ≡ user.0) ⊎ ((user_of command).0 ≡ user.0 → ⊥) → KeepsRules shape (user_view shape before user) → KeepsRules shape (user_view shape (before ++ command ∷ []) user)
    by_user (inl same) k =
        let user_is : user_of command ≡ user = λ i. record { 0 = same i } in
        subst (KeepsRules shape) (sym (own_adds shape before command user same))
        (rules_step shape (user_view shape before user) command
        (subst (λ (u : UserId). LawfulIn shape (user_view shape before u) command) user_is (adds_for shape cloud before request command adds).0) k)
    by_user (inr other) k = subst (KeepsRules shape) (sym (others_stay shape before command user other)) k

pub keys_apart : (shape : Shape) (cloud : ℕ) (list : List Command) (user : UserId) → IsSound shape cloud list → AreApart (user_view shape list user).files
keys_apart shape cloud list user sound = (rules shape cloud list sound user).apart

pub entries_owned : (shape : Shape) (cloud : ℕ) (list : List Command) (user : UserId) (entry : FileEntry) → IsSound shape cloud list
    → Contains (user_view shape list user).files entry → All (Contains (user_view shape list user).own) (fps_of shape entry.recipe)
entries_owned shape cloud list user entry sound c = (rules shape cloud list sound user).owned entry c

nothing_behind : {A : Type 0} (xs : List A) (x : A) → [] ≡ xs ++ x ∷ [] → ⊥
nothing_behind xs x e = let n = ap length e in omega (arith, length-append xs (x ∷ []), n)

pub last_same : {A : Type 0} (xs ys : List A) (x y : A) → xs ++ x ∷ [] ≡ ys ++ y ∷ [] → (xs ≡ ys) × (x ≡ y)
last_same [] [] x y e = (refl, let f : x ∷ [] ≡ y ∷ [] = e in cc)
last_same [] (b ∷ ys) x y e = absurd (nothing_behind ys y (let f : x ∷ [] ≡ b ∷ (ys ++ y ∷ []) = e in cc))
last_same (a ∷ xs) [] x y e = absurd (nothing_behind xs x (let f : y ∷ [] ≡ a ∷ (xs ++ x ∷ []) = sym e in cc))
last_same (a ∷ xs) (b ∷ ys) x y e =
    let f : a ∷ (xs ++ x ∷ []) ≡ b ∷ (ys ++ y ∷ []) = e in
    let head : a ≡ b = cc in
    let tail : xs ++ x ∷ [] ≡ ys ++ y ∷ [] = cc in
    let rest = last_same xs ys x y tail in
    ((λ i. head i ∷ rest.0 i), rest.1)

-- the last command of a sound list was added to those before it
pub sound_before : (shape : Shape) (cloud : ℕ) (list : List Command) (command : Command) → IsSound shape cloud (list ++ command ∷ []) → IsAddedCommand shape cloud list command
sound_before shape cloud list command sound = go (list ++ command ∷ []) sound refl
  where
    go : (l : List Command) → IsSound shape cloud l → l ≡ list ++ command ∷ [] → IsAddedCommand shape cloud list command
    go l Begun e = absurd (nothing_behind list command e)
    go l (Added before request last sound fits recipe adds) e =
        let s = last_same before list last command e in
        subst (IsAddedCommand shape cloud list) s.1 (subst (λ (l : List Command). IsAddedCommand shape cloud l last) s.0
        (record { sound = sound; request = request; fits = fits; recipe = recipe; adds = adds }))

-- what a sound list takes out was there
pub was_there : (shape : Shape) (cloud : ℕ) (list : List Command) (user : UserId) (key : Tag × Version) → IsSound shape cloud (list ++ deletion user key ∷ [])
    → IsSome (entry_at (user_view shape list user).files key)
was_there shape cloud list user key sound =
    let added = sound_before shape cloud list (deletion user key) sound in
    (adds_for shape cloud list added.request (deletion user key) added.adds).0
