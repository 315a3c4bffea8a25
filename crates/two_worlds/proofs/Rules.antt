-- What a user's entries name is owned, and stays so.
use Rattle.std.proofs.Common.{◌≡◌, ℕ, List, [], ◌∷◌, ◌++◌, map, Some, None, sym, subst, inl, inr, ◌⊎◌}
use Rattle.std.specs.Prelude.{All}
use Rattle.std.specs.List.{Contains}
use Rattle.std.proofs.lemmas.Bool.{cases_eq}
use Rattle.std.proofs.lemmas.List.Elements.{All-weaker, All-contains, Contains-append_left, Contains-push_cases}
use Rattle.recipe.specs.CdBase.ids.UserId.{UserId}
use Rattle.recipe.specs.CdBase.shape.Shape.{Shape}
use Rattle.session_model.specs.Messages.request.Request.{Request}
use Rattle.session_model.specs.Messages.request.Request.TheVariants as requests
use Rattle.session_model.specs.UserDedup.command.Command.{Command}
use Rattle.session_model.specs.UserDedup.command.Command.TheVariants as commands
use Rattle.session_model.specs.UserDedup.file_list.FileEntry.{FileEntry}
use Rattle.session_model.specs.UserDedup.view.View.{View}
use Rattle.session_model.specs.UserDedup.Cloud.{fingerprint, no_view, user_of, view_after, user_view, without_entry}
use Rattle.session_model.specs.UserDedup.Owning.{first_lacking, FindsLacking, new_strings}
use Rattle.session_model.specs.UserDedup.Pages.{entry_at}
use Rattle.session_model.specs.UserDedup.Requests.{fps_of}
use Rattle.session_model.specs.UserDedup.Dedup.{answer_over}
use Rattle.session_model.proofs.UserDedup.Owned.{finds, contains_nothing}
use Rattle.session_model.proofs.UserDedup.Deleting.{entries_left, own_named}
use Rattle.session_model.proofs.UserDedup.Sound.{put_adds, commit_adds, deletes_from, contained}
use Rattle.session_model.proofs.UserDedup.Views.{own_adds, others_stay}

-- where a view's user enters a version, nothing is lacking
abbrev NamesOwned : Shape → View → Command → Type 0
NamesOwned shape v (commands.Put user shares) = Unit {0}
NamesOwned shape v (commands.Commit user tag version recipe) = first_lacking v.own (fps_of shape recipe) ≡ None
NamesOwned shape v (commands.Delete user tag version) = Unit {0}

abbrev NamesOwnedIn : Shape → List Command → Command → Type 0
NamesOwnedIn shape list command = NamesOwned shape (user_view shape list (user_of command)) command

names_owned : (shape : Shape) (cloud : ℕ) (list : List Command) (request : Request) (command : Command) → (answer_over shape cloud list request).adds ≡ Some command
    → NamesOwnedIn shape list command
names_owned shape cloud list requests.Hello command e = absurd (let no : None ≡ Some command = e in cc)
names_owned shape cloud list (requests.Query user fps) command e = absurd (let no : None ≡ Some command = e in cc)
names_owned shape cloud list (requests.Put user shares) command e =
    subst (NamesOwnedIn shape list) (sym (put_adds user (new_strings (user_view shape list user).own shares) command e)) tt
names_owned shape cloud list (requests.Commit user tag version recipe) command e =
    let a = commit_adds (first_lacking (user_view shape list user).own (fps_of shape recipe)) (entry_at (user_view shape list user).files (tag, version)) (commands.Commit user tag version recipe) recipe command e in
    subst (NamesOwnedIn shape list) (sym a.2) a.0
names_owned shape cloud list (requests.GetRecipe user tag version) command e = absurd (let no : None ≡ Some command = e in cc)
names_owned shape cloud list (requests.GetShares user fps) command e = absurd (let no : None ≡ Some command = e in cc)
names_owned shape cloud list (requests.List user after) command e = absurd (let no : None ≡ Some command = e in cc)
names_owned shape cloud list (requests.Delete user tag version) command e =
    subst (NamesOwnedIn shape list) (sym (deletes_from (entry_at (user_view shape list user).files (tag, version)) (commands.Delete user tag version) command e).1) tt

-- ---- what entries name is owned

abbrev pub EntriesOwned : Shape → View → Type 0
EntriesOwned shape v = (entry : FileEntry) → Contains v.files entry → All (Contains v.own) (fps_of shape entry.recipe)

pub none_owned : (shape : Shape) → EntriesOwned shape no_view
none_owned shape entry c = absurd (contains_nothing entry c)

owned_step : (shape : Shape) (v : View) (command : Command) → NamesOwned shape v command → EntriesOwned shape v → EntriesOwned shape (view_after shape v command)
owned_step shape v (commands.Put user shares) named k =
    λ entry c. All-weaker (Contains v.own) (Contains (v.own ++ map fingerprint shares)) (λ fp o. Contains-append_left v.own (map fingerprint shares) fp o) (fps_of shape entry.recipe) (k entry c)
owned_step shape v (commands.Commit user tag version recipe) named k =
    λ entry c.
    elim (Contains-push_cases v.files (record { tag = tag; version = version; recipe = recipe }) entry c) [
      | inl old ↦ k entry old
      | inr same ↦ subst (λ (x : FileEntry). All (Contains v.own) (fps_of shape x.recipe)) same (subst (FindsLacking v.own (fps_of shape recipe)) named (finds v.own (fps_of shape recipe)))
    ]
owned_step shape v (commands.Delete user tag version) named k =
    λ entry c.
    let left = entries_left (tag, version) v.files entry c in
    contained (Contains (without_entry shape (tag, version) v).own) (fps_of shape entry.recipe)
    (λ fp names. own_named shape (tag, version) v fp (All-contains (Contains v.own) (fps_of shape entry.recipe) fp (k entry left.0) names)
    (record { entry = entry; here = left.0; other = left.1; names = names }))

-- a command that some request adds keeps every user's view so
pub owned_more : (shape : Shape) (cloud : ℕ) (list : List Command) (request : Request) (command : Command) (user : UserId)
    → (answer_over shape cloud list request).adds ≡ Some command → EntriesOwned shape (user_view shape list user)
    → EntriesOwned shape (user_view shape (list ++ command ∷ []) user)
owned_more shape cloud list request command user adds k = by_user (cases_eq (user_of command).0 user.0)
  where
    by_user : ((user_of command).0 ≡ user.0) ⊎ ((user_of command).0 ≡ user.0 → ⊥) → EntriesOwned shape (user_view shape (list ++ command ∷ []) user)
    by_user (inl same) =
        let user_is : user_of command ≡ user = λ i. record { 0 = same i } in
        subst (EntriesOwned shape) (sym (own_adds shape list command user same))
        (owned_step shape (user_view shape list user) command
        (subst (λ (u : UserId). NamesOwned shape (user_view shape list u) command) user_is (names_owned shape cloud list request command adds)) k)
    by_user (inr other) = subst (EntriesOwned shape) (sym (others_stay shape list command user other)) k
