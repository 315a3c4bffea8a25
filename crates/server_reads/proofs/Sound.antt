-- What sound lists bring: shares and recipes of the lengths that they may have.
use Rattle.std.proofs.Common.{◌≡◌, ℕ, ◌≤◌, List, [], ◌∷◌, ◌++◌, length, Some, None, sym, ap, subst, arith, inl, inr, ◌⊎◌, append-nil}
use Rattle.std.specs.Prelude.{All}
use Rattle.std.specs.List.{Contains, flat_map}
use Rattle.std.proofs.lemmas.Bool.{cases_eq}
use Rattle.std.proofs.lemmas.List.Elements.{All-nil, All-append, All-contains, Contains-push_cases}
use Rattle.std.proofs.lemmas.Grind.{flat_map-append}
use Rattle.cloud_memory.specs.CdBase.ids.UserId.{UserId}
use Rattle.cloud_memory.specs.CdBase.shape.Shape.{Shape}
use Rattle.messages.specs.MessageFields.Shares.{IsShare}
use Rattle.cloud_memory.specs.Recipe.recipe.Recipe.{Recipe}
use Rattle.cloud_memory.specs.Recipe.Spelling.{IsRecipe}
use Rattle.cloud_memory.proofs.Recipe.Written.{longest}
use Rattle.messages.specs.declared.request.Request.{Request}
use Rattle.messages.specs.declared.request.Request.TheVariants as requests
use Rattle.messages.specs.Requests.{FitsRequest}
use Rattle.cloud_memory.specs.UserDedup.command.Command.{Command}
use Rattle.cloud_memory.specs.UserDedup.command.Command.TheVariants as commands
use Rattle.cloud_memory.specs.UserDedup.file_list.FileEntry.{FileEntry}
use Rattle.cloud_memory.specs.UserDedup.Cloud.{user_of, view_after, user_view, strings_of}
use Rattle.cloud_memory.specs.UserDedup.Owning.{first_lacking, new_strings}
use Rattle.cloud_memory.specs.UserDedup.Pages.{entry_at}
use Rattle.cloud_memory.specs.UserDedup.Requests.{fps_of, HasRecipe}
use Rattle.cloud_memory.specs.UserDedup.Dedup.{answer_over, IsSound, Begun, Added}
use Rattle.cloud_memory.proofs.UserDedup.Owned.{contains_nothing}
use Rattle.cloud_memory.proofs.UserDedup.New.{are_new}
use Rattle.cloud_memory.proofs.UserDedup.Views.{own_adds, others_stay}
use Rattle.cloud_memory.proofs.UserDedup.Deleting.{entries_left}
use Rattle.cloud_memory.proofs.UserDedup.Sound.{put_adds, commit_adds, deletes_from}
use Rattle.cloud_memory.proofs.UserDedup.Suiting.{all_from}

-- a recipe of some byte, and no more than the most
abbrev IsSmall : List ℕ → Type 0
IsSmall recipe = (1 ≤ length recipe) × (length recipe ≤ 1180190)

abbrev Brings : Command → Type 0
Brings (commands.Put user shares) = All IsShare shares
Brings (commands.Commit user tag version recipe) = IsSmall recipe
Brings (commands.Delete user tag version) = Unit {0}

small : (shape : Shape) (recipe : List ℕ) (r : Recipe) → IsRecipe shape recipe r → length recipe ≤ 1180190
small shape recipe r is = let long = ap length is.spelled in let most = longest shape r is.fits in omega arith

brings : (shape : Shape) (cloud : ℕ) (list : List Command) (request : Request) (command : Command) → FitsRequest request → HasRecipe shape request
    → (answer_over shape cloud list request).adds ≡ Some command → Brings command
brings shape cloud list requests.Hello command fits has e = absurd (let f : None ≡ Some command = e in cc)
brings shape cloud list (requests.Query user fps) command fits has e = absurd (let f : None ≡ Some command = e in cc)
brings shape cloud list (requests.Put user shares) command fits has e =
    let own = (user_view shape list user).own in
    subst Brings (sym (put_adds user (new_strings own shares) command e))
    (all_from IsShare (new_strings own shares) (λ s c. All-contains IsShare shares s fits.1.1 ((are_new own shares).among s c).0))
brings shape cloud list (requests.Commit user tag version recipe) command fits has e =
    let v = user_view shape list user in
    let a = commit_adds (first_lacking v.own (fps_of shape recipe)) (entry_at v.files (tag, version)) (commands.Commit user tag version recipe) recipe command e in
    subst Brings (sym a.2) (fits.1, small shape recipe has.0 has.1)
brings shape cloud list (requests.GetRecipe user tag version) command fits has e = absurd (let f : None ≡ Some command = e in cc)
brings shape cloud list (requests.GetShares user fps) command fits has e = absurd (let f : None ≡ Some command = e in cc)
brings shape cloud list (requests.List user after) command fits has e = absurd (let f : None ≡ Some command = e in cc)
brings shape cloud list (requests.Delete user tag version) command fits has e =
    subst Brings (sym (deletes_from (entry_at (user_view shape list user).files (tag, version)) (commands.Delete user tag version) command e).1) tt

strings_brought : (command : Command) → Brings command → All IsShare (strings_of command ++ [])
strings_brought (commands.Put user shares) b = subst (All IsShare) (sym (append-nil shares)) b
strings_brought (commands.Commit user tag version recipe) b = All-nil IsShare
strings_brought (commands.Delete user tag version) b = All-nil IsShare

-- each string of a sound list is a share
pub strings_fit : (shape : Shape) (cloud : ℕ) (list : List Command) → IsSound shape cloud list → All IsShare (flat_map strings_of list)
strings_fit shape cloud list Begun = All-nil IsShare
strings_fit shape cloud list (Added before request command sound fits has adds) =
    subst (All IsShare) (sym (flat_map-append strings_of before (command ∷ [])))
    (All-append IsShare (flat_map strings_of before) (strings_of command ++ []) (strings_fit shape cloud before sound) (strings_brought command (brings shape cloud before request command fits has adds)))

abbrev AreSmall : List FileEntry → Type 0
AreSmall files = (entry : FileEntry) → Contains files entry → IsSmall entry.recipe

files_step : (shape : Shape) (list : List Command) (command : Command) (user : UserId) → Brings command → AreSmall (user_view shape list user).files
    → AreSmall (view_after shape (user_view shape list user) command).files
files_step shape list (commands.Put u shares) user b k entry c = k entry c
files_step shape list (commands.Commit u tag version recipe) user b k entry c =
    elim (Contains-push_cases (user_view shape list user).files (record { tag = tag; version = version; recipe = recipe }) entry c) [
      | inl old ↦ k entry old
      | inr same ↦ subst (λ (x : FileEntry). IsSmall x.recipe) same b
    ]
files_step shape list (commands.Delete u tag version) user b k entry c = k entry (entries_left (tag, version) (user_view shape list user).files entry c).0

-- each recipe of a sound list has from one byte to the most
pub recipes_fit : (shape : Shape) (cloud : ℕ) (list : List Command) → IsSound shape cloud list → (user : UserId) → AreSmall (user_view shape list user).files
recipes_fit shape cloud list Begun user = λ entry c. absurd (contains_nothing entry c)
recipes_fit shape cloud list (Added before request command sound fits has adds) user =
    by_user (cases_eq (user_of command).0 user.0) (recipes_fit shape cloud before sound user)
  where
    by_user : ((user_of command).0 ≡ user.0) ⊎ ((user_of command).0 ≡ user.0 → ⊥) → AreSmall (user_view shape before user).files → AreSmall (user_view shape (before ++ command ∷ []) user).files
    by_user (inl same) k =
        subst (λ v. AreSmall v.files) (sym (own_adds shape before command user same))
        (files_step shape before command user (brings shape cloud before request command fits has adds) k)
    by_user (inr other) k = subst (λ v. AreSmall v.files) (sym (others_stay shape before command user other)) k
