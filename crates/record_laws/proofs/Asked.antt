-- What holds of a command that a sound list takes.
use Rattle.std.proofs.Common.{◌≡◌, ℕ, ◌≤◌, List, [], ◌∷◌, ◌++◌, length, Option, Some, None, refl, sym, ap, ◌∙◌, subst, arith}
use Rattle.std.specs.Prelude.{All}
use Rattle.std.specs.List.{Contains}
use Rattle.cd_edges.specs.CdBase.ids.UserId.{UserId}
use Rattle.cd_edges.specs.CdBase.shape.Shape.{Shape}
use Rattle.messages.specs.declared.request.Request.TheVariants as requests
use Rattle.messages.specs.declared.request.Request.{Request}
use Rattle.record_checks.specs.UserDedup.file_list.FileEntry.{FileEntry}
use Rattle.record_checks.specs.UserDedup.view.View.{View}
use Rattle.record_checks.specs.UserDedup.Dedup.{put_outcome, commit_outcome}
use Rattle.record_checks.specs.UserDedup.Owning.{first_lacking, FindsLacking, new_strings}
use Rattle.record_checks.specs.UserDedup.Pages.{entry_at}
use Rattle.record_checks.specs.UserDedup.Requests.{fps_of, asker}
use Rattle.record_checks.proofs.UserDedup.Owned.{finds}
use Rattle.record_checks.proofs.UserDedup.Sound.{put_adds, commit_adds}
use Rattle.record_checks.specs.UserDedup.command.Command.{Command}
use Rattle.record_checks.specs.UserDedup.command.Command.TheVariants as commands
use Rattle.record_checks.specs.UserDedup.Dedup.{delete_outcome, answer_over, IsSound}
use Rattle.record_checks.specs.UserDedup.Cloud.{user_of, user_view}
use Rattle.record_checks.proofs.UserDedup.Sound.{deletes_from, sound_before}

-- the entry that there is
abbrev pub HasOne : Option FileEntry → Type 0
HasOne o = (entry : FileEntry) × (o ≡ Some entry)

-- The strings of a Put are new to the user; a Commit's user owns what the recipe names and lacks the version; a Delete's has it.
abbrev pub IsLawful : Shape → View → Command → Type 0
IsLawful shape v (commands.Put user shares) = (sent : List (List ℕ)) × (shares ≡ new_strings v.own sent) × (1 ≤ length shares)
IsLawful shape v (commands.Commit user tag version recipe) = All (Contains v.own) (fps_of shape recipe) × (entry_at v.files (tag, version) ≡ None)
IsLawful shape v (commands.Delete user tag version) = HasOne (entry_at v.files (tag, version))

abbrev IsLawfulFor : Shape → List Command → UserId → Command → Type 0
IsLawfulFor shape list user command = IsLawful shape (user_view shape list user) command × (user_of command ≡ user)

put_some : (user : UserId) (ss : List (List ℕ)) (c : Command) → (put_outcome user ss).adds ≡ Some c → 1 ≤ length ss
put_some user [] c e = absurd (let no : None ≡ Some c = e in cc)
put_some user (s ∷ ss) c e = omega arith

has_one : (o : Option FileEntry) (c command : Command) → (delete_outcome o c).adds ≡ Some command → HasOne o
has_one None c command e = absurd (let no : None ≡ Some command = e in cc)
has_one (Some entry) c command e = (entry, refl)

lawful_for : (shape : Shape) (cloud : ℕ) (list : List Command) (request : Request) (command : Command) → (answer_over shape cloud list request).adds ≡ Some command
    → IsLawfulFor shape list (asker request) command
lawful_for shape cloud list requests.Hello command e = absurd (let no : None ≡ Some command = e in cc)
lawful_for shape cloud list (requests.Query user fps) command e = absurd (let no : None ≡ Some command = e in cc)
lawful_for shape cloud list (requests.Put user shares) command e =
    let new = new_strings (user_view shape list user).own shares in
    let c = put_adds user new command e in
    subst (IsLawfulFor shape list user) (sym c) ((shares, refl, put_some user new command e), refl)
lawful_for shape cloud list (requests.Commit user tag version recipe) command e =
    let own = (user_view shape list user).own in
    let lack = first_lacking own (fps_of shape recipe) in
    let entry = entry_at (user_view shape list user).files (tag, version) in
    let c = commit_adds lack entry (commands.Commit user tag version recipe) recipe command e in
    let owned : All (Contains own) (fps_of shape recipe) = subst (FindsLacking own (fps_of shape recipe)) c.0 (finds own (fps_of shape recipe)) in
    subst (IsLawfulFor shape list user) (sym c.2) ((owned, c.1), refl)
lawful_for shape cloud list (requests.GetRecipe user tag version) command e = absurd (let no : None ≡ Some command = e in cc)
lawful_for shape cloud list (requests.GetShares user fps) command e = absurd (let no : None ≡ Some command = e in cc)
lawful_for shape cloud list (requests.List user after) command e = absurd (let no : None ≡ Some command = e in cc)
lawful_for shape cloud list (requests.Delete user tag version) command e =
    let entry = entry_at (user_view shape list user).files (tag, version) in
    let d = deletes_from entry (commands.Delete user tag version) command e in
    subst (IsLawfulFor shape list user) (sym d.1) (has_one entry (commands.Delete user tag version) command e, refl)

pub lawful : (shape : Shape) (cloud : ℕ) (list : List Command) (command : Command) → IsSound shape cloud (list ++ command ∷ [])
    → IsSound shape cloud list × IsLawful shape (user_view shape list (user_of command)) command
lawful shape cloud list command sound =
    let added = sound_before shape cloud list command sound in
    let l = lawful_for shape cloud list added.request command added.adds in
    (added.sound, subst (λ (u : UserId). IsLawful shape (user_view shape list u) command) (sym l.1) l.0)
