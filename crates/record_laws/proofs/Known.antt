-- What a list within its rooms says of its users.
use Rattle.std.proofs.Common.{◌≡◌, ◌≢◌, inl, inr, ℕ, ◌+◌, ◌*◌, ◌<◌, ◌≤◌, Bool, cond, List, [], ◌∷◌, ◌++◌, length, refl, sym, ap, ◌∙◌, subst, arith, eq-eqb, length-append}
use Rattle.std.specs.List.{Contains}
use Rattle.std.proofs.lemmas.Bool.{cases_lt}
use Rattle.std.proofs.Math.Nat.{mul-le-mul_right}
use Rattle.cd_edges.specs.CdBase.ids.UserId.{UserId}
use Rattle.cd_edges.specs.CdBase.shape.Shape.{Shape}
use Rattle.record_checks.specs.JournalStart.rooms.UserRooms.{UserRooms}
use Rattle.record_checks.specs.JournalStart.Ranges.{AreRooms}
use Rattle.record_checks.specs.UserDedup.file_list.FileEntry.{FileEntry}
use Rattle.record_checks.specs.UserDedup.view.View.{View}
use Rattle.record_checks.proofs.UserDedup.Owned.{contains_nothing}
use Rattle.record_checks.proofs.UserDedup.Sound.{found_entry}
use Rattle.record_checks.specs.UserDedup.command.Command.{Command}
use Rattle.record_checks.specs.UserDedup.command.Command.TheVariants as commands
use Rattle.record_checks.specs.UserDedup.Dedup.{IsSound}
use Rattle.record_checks.specs.UserDedup.Cloud.{user_of, user_view}
use Rattle.record_checks.specs.UserDedup.Spending.{SpentByUser, nothing, spent_of, files_of, IsWithin}
use Rattle.record_checks.proofs.UserDedup.Spending.{front_within}
use Rattle.record_checks.proofs.UserDedup.Views.{own_adds}
use Rattle.record_checks.proofs.CloudAreas.Room.{files_above, files_below, spent_above}
use Rattle.record_checks.proofs.MemoryProofs.Lists.{and_more, spent_next}
use Rattle.record_laws.proofs.Asked.{lawful}

module _ (shape : Shape) (rooms : UserRooms) (list : List Command) (within : IsWithin shape rooms list) where
  pub few_files : AreRooms rooms → (q : UserId) → files_of shape list q ≤ 16384
  few_files are q =
      let some : 1 * rooms.files ≤ rooms.users * rooms.files = mul-le-mul_right rooms.files are.some in
      let most = are.files in
      elim (cases_lt q.0 rooms.users) [
        | inl lt ↦ (let few = files_below shape rooms list within q.0 lt in omega (arith, few, some, most))
        | inr ge ↦ (let none = files_above shape rooms list within q.0 ge in omega (arith, none))
      ]

  -- who has spent anything is one of the users
  pub known_spent : (q : UserId) → spent_of list q ≢ nothing → q.0 < rooms.users
  known_spent q some = elim (cases_lt q.0 rooms.users) [
    | inl lt ↦ lt
    | inr ge ↦ absurd (some (spent_above shape rooms list within q.0 ge))
  ]

  known_files : (q : UserId) → 1 ≤ files_of shape list q → q.0 < rooms.users
  known_files q some = elim (cases_lt q.0 rooms.users) [
    | inl lt ↦ lt
    | inr ge ↦ (let none = files_above shape rooms list within q.0 ge in absurd (omega (arith, none, some)))
  ]

one_of : (files : List FileEntry) (e : FileEntry) → Contains files e → 1 ≤ length files
one_of [] e c = absurd (contains_nothing e c)
one_of (x ∷ files) e c = omega arith

-- each command's user is one of the users
pub known_user : (shape : Shape) (rooms : UserRooms) (cloud : ℕ) (list : List Command) (command : Command) → IsSound shape cloud (list ++ command ∷ [])
    → IsWithin shape rooms (list ++ command ∷ []) → (user_of command).0 < rooms.users
known_user shape rooms cloud list (commands.Put user shares) sound within =
    let l = lawful shape cloud list (commands.Put user shares) sound in
    known_spent shape rooms (list ++ commands.Put user shares ∷ []) within user (λ none.
    let some = l.1.2 in
    let next : spent_of (list ++ commands.Put user shares ∷ []) user ≡ and_more (list ++ commands.Put user shares ∷ []) (commands.Put user shares ∷ []) (spent_of list user) =
    spent_next list (commands.Put user shares) user
    ∙ ap (λ (b : Bool). and_more (list ++ commands.Put user shares ∷ []) (cond b (commands.Put user shares ∷ []) []) (spent_of list user)) (eq-eqb user.0 user.0 refl) in
    let owners : 0 ≡ (spent_of list user).owners + length (shares ++ []) = ap (λ (s : SpentByUser). s.owners) (sym none ∙ next) in
    let same = length-append shares [] in
    omega (arith, some, owners, same))
known_user shape rooms cloud list (commands.Commit user tag version recipe) sound within =
    let view = own_adds shape list (commands.Commit user tag version recipe) user refl in
    known_files shape rooms (list ++ commands.Commit user tag version recipe ∷ []) within user
    (subst (λ (v : View). 1 ≤ length v.files) (sym view)
    (let more = length-append (user_view shape list user).files (record { tag = tag; version = version; recipe = recipe } ∷ []) in omega (arith, more)))
known_user shape rooms cloud list (commands.Delete user tag version) sound within =
    let l = lawful shape cloud list (commands.Delete user tag version) sound in
    let f = found_entry (user_view shape list user).files (tag, version) l.1.0 l.1.1 in
    known_files shape rooms list (front_within shape rooms list (commands.Delete user tag version ∷ []) within) user (one_of (user_view shape list user).files l.1.0 f.1)
