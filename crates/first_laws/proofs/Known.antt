-- Which users a list has, and how many entries they have.
use Rattle.std.proofs.Common.{◌≡◌, ◌⊎◌, ◌≢◌, inl, inr, ℕ, ◌≤◌, Bool, cond, List, [], ◌∷◌, ◌++◌, length, refl, ap, ◌∙◌, subst, arith}
use Rattle.std.specs.Prelude.{fold}
use Rattle.std.specs.List.{Contains}
use Rattle.std.proofs.lemmas.Bool.{cases_eq, ne_eqb}
use Rattle.journal_halves.specs.CdBase.ids.UserId.{UserId}
use Rattle.journal_halves.specs.CdBase.shape.Shape.{Shape}
use Rattle.compact_memories.specs.UserDedup.command.Command.{Command}
use Rattle.compact_memories.specs.UserDedup.Cloud.{user_of, commands_of, no_view, view_after}
use Rattle.compact_memories.specs.UserDedup.Compact.{users_in, user_at}
use Rattle.compact_memories.specs.UserDedup.Spending.{nothing, spent_of, spent_in, files_of}
use Rattle.compact_memories.proofs.UserDedup.Sorting.{has_number, number_later}
use Rattle.compact_memories.specs.CloudAreas.FormatOne.{all_files, IsWithinGreatest}
use Rattle.compact_memories.proofs.CloudAreas.Counting.{no_weight}

-- a user is one of the list's, or has no command in it
pub user_or_none : (list : List Command) (user : UserId) → Contains (users_in list) user.0 ⊎ (commands_of user list ≡ [])
user_or_none [] user = inr refl
user_or_none (c ∷ list) user = elim (cases_eq (user_of c).0 user.0) [
  | inl same ↦ inl (subst (Contains (users_in (c ∷ list))) same (has_number (user_of c).0 (users_in list)))
  | inr other ↦ elim (user_or_none list user) [
    | inl here ↦ inl (number_later (user_of c).0 (users_in list) user.0 here)
    | inr none ↦ inr (ap (λ (b : Bool). cond b (c ∷ commands_of user list) (commands_of user list)) (ne_eqb (user_of c).0 user.0 other) ∙ none)
  ]
]

pub spender_known : (list : List Command) (user : UserId) → spent_of list user ≢ nothing → Contains (users_in list) user.0
spender_known list user some = elim (user_or_none list user) [
  | inl here ↦ here
  | inr none ↦ absurd (some (ap (spent_in list) none))
]

-- the entries of each user are some of all
pub files_few : (shape : Shape) (list : List Command) → all_files shape list ≤ 16384 → (q : UserId) → files_of shape list q ≤ 16384
files_few shape list most q = elim (user_or_none list q) [
  | inl here ↦
      (let one : files_of shape list (user_at q.0) ≤ all_files shape list = no_weight (λ (n : ℕ). files_of shape list (user_at n)) (λ (n : ℕ). n) (users_in list) q.0 here in
      omega (arith, one, most))
  | inr none ↦
      (let no : files_of shape list q ≡ 0 = ap (λ (cs : List Command). length (fold (view_after shape) no_view cs).files) none in omega (arith, no))
]

pub front_few : (shape : Shape) (list : List Command) → IsWithinGreatest shape list → (before after : List Command) → list ≡ before ++ after → (q : UserId)
    → files_of shape before q ≤ 16384
front_few shape list within before after is = files_few shape before (within.files before after is)
