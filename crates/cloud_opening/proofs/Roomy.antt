-- What a record spends stays within the limits of its user.
use Rattle.std.proofs.Common.{◌≡◌, ◌⊎◌, inl, inr, ℕ, zero, suc, ◌+◌, ◌≤◌, Bool, true, false, IsTrue, List, [], ◌∷◌, Result, Ok, Err, refl, sym, ap, subst, arith}
use Rattle.std.specs.Prelude.{slice_set, slice_index_or, replicate, OnOk}
use Rattle.std.proofs.lemmas.Bool.{false≢true}
use Rattle.cloud_disk.specs.CdBase.ids.UserId.{UserId}
use Rattle.cloud_disk.specs.JournalStart.rooms.UserRooms.{UserRooms}
use Rattle.cloud_disk.specs.RecordBody.body.PutItem.{PutItem}
use Rattle.record_laws.specs.SpentTable.Spent.{Spent}
use Rattle.record_laws.specs.SpentTable.Spending.{nothing, spent_by, both}
use Rattle.cloud_disk.specs.UserDedup.Spending.{limits_of}
use Rattle.cloud_disk.specs.CommitJournal.errors.OpenErr.{OpenErr}
use Rattle.record_laws.specs.RecordChecks.CloudMemory.Memory.{Memory}
use Rattle.record_laws.specs.RecordChecks.CloudMemory.Steps.{with_item, with_items}
use Rattle.record_laws.specs.RecordChecks.ground.Ground.{Ground}
use Rattle.record_laws.specs.RecordChecks.taking.Taking.{Taking}
use Rattle.record_laws.specs.RecordChecks.Checks.{spends_behind}
use Rattle.cloud_opening.specs.Exact.{Closes, Within, SharesPast, RecipesPast}
use Rattle.cloud_opening.specs.Roomy.{SpendWithin, IsRoomy}

-- ---- a row more

-- what holds of each row, and of none, holds of each once one is set of which it holds
set_each : (P : Spent → Type 0) (rows : List Spent) (i j : ℕ) (row : Spent) → (j ≡ i → P row) → P nothing → P (slice_index_or rows j nothing)
    → P (slice_index_or (slice_set rows i row) j nothing)
set_each P [] i j row here none old = none
set_each P (r ∷ rows) zero zero row here none old = here refl
set_each P (r ∷ rows) zero (suc j) row here none old = old
set_each P (r ∷ rows) (suc i) zero row here none old = old
set_each P (r ∷ rows) (suc i) (suc j) row here none old = set_each P rows i j row (λ e. here (ap suc e)) none old

pub within_set : (rooms : UserRooms) (rows : List Spent) (user : UserId) (row : Spent) → SpendWithin rooms rows → row.owners ≤ (limits_of rooms user).owners
    → row.shares ≤ (limits_of rooms user).shares → row.recipes ≤ (limits_of rooms user).recipes → SpendWithin rooms (slice_set rows user.0 row)
within_set rooms rows user row within owners shares recipes = record {
  owners = λ u. set_each (λ (r : Spent). r.owners ≤ (limits_of rooms u).owners) rows user.0 u.0 row
      (λ e. subst (λ (n : ℕ). row.owners ≤ (limits_of rooms (record { 0 = n })).owners) (sym e) owners) (omega arith) (within.owners u);
  shares = λ u. set_each (λ (r : Spent). r.shares ≤ (limits_of rooms u).shares) rows user.0 u.0 row
      (λ e. subst (λ (n : ℕ). row.shares ≤ (limits_of rooms (record { 0 = n })).shares) (sym e) shares) (omega arith) (within.shares u);
  recipes = λ u. set_each (λ (r : Spent). r.recipes ≤ (limits_of rooms u).recipes) rows user.0 u.0 row
      (λ e. subst (λ (n : ℕ). row.recipes ≤ (limits_of rooms (record { 0 = n })).recipes) (sym e) recipes) (omega arith) (within.recipes u);
}

-- ---- no commands

none_spent : (users j : ℕ) → slice_index_or (replicate users nothing) j nothing ≡ nothing
none_spent zero j = refl
none_spent (suc users) zero = refl
none_spent (suc users) (suc j) = none_spent users j

pub begun_within : (rooms : UserRooms) (users : ℕ) → SpendWithin rooms (replicate users nothing)
begun_within rooms users = record {
  owners = λ u. subst (λ (r : Spent). r.owners ≤ (limits_of rooms u).owners) (sym (none_spent users u.0)) (omega arith);
  shares = λ u. subst (λ (r : Spent). r.shares ≤ (limits_of rooms u).shares) (sym (none_spent users u.0)) (omega arith);
  recipes = λ u. subst (λ (r : Spent). r.recipes ≤ (limits_of rooms u).recipes) (sym (none_spent users u.0)) (omega arith);
}

-- ---- records

pub items_spent : (user : UserId) (m : Memory) (items : List PutItem) → (with_items user m items).spent ≡ m.spent
items_spent user m [] = refl
items_spent user m (item ∷ items) = items_spent user (with_item user m item) items

behind : {P : Type 0} → IsTrue false ⊎ P → P
behind either = elim either [
  | inl inside ↦ absurd (false≢true inside)
  | inr is ↦ is
]

pub behind_within : (inside : Bool) (rooms : UserRooms) (user : UserId) (more : Spent) (m : Memory) → SpendWithin rooms m.spent
    → IsTrue inside ⊎ ((spent_by m.spent user).owners + more.owners ≤ (limits_of rooms user).owners)
    → IsTrue inside ⊎ ((spent_by m.spent user).shares + more.shares ≤ (limits_of rooms user).shares)
    → IsTrue inside ⊎ ((spent_by m.spent user).recipes + more.recipes ≤ (limits_of rooms user).recipes)
    → SpendWithin rooms (spends_behind inside user more m).spent
behind_within true rooms user more m within owners shares recipes = within
behind_within false rooms user more m within owners shares recipes =
    within_set rooms m.spent user (both (spent_by m.spent user) more) within (behind owners) (behind shares) (behind recipes)

-- ---- the last check

pub roomy_closed : (g : Ground) (m : Memory) (t : Taking) (number : ℕ) (answer : Result ℕ OpenErr) → SpendWithin g.rooms m.spent → Closes g m t number answer
    → OnOk answer (IsRoomy g.rooms g.region m)
roomy_closed g m t number answer within (Within shares recipes) = record { spent = within; ends = record { shares = shares; recipes = recipes } }
roomy_closed g m t number answer within (SharesPast field far noted) = tt
roomy_closed g m t number answer within (RecipesPast field near far noted) = tt
