-- What users have spent, set row by row, and the memory that is made so.
use Rattle.std.proofs.Common.{◌≡◌, ℕ, ◌+◌, ◌<◌, ◌≤◌, List, length, set, Some, refl, sym, ap, ◌∙◌, subst, arith, inl, inr, length-set}
use Rattle.std.specs.Prelude.{◌↔◌}
use Rattle.std.specs.List.{Contains}
use Rattle.std.specs.FinMap.{get}
use Rattle.std.proofs.lemmas.Bool.{cases_eq}
use Rattle.std.proofs.lemmas.List.{get_or-set_same, get_or-set_other}
use Rattle.compact_lists.specs.CdBase.ids.UserId.{UserId}
use Rattle.checkpoints.specs.PoolMap.Slots.{IsListed}
use Rattle.checkpoints.specs.SpentTable.Spent.{Spent}
use Rattle.checkpoints.specs.SpentTable.Spending.{nothing}
use Rattle.checkpoints.specs.CloudMemory.cloud.CloudMemory.{CloudMemory}
use Rattle.checkpoints.specs.CloudMemory.Memory.{Memory, as_spent}
use Rattle.checkpoints.specs.CloudMemory.Rooms.{memory_of}
use Rattle.checkpoints.specs.CloudMemory.Steps.{with_spent}
use Rattle.compact_memories.specs.Kept.{IsCompacted, kept_in, live_places}
use Rattle.compact_memories.specs.Passes.{row_of, DroppedSoFar, SetSoFar}
use Rattle.compact_memories.proofs.Emptying.{left_alive}

pub none_set : (rows : List Spent) (m : Memory) → SetSoFar rows m m 0
none_set rows m = record { users = refl; are_set = λ user lt inside. absurd (omega (arith, lt)); rest = refl }

pub one_set : (rows : List Spent) (first old : Memory) (count : ℕ) (row : Spent) → row ≡ row_of rows count → SetSoFar rows first old count
    → SetSoFar rows first (with_spent (record { 0 = count }) row old) (count + 1)
one_set rows first old count row is s = record {
  users = length-set old.spent count row ∙ s.users;
  are_set = λ user lt inside. elim (cases_eq user count) [
    | inl same ↦
        let here : count < length old.spent = let u = s.users in let e : user ≡ count = same in omega (arith, inside, u, e) in
        ap (λ (n : ℕ). row_of (set old.spent count row) n) same ∙ get_or-set_same old.spent count row nothing here ∙ is ∙ ap (row_of rows) (sym same)
    | inr ne ↦ get_or-set_other old.spent count user row nothing ne ∙ s.are_set user (omega (arith, lt, ne)) inside
  ];
  rest = λ i. record {
    places = (ap (λ (m : Memory). m.places) s.rest) i;
    owners = (ap (λ (m : Memory). m.owners) s.rest) i;
    files = (ap (λ (m : Memory). m.files) s.rest) i;
    spent = set old.spent count row;
    shares_end = (ap (λ (m : Memory). m.shares_end) s.rest) i;
    recipes_end = (ap (λ (m : Memory). m.recipes_end) s.rest) i;
  };
}

pub as_set : (rows : List Spent) (first new : Memory) (count : ℕ) → 256 ≤ count → SetSoFar rows first new count → SetSoFar rows first new 256
as_set rows first new count enough s = record { users = s.users; are_set = λ user lt inside. s.are_set user (omega (arith, lt, enough)) inside; rest = s.rest }

pub compacted : (old dropped : CloudMemory) (new : Memory) (rows : List Spent) → length old.spent ≤ 256
    → ((user : UserId) → user.0 < 256 → as_spent (row_of rows user.0) ≡ kept_in (memory_of old) user)
    → DroppedSoFar old dropped (length old.shares.place_slots) → IsListed dropped.shares.places dropped.shares.place_slots
    → SetSoFar rows (memory_of dropped) new 256 → IsCompacted old new
compacted old dropped new rows few kept d listed s = record {
  places = λ fp place. subst (λ (m : Memory). get m.places fp.0 ≡ Some place ↔ Contains (live_places old) (fp, place)) (sym s.rest) (left_alive old dropped d listed fp place);
  owners = ap (λ (m : Memory). m.owners) s.rest ∙ ap (λ (m : Memory). m.owners) d.rest;
  files = ap (λ (m : Memory). m.files) s.rest ∙ ap (λ (m : Memory). m.files) d.rest;
  users = s.users ∙ ap (λ (m : Memory). length m.spent) d.rest;
  spent = λ user inside.
      let same = ap (λ (m : Memory). length m.spent) d.rest in
      ap as_spent (s.are_set user.0 (omega (arith, few, inside)) (omega (arith, inside, same))) ∙ kept user (omega (arith, few, inside));
  shares_end = ap (λ (m : Memory). m.shares_end) s.rest ∙ ap (λ (m : Memory). m.shares_end) d.rest;
  recipes_end = ap (λ (m : Memory). m.recipes_end) s.rest ∙ ap (λ (m : Memory). m.recipes_end) d.rest;
}
