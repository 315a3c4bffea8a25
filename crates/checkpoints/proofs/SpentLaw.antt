-- A memory of a list names each user that has spent anything, with what it has.
use Rattle.std.proofs.Common.{◌≡◌, ◌≢◌, inl, inr, ℕ, zero, suc, ◌+◌, ◌<◌, ◌≤◌, Bool, true, false, cond, List, [], ◌∷◌, length, map, Option, Some, None, get_or, refl, sym, ap, ◌∙◌, subst, arith, eq-eqb}
use Rattle.std.specs.Prelude.{◌==◌, ◌&&◌, ◌↔◌}
use Rattle.std.specs.List.{Contains}
use Rattle.std.proofs.lemmas.Bool.{eqb-true, cases_lt, cases_Bool}
use Rattle.std.proofs.lemmas.List.{get_or_past}
use Rattle.cloud_memory.specs.CdBase.ids.UserId.{UserId}
use Rattle.cloud_memory.specs.RecordBody.body.SpentBody.{SpentBody}
use Rattle.cloud_memory.specs.SpentTable.Spent.{Spent as Row}
use Rattle.cloud_memory.specs.SpentTable.Spending as rows
use Rattle.cloud_memory.proofs.UserDedup.Owned.{contains_here, contains_later, contains_nothing, contains_cases}
use Rattle.cloud_memory.specs.UserDedup.command.Command.{Command}
use Rattle.cloud_memory.specs.UserDedup.Spending.{SpentByUser, nothing, spent_of}
use Rattle.cloud_memory.specs.CdBase.shape.Shape.{Shape}
use Rattle.cloud_disk.specs.CloudAreas.Checkpoints.{spent_by, ListSpent}
use Rattle.cloud_disk.proofs.CloudAreas.Apart.{Apart, are_apart}
use Rattle.cloud_disk.proofs.CloudAreas.Lists.{in_map, from_map}
use Rattle.cloud_memory.specs.declared.cloud.CloudMemory.{CloudMemory}
use Rattle.cloud_memory.specs.Memory.{Remembers, as_spent}
use Rattle.cloud_memory.specs.Rooms.{memory_of}
use Rattle.checkpoints.specs.Picking.{onto}
use Rattle.checkpoints.specs.Records.{spent_at, spents_of, spents_from}

-- ---- a row

abbrev nothing_in : Row → Bool
nothing_in row = (row.owners == 0) && ((row.shares == 0) && (row.recipes == 0))

abbrev body_of : ℕ → Row → SpentBody
body_of user row = record { user = record { 0 = user }; owners = row.owners; shares = row.shares; recipes = row.recipes }

and_both : (a b : Bool) → (a && b) ≡ true → (a ≡ true) × (b ≡ true)
and_both true b e = (refl, e)
and_both false b e = absurd (let no : false ≡ true = e in cc)

nothing_is : (row : Row) → nothing_in row ≡ true → as_spent row ≡ nothing
nothing_is row t =
    let one = and_both (row.owners == 0) _ t in
    let two = and_both (row.shares == 0) _ one.1 in
    let owners = eqb-true row.owners 0 one.0 in let shares = eqb-true row.shares 0 two.0 in let recipes = eqb-true row.recipes 0 two.1 in
    λ i. record { owners = owners i; shares = shares i; recipes = recipes i }

is_nothing : (row : Row) → as_spent row ≡ nothing → nothing_in row ≡ true
is_nothing row e =
    λ i. (eq-eqb row.owners 0 (ap (λ (s : SpentByUser). s.owners) e) i)
    && ((eq-eqb row.shares 0 (ap (λ (s : SpentByUser). s.shares) e) i) && (eq-eqb row.recipes 0 (ap (λ (s : SpentByUser). s.recipes) e) i))

abbrev body_or : SpentBody → Option SpentBody → SpentBody
body_or other None = other
body_or other (Some b) = b

spent_gives : (user : ℕ) (row : Row) (b : SpentBody) → spent_at user row ≡ Some b → (body_of user row ≡ b) × (as_spent row ≢ nothing)
spent_gives user row b is = by_test (nothing_in row) refl is
  where
    by_test : (t : Bool) → nothing_in row ≡ t → cond t None (Some (body_of user row)) ≡ Some b → (body_of user row ≡ b) × (as_spent row ≢ nothing)
    by_test true t same = absurd (let no : ◌≡◌ {A = Option SpentBody} None (Some b) = same in cc)
    by_test false t same = (ap (body_or b) same, λ e. let yes = is_nothing row e in let no : true ≡ false = sym yes ∙ t in cc)

spent_as : (user : ℕ) (row : Row) → as_spent row ≢ nothing → spent_at user row ≡ Some (body_of user row)
spent_as user row some = elim (cases_Bool (nothing_in row)) [
  | inl t ↦ absurd (some (nothing_is row t))
  | inr f ↦ ap (λ t. cond t None (Some (body_of user row))) f
]

-- ---- rows

pub record HasRow (user : ℕ) (table : List Row) (b : SpentBody) : Type 0 where
  pub place : ℕ
  pub below : place < length table
  pub is : spent_at (user + place) (get_or table place rows.nothing) ≡ Some b

row_later : (user : ℕ) (row : Row) (table : List Row) (b : SpentBody) → HasRow (user + 1) table b → HasRow user (row ∷ table) b
row_later user row table b h = record {
  place = suc h.place;
  below = omega (arith, h.below);
  is = ap (λ u. spent_at u (get_or table h.place rows.nothing)) (omega arith) ∙ h.is;
}

from_rows : (user : ℕ) (table : List Row) (b : SpentBody) → Contains (spents_of user table) b → HasRow user table b
from_rows user [] b c = absurd (contains_nothing b c)
from_rows user (row ∷ table) b c = by_first (from_rows (user + 1) table b) (spent_at user row) refl
  where
    by_first : (Contains (spents_of (user + 1) table) b → HasRow (user + 1) table b) → (o : Option SpentBody) → spent_at user row ≡ o → HasRow user (row ∷ table) b
    by_first rest None is = row_later user row table b (rest (subst (λ o. Contains (onto o (spents_of (user + 1) table)) b) is c))
    by_first rest (Some x) is = elim (contains_cases x (spents_of (user + 1) table) b (subst (λ o. Contains (onto o (spents_of (user + 1) table)) b) is c)) [
      | inl same ↦ record { place = 0; below = omega arith; is = ap (λ u. spent_at u row) (omega arith) ∙ is ∙ ap Some same }
      | inr more ↦ row_later user row table b (rest more)
    ]

behind_onto : (o : Option SpentBody) (xs : List SpentBody) (b : SpentBody) → Contains xs b → Contains (onto o xs) b
behind_onto None xs b c = c
behind_onto (Some y) xs b c = contains_later y xs b c

in_rows : (user : ℕ) (table : List Row) (place : ℕ) (b : SpentBody) → place < length table → spent_at (user + place) (get_or table place rows.nothing) ≡ Some b → Contains (spents_of user table) b
in_rows user [] place b l is = absurd (omega (arith, l))
in_rows user (row ∷ table) zero b l is =
    subst (λ o. Contains (onto o (spents_of (user + 1) table)) b) (sym (ap (λ u. spent_at u row) (omega arith) ∙ is)) (contains_here b (spents_of (user + 1) table))
in_rows user (row ∷ table) (suc place) b l is =
    behind_onto (spent_at user row) (spents_of (user + 1) table) b
    (in_rows (user + 1) table place b (omega (arith, l)) (ap (λ u. spent_at u (get_or table place rows.nothing)) (omega arith) ∙ is))

abbrev user_in : SpentBody → UserId
user_in b = b.user

-- the users of later rows are later
users_above : (user : ℕ) (table : List Row) (x : UserId) → Contains (map user_in (spents_of user table)) x → user ≤ x.0
users_above user table x c =
    let b = from_map user_in (spents_of user table) x c in
    let h = from_rows user table b.0 b.1 in
    let g = spent_gives (user + h.place) (get_or table h.place rows.nothing) b.0 h.is in
    let same : user + h.place ≡ x.0 = ap (λ (s : SpentBody). s.user.0) g.0 ∙ ap (λ (u : UserId). u.0) b.2 in
    omega (arith, same)

rows_apart : (user : ℕ) (table : List Row) → Apart (map user_in (spents_of user table))
rows_apart user [] = tt
rows_apart user (row ∷ table) = by_first (rows_apart (user + 1) table) (spent_at user row) refl
  where
    by_first : Apart (map user_in (spents_of (user + 1) table)) → (o : Option SpentBody) → spent_at user row ≡ o → Apart (map user_in (onto (spent_at user row) (spents_of (user + 1) table)))
    by_first rest None is = subst (λ o. Apart (map user_in (onto o (spents_of (user + 1) table)))) (sym is) rest
    by_first rest (Some b) is =
        subst (λ o. Apart (map user_in (onto o (spents_of (user + 1) table)))) (sym is)
        ((λ c. let above = users_above (user + 1) table b.user c in let here : user ≡ b.user.0 = ap (λ (s : SpentBody). s.user.0) (spent_gives user row b is).0 in omega (arith, above, here)), rest)

module _ (shape : Shape) (list : List Command) (memory : CloudMemory) (r : Remembers shape list (memory_of memory)) where
  abbrev Spents : List SpentBody
  Spents = spents_of 0 memory.spent

  spent_is : (b : SpentBody) → Contains Spents b → (spent_by b ≡ spent_of list b.user) × (spent_of list b.user ≢ nothing)
  spent_is b c =
      let h = from_rows 0 memory.spent b c in
      let row = get_or memory.spent h.place rows.nothing in
      let g = spent_gives (0 + h.place) row b h.is in
      let user : record { 0 = h.place } ≡ b.user = λ i. record { 0 = (zero_more h.place ∙ ap (λ (s : SpentBody). s.user.0) g.0) i } in
      let same : as_spent row ≡ spent_of list b.user = r.spent (record { 0 = h.place }) ∙ ap (spent_of list) user in
      (ap spent_by (sym g.0) ∙ same, λ e. g.1 (same ∙ e))
    where
      zero_more : (n : ℕ) → n ≡ 0 + n
      zero_more n = omega arith

  spent_each : (user : UserId) → Contains (map user_in Spents) user ↔ (spent_of list user ≢ nothing)
  spent_each user = (there, back)
    where
      there : Contains (map user_in Spents) user → spent_of list user ≢ nothing
      there c = let b = from_map user_in Spents user c in subst (λ (u : UserId). spent_of list u ≢ nothing) b.2 (spent_is b.0 b.1).1

      back : spent_of list user ≢ nothing → Contains (map user_in Spents) user
      back some =
          let row = get_or memory.spent user.0 rows.nothing in
          let row_some : as_spent row ≢ nothing = λ e. some (sym (r.spent user) ∙ e) in
          let below : user.0 < length memory.spent = elim (cases_lt user.0 (length memory.spent)) [
            | inl l ↦ l
            | inr beyond ↦ absurd (row_some (ap as_spent (get_or_past memory.spent user.0 rows.nothing beyond)))
          ] in
          in_map user_in Spents (body_of user.0 row)
          (in_rows 0 memory.spent user.0 (body_of user.0 row) below (ap (λ u. spent_at u row) (omega arith) ∙ spent_as user.0 row row_some))

  pub spents_law : ListSpent list (spents_from memory.spent 0)
  spents_law = record {
    users = record { each = spent_each; once = are_apart (map user_in Spents) (rows_apart 0 memory.spent) };
    numbers = λ b c. (spent_is b c).0;
  }
