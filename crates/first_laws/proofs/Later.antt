-- What one record more of format 1 leaves.
use Rattle.std.proofs.Common.{◌≡◌, ℕ, zero, suc, ◌<◌, ◌≤◌, true, false, List, [], ◌∷◌, ◌++◌, length, get_or, replicate, refl, ap, ◌∙◌, arith, length-append}
use Rattle.std.specs.Prelude.{max, All}
use Rattle.std.proofs.lemmas.List.{length-replicate}
use Rattle.journal_halves.specs.CdBase.ids.UserId.{UserId}
use Rattle.journal_halves.specs.CdBase.shape.Shape.{Shape}
use Rattle.record_laws.specs.ContainerLog.Laying.{Placed, IsAt}
use Rattle.first_records.specs.RecordBody.Spelling.{Body}
use Rattle.record_laws.specs.SpentTable.Spent.{Spent as Row}
use Rattle.record_laws.specs.SpentTable.Spending.{nothing as no_row}
use Rattle.compact_memories.specs.UserDedup.command.Command.{Command}
use Rattle.compact_memories.specs.UserDedup.Cloud.{user_of}
use Rattle.compact_memories.specs.UserDedup.Dedup.{IsSound}
use Rattle.compact_memories.specs.UserDedup.Spending.{files_of}
use Rattle.compact_memories.specs.CloudAreas.Chains.{IsRecord}
use Rattle.compact_memories.specs.CloudAreas.Placing.{recipes_placed, recipes_in, greatest_end, recipes_end}
use Rattle.compact_memories.proofs.CloudAreas.Behind.{recipes_more}
use Rattle.compact_memories.specs.CloudMemory.Memory.{Memory, as_spent}
use Rattle.record_laws.specs.Leaving.{recipe_for, record_left, IsLeft}
use Rattle.record_laws.proofs.Next.{next_left}
use Rattle.record_laws.proofs.Places.{further_max}
use Rattle.first_laws.specs.Leaving.{first_left, filled, IsLeftOne}
use Rattle.first_laws.proofs.Alike.{record_alike, recipes_next, greatest_append, left_one}

-- ---- more rows

no_rows : (n k : ℕ) → get_or (replicate n no_row) k no_row ≡ no_row
no_rows zero k = refl
no_rows (suc n) zero = refl
no_rows (suc n) (suc k) = no_rows n k

rows_stay : (rows : List Row) (n k : ℕ) → get_or (rows ++ replicate n no_row) k no_row ≡ get_or rows k no_row
rows_stay [] n k = no_rows n k
rows_stay (row ∷ rows) n zero = refl
rows_stay (row ∷ rows) n (suc k) = rows_stay rows n k

-- with more rows of nothing the memory is that of the list too
grown : (shape : Shape) (area : List ℕ) (n : ℕ) (list : List Command) (records : List Body) (table : List Row) (m : Memory)
    → IsLeft shape area (length table) 0 list records (filled table records m)
    → IsLeft shape area (length (table ++ replicate n no_row)) 0 list records (filled (table ++ replicate n no_row) records m)
grown shape area n list records table m left = record {
  remembers = record {
    placed = left.remembers.placed;
    lens = left.remembers.lens;
    owners = left.remembers.owners;
    files = left.remembers.files;
    spent = λ user. ap as_spent (rows_stay table n user.0) ∙ left.remembers.spent user;
  };
  placed = record { shares = left.placed.shares; recipes = left.placed.recipes };
  shares = left.shares;
  recipes = left.recipes;
  users_are = refl;
  lie = left.lie;
}

pub later_left : (shape : Shape) (cloud end : ℕ) (area : List ℕ) (list : List Command) (records : List Body) (m : Memory) (command : Command) (body : Body) (laid : List Placed)
    → IsSound shape cloud (list ++ command ∷ []) → ((q : UserId) → files_of shape list q ≤ 16384) → IsLeftOne shape area end list records m
    → IsRecord 0 records list command body laid → All (IsAt area) laid
    → IsLeftOne shape area end (list ++ command ∷ []) (records ++ body ∷ []) (first_left shape area m body)
later_left shape cloud end area list records m command body laid sound few one is lie =
    let n = suc (user_of command).0 in
    let table = one.table ++ replicate n no_row in
    let old = grown shape area n list records one.table m one.left in
    let place : (user_of command).0 < length table =
    (let a = length-append one.table (replicate n no_row) in let b = length-replicate n no_row in omega (arith, a, b)) in
    let next = next_left shape area (length table) 0 list records (filled table records m) old cloud command body laid is sound place few lie in
    left_one shape area (length table) end (list ++ command ∷ []) (records ++ body ∷ []) (record_left shape area false (filled table records m) body) (first_left shape area m body) next
    (record_alike shape area false true body (filled table records m) m (record { places = refl; owners = refl; files = refl; shares_end = refl }))
    (let a = recipes_next shape (recipe_for area m body) body m in
    let b = further_max m.recipes_end (recipes_placed body) in
    let c = one.recipes in
    let d : recipes_end 0 (records ++ body ∷ []) ≡ max (greatest_end 0 (recipes_in records)) (greatest_end 0 (recipes_placed body)) =
    ap (greatest_end 0) (recipes_more records body) ∙ greatest_append (recipes_in records) (recipes_placed body) in
    omega (arith, a, b, c, d))
