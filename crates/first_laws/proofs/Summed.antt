-- What the records of a checkpoint of format 1 leave.
use Rattle.std.proofs.Common.{◌≡◌, inl, inr, ℕ, suc, ◌≤◌, true, List, [], ◌∷◌, ◌++◌, map, refl, sym, ap, ◌∙◌, subst, arith, append-nil}
use Rattle.std.specs.Prelude.{◌↔◌, max, All, Some}
use Rattle.std.specs.List.{Contains, sum_by}
use Rattle.std.specs.FinMap.{get}
use Rattle.std.proofs.lemmas.Grind.{flat_map-append}
use Rattle.std.proofs.lemmas.List.Elements.{Contains-append_cases}
use Rattle.std.proofs.lemmas.List.Sums.{fold-append}
use Rattle.journal_halves.specs.CdBase.ids.Fp.{Fp}
use Rattle.journal_halves.specs.CdBase.ids.UserId.{UserId}
use Rattle.journal_halves.specs.CdBase.place.Place.{Place}
use Rattle.journal_halves.specs.CdBase.shape.Shape.{Shape}
use Rattle.record_laws.specs.ContainerLog.Laying.{Placed, IsAt}
use Rattle.first_records.specs.RecordBody.body.SpentBody.{SpentBody}
use Rattle.first_records.specs.RecordBody.Spelling as bodies
use Rattle.first_records.specs.RecordBody.Spelling.{Body}
use Rattle.compact_memories.specs.UserDedup.command.Command.{Command}
use Rattle.compact_memories.specs.UserDedup.Compact.{users_in}
use Rattle.compact_memories.specs.UserDedup.Dedup.{IsSound}
use Rattle.compact_memories.specs.UserDedup.Spending.{files_of}
use Rattle.compact_memories.specs.CloudAreas.Chains.{AreLong}
use Rattle.compact_memories.specs.CloudAreas.Checkpoints.{IsCheckpointOfList}
use Rattle.compact_memories.specs.CloudAreas.Placing.{shares_placed, shares_in, recipes_placed, recipes_in, places_of, end_of, greatest_end}
use Rattle.compact_memories.proofs.CloudAreas.Counting.{no_weight}
use Rattle.compact_memories.proofs.CloudAreas.Lists.{from_map}
use Rattle.compact_memories.specs.CloudMemory.Memory.{Memory, commit_of}
use Rattle.compact_memories.specs.CloudMemory.Steps.{begun}
use Rattle.record_laws.specs.Leaving.{recipe_for, record_left, left_by, IsLeft}
use Rattle.record_laws.proofs.Checkpoint.{checkpoint_left}
use Rattle.record_laws.proofs.Places.{further, further_max}
use Rattle.first_laws.specs.Leaving.{begun_behind, first_left_by, IsLeftOne}
use Rattle.first_laws.proofs.Alike.{Alike, itself, left_alike, recipes_next, left_one}
use Rattle.first_laws.proofs.Known.{spender_known}
use Rattle.first_laws.proofs.Spenders.{spents, as_later}

-- ---- Spents place nothing

no_shares : (spents : List SpentBody) → shares_in (map bodies.Spent spents) ≡ []
no_shares [] = refl
no_shares (s ∷ spents) = no_shares spents

no_recipes : (spents : List SpentBody) → recipes_in (map bodies.Spent spents) ≡ []
no_recipes [] = refl
no_recipes (s ∷ spents) = no_recipes spents

shares_same : (records : List Body) (spents : List SpentBody) → shares_in (records ++ map bodies.Spent spents) ≡ shares_in records
shares_same records spents =
    flat_map-append shares_placed records (map bodies.Spent spents) ∙ ap (λ l. shares_in records ++ l) (no_shares spents) ∙ append-nil (shares_in records)

recipes_same : (records : List Body) (spents : List SpentBody) → recipes_in (records ++ map bodies.Spent spents) ≡ recipes_in records
recipes_same records spents =
    flat_map-append recipes_placed records (map bodies.Spent spents) ∙ ap (λ l. recipes_in records ++ l) (no_recipes spents) ∙ append-nil (recipes_in records)

-- a Commit stands among the records before them
is_before : (records : List Body) (spents : List SpentBody) (c : Body) → ((s : SpentBody) → bodies.Spent s ≡ c → ⊥) → Contains (records ++ map bodies.Spent spents) c → Contains records c
is_before records spents c other here = elim (Contains-append_cases records (map bodies.Spent spents) c here) [
  | inl old ↦ old
  | inr new ↦ (let s = from_map bodies.Spent spents c new in absurd (other s.0 s.2))
]

without_spents : (shape : Shape) (area : List ℕ) (users : ℕ) (list : List Command) (records : List Body) (spents : List SpentBody) (b : Memory)
    → IsLeft shape area users 0 list (records ++ map bodies.Spent spents) b → IsLeft shape area users 0 list records b
without_spents shape area users list records spents b left = record {
  remembers = left.remembers;
  placed = record {
    shares = subst (λ (l : List (Fp × Place)). (fp : Fp) (place : Place) → get b.places fp.0 ≡ Some place ↔ Contains l (fp, place)) (shares_same records spents) left.placed.shares;
    recipes = λ user tag version e got.
        is_before records spents (bodies.Commit (commit_of user tag version e)) (λ s same. cc) (left.placed.recipes user tag version e got);
  };
  shares = left.shares ∙ ap (λ (l : List (Fp × Place)). greatest_end 0 (places_of l)) (shares_same records spents);
  recipes = left.recipes ∙ ap (greatest_end 0) (recipes_same records spents);
  users_are = left.users_are;
  lie = left.lie;
}

-- ---- where recipes end

further_append : (end : ℕ) (ps qs : List Place) → further end (ps ++ qs) ≡ further (further end ps) qs
further_append end [] qs = refl
further_append end (p ∷ ps) qs = further_append (max end (end_of p)) ps qs

pub all_recipes : (shape : Shape) (area : List ℕ) (records : List Body) (m : Memory) → (left_by shape area true m records).recipes_end ≡ further m.recipes_end (recipes_in records)
all_recipes shape area [] m = refl
all_recipes shape area (body ∷ records) m =
    let next = record_left shape area true m body in
    all_recipes shape area records next
    ∙ ap (λ (n : ℕ). further n (recipes_in records)) (recipes_next shape (recipe_for area m body) body m)
    ∙ sym (further_append m.recipes_end (recipes_placed body) (recipes_in records))

spents_alike : (shape : Shape) (area : List ℕ) (spents : List SpentBody) (m : Memory) → Alike (left_by shape area true m (map bodies.Spent spents)) m
spents_alike shape area [] m = itself m
spents_alike shape area (s ∷ spents) m =
    let rest = spents_alike shape area spents (record_left shape area true m (bodies.Spent s)) in
    record { places = rest.places; owners = rest.owners; files = rest.files; shares_end = rest.shares_end }

pub summed_left : (shape : Shape) (cloud users end : ℕ) (area : List ℕ) (list : List Command) (records : List Body) (recipes : List Placed) → IsSound shape cloud list
    → ((q : UserId) → files_of shape list q ≤ 16384) → IsCheckpointOfList 1 shape list records recipes → AreLong list (shares_in records) → All (IsAt area) recipes
    → IsLeftOne shape area end list records (first_left_by shape area (begun_behind users end) records)
summed_left shape cloud users end area list records recipes sound few is long lie =
    let more = map bodies.Spent (spents list) in
    let rows = suc (sum_by (λ (n : ℕ). n) (users_in list)) in
    let m0 = begun rows 0 in
    let b = left_by shape area true m0 (records ++ more) in
    let left : IsLeft shape area rows 0 list (records ++ more) b =
    checkpoint_left 2 shape cloud list (records ++ more) recipes rows 0 area refl sound (as_later list shape records recipes is)
    (subst (AreLong list) (sym (shares_same records (spents list))) long) lie
    (λ q some. let one = no_weight (λ (n : ℕ). n) (λ (n : ℕ). n) (users_in list) q.0 (spender_known list q some) in omega (arith, one)) few in
    let mine = left_by shape area true m0 records in
    let apart : Alike b mine =
    subst (λ (x : Memory). Alike x mine) (sym (fold-append (record_left shape area true) m0 records more)) (spents_alike shape area (spents list) mine) in
    let same = left_alike shape area true true records m0 (begun_behind users end) (record { places = refl; owners = refl; files = refl; shares_end = refl }) in
    left_one shape area rows end list records b (first_left_by shape area (begun_behind users end) records) (without_spents shape area rows list records (spents list) b left)
    (record { places = apart.places ∙ same.places; owners = apart.owners ∙ same.owners; files = apart.files ∙ same.files; shares_end = apart.shares_end ∙ same.shares_end })
    (all_recipes shape area records (begun_behind users end) ∙ further_max end (recipes_in records))
