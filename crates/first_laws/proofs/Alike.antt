-- Memories that differ in what was spent and in where recipes end: a record leaves them so.
use Rattle.std.proofs.Common.{◌≡◌, ℕ, Bool, true, false, List, [], ◌∷◌, ◌++◌, refl, sym, ap, subst, arith}
use Rattle.std.specs.Prelude.{max}
use Rattle.std.specs.FinMap.{get}
use Rattle.journal_halves.specs.CdBase.ids.UserId.{UserId}
use Rattle.journal_halves.specs.CdBase.place.Place.{Place}
use Rattle.journal_halves.specs.CdBase.shape.Shape.{Shape}
use Rattle.compact_memories.specs.FileIndex.Files.{key_of}
use Rattle.first_records.specs.RecordBody.body.PutItem.{PutItem}
use Rattle.first_records.specs.RecordBody.body.KeptItem.{KeptItem}
use Rattle.first_records.specs.RecordBody.Spelling as bodies
use Rattle.first_records.specs.RecordBody.Spelling.{Body}
use Rattle.compact_memories.specs.UserDedup.command.Command.{Command}
use Rattle.compact_memories.specs.CloudAreas.Placing.{recipes_placed, end_of, greatest_end, recipes_end}
use Rattle.compact_memories.specs.CloudMemory.Memory.{Memory}
use Rattle.compact_memories.specs.CloudMemory.Steps.{with_item, with_items, with_kept, with_kepts, places_with, end_with}
use Rattle.compact_memories.proofs.CloudMemoryLaws.Puts.{recipes_end_stays}
use Rattle.record_laws.specs.Leaving.{taken, recipe_for, entry_bytes, record_left, left_by, IsLeft}
use Rattle.record_laws.proofs.Places.{further, kepts_recipes_end}
use Rattle.first_laws.specs.Leaving.{IsLeftOne}

-- the same shares, owners and entries
pub record Alike (a b : Memory) : Type 0 where
  pub places : a.places ≡ b.places
  pub owners : a.owners ≡ b.owners
  pub files : a.files ≡ b.files
  pub shares_end : a.shares_end ≡ b.shares_end

pub itself : (m : Memory) → Alike m m
itself m = record { places = refl; owners = refl; files = refl; shares_end = refl }

item_alike : (user : UserId) (item : PutItem) (a b : Memory) → Alike a b → Alike (with_item user a item) (with_item user b item)
item_alike user item a b same = record {
  places = ap (λ p. places_with p item.fp item.place) same.places;
  owners = (λ i. (with_item user (record b { owners = same.owners i }) item).owners);
  files = same.files;
  shares_end = ap (λ e. end_with e item.place) same.shares_end;
}

items_alike : (user : UserId) (items : List PutItem) (a b : Memory) → Alike a b → Alike (with_items user a items) (with_items user b items)
items_alike user [] a b same = same
items_alike user (item ∷ items) a b same = items_alike user items (with_item user a item) (with_item user b item) (item_alike user item a b same)

kept_alike : (item : KeptItem) (a b : Memory) → Alike a b → Alike (with_kept a item) (with_kept b item)
kept_alike item a b same = record {
  places = (λ i. (with_kept (record b { places = same.places i }) item).places);
  owners = same.owners;
  files = same.files;
  shares_end = ap (λ e. max e (end_of item.place)) same.shares_end;
}

kepts_alike : (items : List KeptItem) (a b : Memory) → Alike a b → Alike (with_kepts a items) (with_kepts b items)
kepts_alike [] a b same = same
kepts_alike (item ∷ items) a b same = kepts_alike items (with_kept a item) (with_kept b item) (kept_alike item a b same)

module _ (shape : Shape) where
  -- inside of a checkpoint and behind it
  taken_alike : (i j : Bool) (recipe : List ℕ) (body : Body) (a b : Memory) → Alike a b → Alike (taken shape i recipe body a) (taken shape j recipe body b)
  taken_alike true true recipe (bodies.Put user items) a b same = items_alike user items a b same
  taken_alike true false recipe (bodies.Put user items) a b same =
      let s = items_alike user items a b same in record { places = s.places; owners = s.owners; files = s.files; shares_end = s.shares_end }
  taken_alike false true recipe (bodies.Put user items) a b same =
      let s = items_alike user items a b same in record { places = s.places; owners = s.owners; files = s.files; shares_end = s.shares_end }
  taken_alike false false recipe (bodies.Put user items) a b same =
      let s = items_alike user items a b same in record { places = s.places; owners = s.owners; files = s.files; shares_end = s.shares_end }
  taken_alike true true recipe (bodies.Commit c) a b same = record {
    places = same.places;
    owners = (λ k. (taken shape true recipe (bodies.Commit c) (record b { owners = same.owners k })).owners);
    files = (λ k. (taken shape true recipe (bodies.Commit c) (record b { files = same.files k })).files);
    shares_end = same.shares_end;
  }
  taken_alike true false recipe (bodies.Commit c) a b same = record {
    places = same.places;
    owners = (λ k. (taken shape true recipe (bodies.Commit c) (record b { owners = same.owners k })).owners);
    files = (λ k. (taken shape true recipe (bodies.Commit c) (record b { files = same.files k })).files);
    shares_end = same.shares_end;
  }
  taken_alike false true recipe (bodies.Commit c) a b same = record {
    places = same.places;
    owners = (λ k. (taken shape true recipe (bodies.Commit c) (record b { owners = same.owners k })).owners);
    files = (λ k. (taken shape true recipe (bodies.Commit c) (record b { files = same.files k })).files);
    shares_end = same.shares_end;
  }
  taken_alike false false recipe (bodies.Commit c) a b same = record {
    places = same.places;
    owners = (λ k. (taken shape true recipe (bodies.Commit c) (record b { owners = same.owners k })).owners);
    files = (λ k. (taken shape true recipe (bodies.Commit c) (record b { files = same.files k })).files);
    shares_end = same.shares_end;
  }
  taken_alike i j recipe (bodies.Delete d) a b same = record {
    places = same.places;
    owners = (λ k. (taken shape true recipe (bodies.Delete d) (record b { owners = same.owners k })).owners);
    files = (λ k. (taken shape true recipe (bodies.Delete d) (record b { files = same.files k })).files);
    shares_end = same.shares_end;
  }
  taken_alike i j recipe (bodies.Kept items) a b same = kepts_alike items a b same
  taken_alike i j recipe (bodies.Spent s) a b same = record { places = same.places; owners = same.owners; files = same.files; shares_end = same.shares_end }

  -- what is read for a record follows from the entries
  same_recipe : (area : List ℕ) (body : Body) (a b : Memory) → a.files ≡ b.files → recipe_for area a body ≡ recipe_for area b body
  same_recipe area (bodies.Put user items) a b same = refl
  same_recipe area (bodies.Commit c) a b same = refl
  same_recipe area (bodies.Delete d) a b same = ap (λ f. entry_bytes area (get f (key_of d.user.0 d.tag.0 d.version.0))) same
  same_recipe area (bodies.Kept items) a b same = refl
  same_recipe area (bodies.Spent s) a b same = refl

  pub record_alike : (area : List ℕ) (i j : Bool) (body : Body) (a b : Memory) → Alike a b → Alike (record_left shape area i a body) (record_left shape area j b body)
  record_alike area i j body a b same =
      subst (λ (read : List ℕ). Alike (taken shape i read body a) (record_left shape area j b body)) (sym (same_recipe area body a b same.files))
      (taken_alike i j (recipe_for area b body) body a b same)

  pub left_alike : (area : List ℕ) (i j : Bool) (records : List Body) (a b : Memory) → Alike a b → Alike (left_by shape area i a records) (left_by shape area j b records)
  left_alike area i j [] a b same = same
  left_alike area i j (body ∷ records) a b same =
      left_alike area i j records (record_left shape area i a body) (record_left shape area j b body) (record_alike area i j body a b same)

  -- ---- where recipes end

  pub recipes_next : (recipe : List ℕ) (body : Body) (m : Memory) → (taken shape true recipe body m).recipes_end ≡ further m.recipes_end (recipes_placed body)
  recipes_next recipe (bodies.Put user items) m = recipes_end_stays user m items
  recipes_next recipe (bodies.Commit c) m = refl
  recipes_next recipe (bodies.Delete d) m = refl
  recipes_next recipe (bodies.Kept items) m = kepts_recipes_end m items
  recipes_next recipe (bodies.Spent s) m = refl

pub greatest_append : (ps qs : List Place) → greatest_end 0 (ps ++ qs) ≡ max (greatest_end 0 ps) (greatest_end 0 qs)
greatest_append [] qs = omega arith
greatest_append (p ∷ ps) qs = omega (arith, greatest_append ps qs)

-- ---- what a later format would leave

-- A memory that is as one of a later format, but for what was spent and where recipes end, is that of the list.
pub left_one : (shape : Shape) (area : List ℕ) (users end : ℕ) (list : List Command) (records : List Body) (b m : Memory) → IsLeft shape area users 0 list records b → Alike b m
    → m.recipes_end ≡ max end (recipes_end 0 records) → IsLeftOne shape area end list records m
left_one shape area users end list records b m left same ends = record {
  table = b.spent;
  left =
      subst (λ (x : ℕ × Memory). IsLeft shape area x.0 0 list records x.1)
      (λ i. (
        sym left.users_are i,
        record {
          places = same.places i;
          owners = same.owners i;
          files = same.files i;
          spent = b.spent;
          shares_end = same.shares_end i;
          recipes_end = left.recipes i;
        },
      )) left;
  recipes = ends;
}
