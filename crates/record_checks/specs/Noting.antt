-- What is kept of the records beside the memory: who has a Spent, and where the place of the farthest blob stands in the journal.
use Rattle.std.specs.Prelude.{◌≡◌, ◌≤◌, ℕ, ◌+◌, max, Ok, true, false, List, [], ◌∷◌, length, slice_set, replicate, Option, Some, None, nat_lt, if◌then◌else◌}
use Rattle.cloud_memory.specs.RecordBody.body.KeptItem.{KeptItem}
use Rattle.cloud_memory.specs.RecordBody.Reading.{body_at}
use Rattle.cloud_memory.specs.RecordBody.Spelling.{Body, Put, Commit, Delete, Kept, Spent}
use Rattle.cloud_memory.specs.RecordBody.body.PutItem.{PutItem}
use Rattle.cloud_memory.specs.RecordBody.FirstSpelling.{item_bytes}
use Rattle.cloud_memory.specs.CdBase.place.Place.{Place}
use Rattle.cloud_memory.specs.CloudAreas.Placing.{end_of}
use Rattle.cloud_memory.specs.Memory.{Memory}
use Rattle.cloud_memory.specs.Steps.{end_with}
use Rattle.record_checks.specs.declared.damage.Damage.{Damage}
use Rattle.record_checks.specs.declared.ground.Ground.{Ground}
use Rattle.record_checks.specs.declared.taking.Taking.{Taking}
use Rattle.record_checks.specs.Checks.{damaged_at, put_items, kept_items, place_at}

-- what is kept before the first record
abbrev pub nothing_noted : Taking
nothing_noted = record { spent = replicate 256 false; shares_field = None; recipes_field = None }

-- a blob's place field, where the blob ends behind the end so far; else the field so far
abbrev pub farther_field : ℕ → Option Damage → Option Place → Damage → Option Damage
farther_field end field None here = field
farther_field end field (Some place) here = if nat_lt end (end_of place) then Some here else field

-- the same, item by item of a Put, where the first of them begins at a place of the body
abbrev pub put_field : ℕ → List ℕ → ℕ → ℕ → Option Damage → List PutItem → Option Damage
put_field at body end from field [] = field
put_field at body end from field (item ∷ items) = put_field at body (end_with end item.place) (from + length (item_bytes item))
    (farther_field end field item.place (damaged_at at body (from + 33))) items

-- and of a Kept
abbrev pub kept_field : ℕ → List ℕ → ℕ → ℕ → Option Damage → List KeptItem → Option Damage
kept_field at body end from field [] = field
kept_field at body end from field (item ∷ items) = kept_field at body (max end (end_of item.place)) (from + 44)
    (farther_field end field (Some item.place) (damaged_at at body (from + 32))) items

-- What is kept once a record is taken, whose body has these bytes, begins at a place of the journal and says this, over this memory.
abbrev pub noted : ℕ → List ℕ → Memory → Taking → Body → Taking
noted at body m t (Put user items) = record {
  spent = t.spent;
  shares_field = put_field at body m.shares_end put_items t.shares_field items;
  recipes_field = t.recipes_field;
}
noted at body m t (Commit c) = record {
  spent = t.spent;
  shares_field = t.shares_field;
  recipes_field = farther_field m.recipes_end t.recipes_field (Some (record { at = c.at; len = c.len })) (damaged_at at body place_at);
}
noted at body m t (Delete d) = t
noted at body m t (Kept items) = record {
  spent = t.spent;
  shares_field = kept_field at body m.shares_end kept_items t.shares_field items;
  recipes_field = t.recipes_field;
}
noted at body m t (Spent s) = record {
  spent = slice_set t.spent s.user.0 true;
  shares_field = t.shares_field;
  recipes_field = t.recipes_field;
}

-- what is kept where the bytes are read as a record
abbrev pub IsNoted : ℕ → List ℕ → Memory → Taking → Taking → Type 0
IsNoted at body m old new = (b : Body) → body_at body ≡ Ok b → new ≡ noted at body m old b

-- Both ends only grow, and a record brings them no further on than the ends of their areas.
pub record EndsGrow (g : Ground) (old new : Memory) : Type 0 where
  pub shares : old.shares_end ≤ new.shares_end
  pub shares_within : new.shares_end ≤ max old.shares_end g.shares_len
  pub recipes : old.recipes_end ≤ new.recipes_end
  pub recipes_within : new.recipes_end ≤ max old.recipes_end g.recipes_len
