-- What is left in a memory whose blobs move.
use Rattle.std.specs.Prelude.{ℕ, Option, Some, None}
use Rattle.std.specs.FinMap.{FinMap, get, insert, remove}
use Rattle.spent_table.specs.CdBase.ids.Fp.{Fp}
use Rattle.spent_table.specs.CdBase.place.Place.{Place}
use Rattle.file_index.specs.declared.key.Entry.{Entry}
use Rattle.file_index.specs.declared.key.FileKey.{FileKey}
use Rattle.file_index.specs.Order.{key_cmp}
use Rattle.cloud_memory.specs.Memory.{Memory}

-- the share lies at this place
abbrev pub with_place : Fp → Place → Memory → Memory
with_place fp place m = record {
  places = insert m.places fp.0 place;
  owners = m.owners;
  files = m.files;
  spent = m.spent;
  shares_end = m.shares_end;
  recipes_end = m.recipes_end;
}

-- the share lies nowhere
abbrev pub without_place : Fp → Memory → Memory
without_place fp m = record {
  places = remove m.places fp.0;
  owners = m.owners;
  files = m.files;
  spent = m.spent;
  shares_end = m.shares_end;
  recipes_end = m.recipes_end;
}

-- an entry whose recipe lies elsewhere
abbrev pub lying_at : ℕ → Entry → Entry
lying_at at e = record { at = at; len = e.len; fp = e.fp }

-- the entries, where that of a key lies elsewhere, if there is one
abbrev pub files_moved : FinMap key_cmp Entry → FileKey → ℕ → Option Entry → FinMap key_cmp Entry
files_moved files key at None = files
files_moved files key at (Some e) = insert files key (lying_at at e)

-- the recipe of the key's entry lies at this place
abbrev pub with_recipe_at : FileKey → ℕ → Memory → Memory
with_recipe_at key at m = record {
  places = m.places;
  owners = m.owners;
  files = files_moved m.files key at (get m.files key);
  spent = m.spent;
  shares_end = m.shares_end;
  recipes_end = m.recipes_end;
}

-- shares and recipes end here
abbrev pub with_ends : ℕ → ℕ → Memory → Memory
with_ends shares recipes m = record {
  places = m.places;
  owners = m.owners;
  files = m.files;
  spent = m.spent;
  shares_end = shares;
  recipes_end = recipes;
}
