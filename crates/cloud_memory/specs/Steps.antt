-- What a command, or its record, leaves in a memory.
use Rattle.std.specs.Prelude.{ℕ, zero, suc, ◌+◌, ◌-◌, ◌^◌, min, max, List, [], ◌∷◌, length, fold, slice_set, replicate, Option, Some, None, is_some, if◌then◌else◌}
use Rattle.std.specs.List.{sum_by}
use Rattle.std.specs.FinMap.{FinMap, empty, get, insert, remove}
use Rattle.spent_table.specs.CdBase.ids.Fp.{Fp}
use Rattle.spent_table.specs.CdBase.ids.UserId.{UserId}
use Rattle.cloud_areas.specs.ContainerLog.Places.{place_of}
use Rattle.file_index.specs.declared.key.FileKey.{FileKey}
use Rattle.file_index.specs.Files.{key_of}
use Rattle.cloud_areas.specs.RecordBody.body.CommitBody.{CommitBody}
use Rattle.cloud_areas.specs.RecordBody.body.PutItem.{PutItem}
use Rattle.cloud_areas.specs.RecordBody.body.KeptItem.{KeptItem}
use Rattle.spent_table.specs.CdBase.place.Place.{Place}
use Rattle.share_index.specs.Order.{owner_cmp, owner_of}
use Rattle.spent_table.specs.CdBase.Order.{fp_cmp}
use Rattle.share_index.specs.Shares.{uses_at}
use Rattle.spent_table.specs.declared.Spent.{Spent}
use Rattle.spent_table.specs.Spending.{nothing, spent_by, both}
use Rattle.cloud_areas.specs.Placing.{region_start, end_of}
use Rattle.cloud_memory.specs.declared.rooms.New.{New}
use Rattle.cloud_memory.specs.Memory.{Memory}

-- the memory of no commands, of so many users, with the blobs in this region
abbrev pub begun : ℕ → ℕ → Memory
begun users region = record {
  places = empty;
  owners = empty;
  files = empty;
  spent = replicate users nothing;
  shares_end = region_start region;
  recipes_end = region_start region;
}

-- ---- uses

-- one use more, as far as 32 bits reach
abbrev pub raised : ℕ → ℕ
raised uses = min (uses + 1) (2 ^ 32 - 1)

abbrev pub with_use : UserId → FinMap owner_cmp ℕ → Fp → FinMap owner_cmp ℕ
with_use user owners fp = insert owners (owner_of user.0 fp.0) (raised (uses_at owners (owner_of user.0 fp.0)))

-- one use less than so many; with the last one the user owns the fingerprint no more
abbrev pub less_one : UserId → FinMap owner_cmp ℕ → Fp → ℕ → FinMap owner_cmp ℕ
less_one user owners fp zero = owners
less_one user owners fp (suc zero) = remove owners (owner_of user.0 fp.0)
less_one user owners fp (suc (suc uses)) = insert owners (owner_of user.0 fp.0) (suc uses)

abbrev pub without_use : UserId → FinMap owner_cmp ℕ → Fp → FinMap owner_cmp ℕ
without_use user owners fp = less_one user owners fp (uses_at owners (owner_of user.0 fp.0))

-- ---- a Put

-- the places with this one for the fingerprint, where there is one
abbrev pub places_with : FinMap fp_cmp Place → Fp → Option Place → FinMap fp_cmp Place
places_with places fp None = places
places_with places fp (Some place) = insert places fp.0 place

-- the end, which is behind this place too, where there is one
abbrev pub end_with : ℕ → Option Place → ℕ
end_with end None = end
end_with end (Some place) = max end (end_of place)

-- the user owns the item's fingerprint too, with no uses, and the fingerprint has the item's place
abbrev pub with_item : UserId → Memory → PutItem → Memory
with_item user m item = record {
  places = places_with m.places item.fp item.place;
  owners = insert m.owners (owner_of user.0 item.fp.0) 0;
  files = m.files;
  spent = m.spent;
  shares_end = end_with m.shares_end item.place;
  recipes_end = m.recipes_end;
}

abbrev pub with_items : UserId → Memory → List PutItem → Memory
with_items user m items = fold (with_item user) m items

-- the user has spent so much more
abbrev pub spends : UserId → Spent → Memory → Memory
spends user more m = record {
  places = m.places;
  owners = m.owners;
  files = m.files;
  spent = slice_set m.spent user.0 (both (spent_by m.spent user) more);
  shares_end = m.shares_end;
  recipes_end = m.recipes_end;
}

abbrev pub placed_len : Option Place → ℕ
placed_len None = 0
placed_len (Some place) = place.len

-- what the items of a Put spend: each share counts with the length that is held under its fingerprint
abbrev pub spent_on : Memory → List PutItem → Spent
spent_on m items = record { owners = length items; shares = sum_by (λ (item : PutItem). placed_len (get m.places item.fp.0)) items; recipes = 0 }

abbrev pub with_put : UserId → List PutItem → Memory → Memory
with_put user items m = let filled = with_items user m items in spends user (spent_on filled items) filled

-- the part of the record of a share that is put now: a place behind the end, where its fingerprint has none
abbrev pub part_in : Memory → New → PutItem
part_in m n = record {
  fp = n.fp;
  place = if is_some (get m.places n.fp.0) then None else Some (record { at = place_of m.shares_end n.len; len = n.len });
}

-- the parts of the record of a Put of these shares
abbrev pub parts_of : UserId → Memory → List New → List PutItem
parts_of user m [] = []
parts_of user m (n ∷ news) = part_in m n ∷ parts_of user (with_item user m (part_in m n)) news

-- how many bytes are held under a share's fingerprint, once it is put
abbrev pub len_or : Option Place → ℕ → ℕ
len_or None len = len
len_or (Some place) len = place.len

abbrev pub held_len : FinMap fp_cmp Place → New → ℕ
held_len places n = len_or (get places n.fp.0) n.len

-- ---- a Commit

-- the entry, and a use more of each fingerprint for each item that names it
abbrev pub with_entry : List Fp → CommitBody → Memory → Memory
with_entry names c m = record {
  places = m.places;
  owners = fold (with_use c.user) m.owners names;
  files = insert m.files (key_of c.user.0 c.tag.0 c.version.0) (record { at = c.at; len = c.len; fp = c.fp });
  spent = m.spent;
  shares_end = m.shares_end;
  recipes_end = max m.recipes_end (c.at + c.len);
}

-- the same, and the recipe's bytes as spent
abbrev pub with_commit : List Fp → CommitBody → Memory → Memory
with_commit names c m = spends c.user (record { owners = 0; shares = 0; recipes = c.len }) (with_entry names c m)

-- ---- a Delete

-- without the entry, and with a use less of each fingerprint for each item that named it
abbrev pub without_entry : List Fp → UserId → FileKey → Memory → Memory
without_entry names user key m = record {
  places = m.places;
  owners = fold (without_use user) m.owners names;
  files = remove m.files key;
  spent = m.spent;
  shares_end = m.shares_end;
  recipes_end = m.recipes_end;
}

-- ---- records of a checkpoint alone

-- the share lies at its place, and nobody owns it more than before
abbrev pub with_kept : Memory → KeptItem → Memory
with_kept m item = record {
  places = insert m.places item.fp.0 item.place;
  owners = m.owners;
  files = m.files;
  spent = m.spent;
  shares_end = max m.shares_end (end_of item.place);
  recipes_end = m.recipes_end;
}

abbrev pub with_kepts : Memory → List KeptItem → Memory
with_kepts m items = fold with_kept m items

-- the user has spent so much; one without a place in the table spends nothing
abbrev pub with_spent : UserId → Spent → Memory → Memory
with_spent user spent m = record {
  places = m.places;
  owners = m.owners;
  files = m.files;
  spent = slice_set m.spent user.0 spent;
  shares_end = m.shares_end;
  recipes_end = m.recipes_end;
}
