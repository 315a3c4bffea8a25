-- Blobs that are alive: what an area has of them, and their copies.
use Rattle.std.specs.Prelude.{◌≡◌, ◌⊎◌, ℕ, ◌+◌, ◌<◌, ◌≤◌, List, [], ◌∷◌, ◌++◌, length, map, All, slice_index}
use Rattle.compact_lists.specs.CdBase.ids.Fp.{Fp}
use Rattle.compact_lists.specs.CdBase.place.Place.{Place}
use Rattle.fresh_checkpoints.specs.CdEdges.area.Area.TheVariants.{Journal, Shares, Recipes}
use Rattle.fresh_checkpoints.specs.CdEdges.Disk.{Cloud, Store, Image, IsOutside, MayLeave}
use Rattle.fresh_checkpoints.specs.CloudAreas.Placing.{region_len}
use Rattle.record_laws.specs.ContainerLog.Laying.{Placed, IsAt}
use Rattle.record_laws.specs.ContainerLog.Places.{place_of, end_after}
use Rattle.record_laws.specs.FileIndex.key.Entry.{Entry}
use Rattle.record_laws.specs.FileIndex.key.FileKey.{FileKey}
use Rattle.compact_lists.specs.UserDedup.Strings.{fingerprint}
use Rattle.cloud_store.specs.declared.store.CloudStore.{CloudStore}
use Rattle.blob_copy.specs.Answers.{bytes_at}
use Rattle.blob_copy.specs.Copying.{copies_start, shares_so_far, entries_so_far}
use Rattle.blob_copy.specs.declared.copying.Copying.{Copying}

-- ---- blobs

-- a blob that is alive: its name, where it lies, and how long it is
pub record Blob : Type 0 where
  pub named : Fp
  pub at : ℕ
  pub len : ℕ

abbrev pub share_blob : Fp × Place → Blob
share_blob x = record { named = x.0; at = x.1.at; len = x.1.len }

abbrev pub entry_blob : FileKey × Entry → Blob
entry_blob x = record { named = x.1.fp; at = x.1.at; len = x.1.len }

-- what the area has there
abbrev pub found_in : List ℕ → Blob → List ℕ
found_in area b = bytes_at area b.at b.len

-- The area has as many bytes there as the blob is long, and they hash to its name.
pub record IsRight (area : List ℕ) (b : Blob) : Type 0 where
  pub long : length (found_in area b) ≡ b.len
  pub hashed : fingerprint (found_in area b) ≡ b.named

-- copies of what an area has of some blobs, one behind another from the end on, each at the least place in one container
abbrev pub copies_at : List ℕ → ℕ → List Blob → List Placed
copies_at area end [] = []
copies_at area end (b ∷ bs) = record { place = place_of end b.len; blob = found_in area b } ∷ copies_at area (end_after end b.len) bs

-- ---- what a step copies

-- The slots between two points have these shares and entries alive. Each reads right in the areas as they were; and its bytes there lie at
-- its new place in the new areas, behind the copies so far.
pub record HasCopied (store : CloudStore) (from to : Copying) (old new : Image) : Type 0 where
  pub shares : List (Fp × Place)
  pub entries : List (FileKey × Entry)
  pub shares_more : shares_so_far store to ≡ shares_so_far store from ++ shares
  pub entries_more : entries_so_far store to ≡ entries_so_far store from ++ entries
  pub shares_right : All (IsRight (old Shares)) (map share_blob shares)
  pub entries_right : All (IsRight (old Recipes)) (map entry_blob entries)
  pub shares_lie : All (IsAt (new Shares)) (copies_at (old Shares) store.disk.shares.end (map share_blob shares))
  pub entries_lie : All (IsAt (new Recipes)) (copies_at (old Recipes) store.disk.recipes.end (map entry_blob entries))

-- ---- what stays beside the copies

-- where the region of the copies ends
abbrev pub copies_end : CloudStore → ℕ
copies_end store = copies_start store + region_len

-- What lies in front of both logs' ends, as do the copies so far and all in front of their region, and what lies behind that region: it lies
-- there still. So does the journal.
pub record KeepsBeside (store : CloudStore) (old new : Cloud) : Type 0 where
  pub journal : new.now Journal ≡ old.now Journal
  pub shares : (b : Placed) → (b.place + length b.blob ≤ store.disk.shares.end) ⊎ (copies_end store ≤ b.place)
      → IsAt (old.now Shares).read b → IsAt (new.now Shares).read b
  pub recipes : (b : Placed) → (b.place + length b.blob ≤ store.disk.recipes.end) ⊎ (copies_end store ≤ b.place)
      → IsAt (old.now Recipes).read b → IsAt (new.now Recipes).read b

-- Each byte in front of the one place or behind the other that lay in the area at its last sync and wasn't written since is there still.
pub record KeepsOutside (front behind : ℕ) (store : Store) (image : List ℕ) : Type 0 where
  pub no_shorter : length store.synced ≤ length image
  pub kept : (place : ℕ) → (place < front) ⊎ (behind ≤ place) → place < length store.synced → IsOutside store.written place
      → slice_index image place ≡ slice_index store.synced place

-- The same of what a crash leaves; the journal is left as it might have been before.
pub record IsBeside (store : CloudStore) (old : Cloud) (image : Image) : Type 0 where
  pub journal : MayLeave (old.now Journal) (image Journal)
  pub shares : KeepsOutside store.disk.shares.end (copies_end store) (old.now Shares) (image Shares)
  pub recipes : KeepsOutside store.disk.recipes.end (copies_end store) (old.now Recipes) (image Recipes)
