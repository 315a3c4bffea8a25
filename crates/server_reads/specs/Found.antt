-- What is found where a server's memory says that something lies, and what reading leaves of a log.
use Rattle.std.specs.Prelude.{◌≡◌, ◌≢◌, ◌⊎◌, ℕ, ◌+◌, ◌<◌, ◌≤◌, List, [], length, take, drop, Some, None, IsTrue}
use Rattle.std.specs.FinMap.{get}
use Rattle.cloud_memory.specs.CdBase.Limits.{recipe_limit}
use Rattle.cloud_memory.specs.CdBase.ids.Fp.{Fp}
use Rattle.cloud_memory.specs.CdBase.ids.Tag.{Tag}
use Rattle.cloud_memory.specs.CdBase.ids.Version.{Version}
use Rattle.cd_edges.specs.declared.area.Area.TheVariants.{Shares, Recipes}
use Rattle.cd_edges.specs.Disk.{Cloud, reads}
use Rattle.cloud_memory.specs.ContainerLog.Laying.{IsAt}
use Rattle.cloud_memory.specs.ContainerLog.States.{State, Agrees}
use Rattle.cloud_memory.specs.FileIndex.key.Entry.{Entry}
use Rattle.cloud_memory.specs.FileIndex.key.FileKey.{FileKey}
use Rattle.messages.specs.MessageFields.Shares.{share_limit}
use Rattle.cloud_memory.specs.CdBase.place.Place.{Place}
use Rattle.cloud_memory.specs.UserDedup.file_list.FileEntry.{FileEntry}
use Rattle.cloud_memory.specs.UserDedup.Cloud.{fingerprint}
use Rattle.cloud_memory.specs.UserDedup.Pages.{entry_at}
use Rattle.cloud_memory.specs.Memory.{Memory}

-- the fingerprint of what an area has from a place on, as many bytes as there are up to so many
abbrev pub found_at : List ℕ → ℕ → ℕ → Fp
found_at area at len = fingerprint (take len (drop at area))

-- Something else lies at a place: this is the fingerprint of what lies there, as many bytes as there are up to so many. It isn't the
-- one that was named, or fewer bytes are there.
pub record IsOther (area : List ℕ) (at len : ℕ) (named found : Fp) : Type 0 where
  pub found_is : found ≡ found_at area at len
  pub other : (named ≢ found) ⊎ (length area < at + len)

-- By the place that the memory has for the first fingerprint: where it has a length that a share may have, and the cloud is told, the
-- area of shares has something else there, with the second fingerprint. Where the memory has no place, or one of another length, the
-- second fingerprint is that of no bytes.
pub record IsFoundShare (cloud : Cloud) (m : Memory) (named found : Fp) : Type 0 where
  pub lies : IsTrue cloud.told → (place : Place) → get m.places named.0 ≡ Some place → 1 ≤ place.len
      → place.len ≤ share_limit
      → IsOther (reads cloud.now Shares) place.at place.len named found
  pub none : get m.places named.0 ≡ None → found ≡ fingerprint []
  pub unfit : (place : Place) → get m.places named.0 ≡ Some place → (place.len < 1) ⊎ (share_limit < place.len)
      → found ≡ fingerprint []

-- The bytes have the fingerprint of the entry that the memory has.
abbrev pub AreEntryBytes : Memory → FileKey → List ℕ → Type 0
AreEntryBytes m key bytes = (entry : Entry) × (get m.files key ≡ Some entry) × (fingerprint bytes ≡ entry.fp)

-- The memory has no entry.
abbrev pub HasNone : Memory → FileKey → Type 0
HasNone m key = get m.files key ≡ None

-- The memory has an entry with the first fingerprint. Where it has a length that a recipe may have, and the cloud is told, the area of
-- recipes has something else at its place, with the second fingerprint. Where it has another length, the second is that of no bytes.
pub record IsFoundRecipe (cloud : Cloud) (m : Memory) (key : FileKey) (named found : Fp) : Type 0 where
  pub entry : Entry
  pub kept : get m.files key ≡ Some entry
  pub named_is : named ≡ entry.fp
  pub lies : IsTrue cloud.told → 1 ≤ entry.len → entry.len ≤ recipe_limit
      → IsOther (reads cloud.now Recipes) entry.at entry.len named found
  pub unfit : (entry.len < 1) ⊎ (recipe_limit < entry.len) → found ≡ fingerprint []

-- The entry of a key has a recipe of a length that a recipe may have, its fingerprint, and the recipe lies at the memory's place.
pub record EntryStands (recipes : List ℕ) (files : List FileEntry) (key : Tag × Version) (entry : Entry) : Type 0 where
  pub file : FileEntry
  pub here : entry_at files key ≡ Some file
  pub some : 1 ≤ entry.len
  pub few : entry.len ≤ recipe_limit
  pub long : length file.recipe ≡ entry.len
  pub named : fingerprint file.recipe ≡ entry.fp
  pub lies : IsAt recipes (record { place = entry.at; blob = file.recipe })

-- Of a log only the containers that it keeps have changed. Where they were what the told cloud's area has there, they still are.
pub record ReadsLog (old new : State) (before after : Cloud) : Type 0 where
  pub rest : new ≡ record old { kept = new.kept }
  pub agrees : IsTrue before.told → Agrees old (before.now old.area).read → Agrees new (after.now new.area).read
