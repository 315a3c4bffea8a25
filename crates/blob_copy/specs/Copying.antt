-- A store that copies what is alive to the other region.
use Rattle.std.specs.Prelude.{◌≡◌, ◌⊎◌, ℕ, List, [], take, All, Some}
use Rattle.std.specs.List.{Contains}
use Rattle.compact_lists.specs.CdBase.ids.Fp.{Fp}
use Rattle.compact_lists.specs.CdBase.place.Place.{Place}
use Rattle.fresh_checkpoints.specs.CdEdges.area.Area.TheVariants.{Shares, Recipes}
use Rattle.fresh_checkpoints.specs.CdEdges.Disk.{Cloud, Image, reads}
use Rattle.record_laws.specs.ContainerLog.Laying.{IsAt}
use Rattle.record_laws.specs.ContainerLog.Places.{end_of_laid}
use Rattle.record_laws.specs.ContainerLog.States.{HasStaged, Agrees}
use Rattle.record_laws.specs.FileIndex.key.Entry.{Entry}
use Rattle.record_laws.specs.FileIndex.key.FileKey.{FileKey}
use Rattle.compact_lists.specs.JournalStart.start.Header.{Header}
use Rattle.compact_lists.specs.UserDedup.command.Command.{Command}
use Rattle.compact_lists.specs.UserDedup.file_list.FileEntry.{FileEntry}
use Rattle.compact_lists.specs.UserDedup.Cloud.{counted, user_view}
use Rattle.compact_lists.specs.UserDedup.Compact.{compact}
use Rattle.compact_lists.specs.UserDedup.Pages.{entry_at}
use Rattle.compact_lists.specs.UserDedup.Spending.{IsWithin}
use Rattle.fresh_checkpoints.specs.CloudAreas.Chains.{laid_shares}
use Rattle.fresh_checkpoints.specs.CloudAreas.Placing.{region_start}
use Rattle.fresh_checkpoints.specs.CloudAreas.Standing.{Chain, region_in, StandsFor}
use Rattle.fresh_checkpoints.specs.CloudDisk.Disk.{IsRead}
use Rattle.fresh_checkpoints.specs.CloudMemory.Memory.{Remembers, IsPlacedBy, HasEnds, Stand}
use Rattle.fresh_checkpoints.specs.CloudMemory.Rooms.{memory_of}
use Rattle.fresh_checkpoints.specs.CompactMemories.Kept.{live_in, live_places, entries_in, live_entries}
use Rattle.fresh_checkpoints.specs.CompactMemories.Moved.{other_region, new_places, lens_of, new_entries, entry_lens}
use Rattle.cloud_store.specs.declared.store.CloudStore.{CloudStore}
use Rattle.blob_copy.specs.declared.copying.Copying.{Copying}

-- ---- what is known of the memory while the logs end elsewhere

-- All that a store serves a list by, but where its logs end.
pub record Knows (list : List Command) (c : Chain) (store : CloudStore) (cloud : Cloud) : Type 0 where
  pub read : IsRead store.header list c store.disk.journal cloud
  pub remembers : Remembers store.header.shape list (memory_of store.memory)
  pub placed : IsPlacedBy c.records (memory_of store.memory)
  pub stand : Stand store.header.shape (reads cloud.now Shares) (reads cloud.now Recipes) list (memory_of store.memory)
  pub within : IsWithin store.header.shape store.header.rooms list
  pub ends : HasEnds store.region list c.records (memory_of store.memory)
  pub number : counted list ≡ store.commands
  pub region_is : region_in c ≡ store.region

-- ---- how far it is

-- what the slots so far have that is alive
abbrev pub shares_so_far : CloudStore → Copying → List (Fp × Place)
shares_so_far store copying = live_in store.memory.shares.owners (take copying.place_slot store.memory.shares.place_slots)

abbrev pub entries_so_far : CloudStore → Copying → List (FileKey × Entry)
entries_so_far store copying = entries_in (take copying.file_slot store.memory.files.slots)

-- where the copies begin
abbrev pub copies_start : CloudStore → ℕ
copies_start store = region_start (other_region store.region)

-- Both logs end behind the copies so far, in the other region, and nothing is staged.
pub record IsCopyLaid (store : CloudStore) (copying : Copying) : Type 0 where
  pub shares_end : store.disk.shares.end ≡ end_of_laid (copies_start store) (lens_of (shares_so_far store copying))
  pub recipes_end : store.disk.recipes.end ≡ end_of_laid (copies_start store) (entry_lens (entries_so_far store copying))
  pub shares_none : HasStaged store.disk.shares []
  pub recipes_none : HasStaged store.disk.recipes []

-- All that is alive was gone over.
pub record AreAllCopied (store : CloudStore) (copying : Copying) : Type 0 where
  pub places : shares_so_far store copying ≡ live_places store.memory
  pub entries : entries_so_far store copying ≡ live_entries store.memory

-- the recipe of each of these entries, as the list has it, lies at the entry's place
abbrev pub EntriesLie : Header → List Command → List ℕ → List (FileKey × Entry) → Type 0
EntriesLie header list area entries = (key : FileKey) (e : Entry) (entry : FileEntry) → Contains entries (key, e)
    → entry_at (user_view header.shape list (record { 0 = key.user })).files (record { 0 = key.tag }, record { 0 = key.version }) ≡ Some entry
    → IsAt area (record { place = e.at; blob = entry.recipe })

-- The store knows the list, and copies what is alive of it: the copies so far lie in the other region, where both logs end behind them.
pub record IsCopying (list : List Command) (c : Chain) (store : CloudStore) (copying : Copying) (cloud : Cloud) : Type 0 where
  pub knows : Knows list c store cloud
  pub laid : IsCopyLaid store copying
  pub shares_area : store.disk.shares.area ≡ Shares
  pub recipes_area : store.disk.recipes.area ≡ Recipes
  pub shares_agree : Agrees store.disk.shares (cloud.now Shares).read
  pub recipes_agree : Agrees store.disk.recipes (cloud.now Recipes).read
  pub shares_lie : All (IsAt (cloud.now Shares).read) (laid_shares list (new_places (copies_start store) (shares_so_far store copying)))
  pub recipes_lie : EntriesLie store.header list (cloud.now Recipes).read (new_entries (copies_start store) (entries_so_far store copying))

-- ---- what comes of a switch

-- the image stands for the list, or for what is kept of it
abbrev pub StandsForKept : Header → List Command → Image → Type 0
StandsForKept header list image = StandsFor image header list ⊎ StandsFor image header (compact header.shape list)
