-- What a checkpoint needs that stands by itself, whatever the chain before it said.
use Rattle.std.specs.Prelude.{◌≡◌, ◌+◌, ◌*◌, ℕ, List}
use Rattle.cloud_disk.specs.CdEdges.area.Area.TheVariants.{Shares, Recipes}
use Rattle.cloud_disk.specs.CdEdges.Disk.{Image, Cloud, reads}
use Rattle.cloud_disk.specs.JournalStart.start.Header.{Header}
use Rattle.cloud_disk.specs.UserDedup.command.Command.{Command}
use Rattle.cloud_disk.specs.UserDedup.Cloud.{counted}
use Rattle.cloud_disk.specs.UserDedup.Dedup.{IsSound}
use Rattle.cloud_disk.specs.UserDedup.Spending.{spent_by_all, IsWithin}
use Rattle.cloud_disk.specs.CloudAreas.Chains.{least_shares, least_recipes}
use Rattle.compact_memories.specs.CloudMemory.cloud.CloudMemory.{CloudMemory}
use Rattle.compact_memories.specs.CloudMemory.Memory.{Remembers, Stand}
use Rattle.compact_memories.specs.CloudMemory.Rooms.{memory_of}
use Rattle.compact_memories.specs.Checkpoints.Known.{AreListed}
use Rattle.compact_memories.specs.Moved.{PlacesLie}

-- The memory is that of the list, which has so many commands; all that it places stands in the areas, in the region, apart, and within
-- the bounds.
pub record StandsAlone (header : Header) (image : Image) (list : List Command) (commands region : ℕ) (memory : CloudMemory) : Type 0 where
  pub format : header.format ≡ 2
  pub remembers : Remembers header.shape list (memory_of memory)
  pub are_listed : AreListed memory
  pub stand : Stand header.shape (image Shares) (image Recipes) list (memory_of memory)
  pub lie : PlacesLie region (least_shares + 2 * (spent_by_all list).shares) (least_recipes + 2 * (spent_by_all list).recipes) (memory_of memory)
  pub number : counted list ≡ commands

-- The memory is that of a sound list within the rooms, which a checkpoint of it says by itself, in the areas as they are.
pub record IsNextMemory (header : Header) (list : List Command) (commands region : ℕ) (memory : CloudMemory) (cloud : Cloud) : Type 0 where
  pub sound : IsSound header.shape header.cloud.0 list
  pub within : IsWithin header.shape header.rooms list
  pub fresh : StandsAlone header (reads cloud.now) list commands region memory
