-- An open store, and the list that it serves.
use Rattle.std.specs.Prelude.{◌≡◌, ℕ, ◌+◌, ◌≤◌, nat_lt, List, if◌then◌else◌}
use Rattle.checkpoints.specs.CdEdges.Disk.{Cloud}
use Rattle.checkpoints.specs.CommitJournal.journal.Stage.TheVariants.{AtEnd, Shut}
use Rattle.checkpoints.specs.JournalStart.start.Header.{Header}
use Rattle.checkpoints.specs.JournalStart.Ranges.{IsHeader}
use Rattle.checkpoints.specs.UserDedup.command.Command.{Command}
use Rattle.checkpoints.specs.CloudAreas.Standing.{Chain}
use Rattle.checkpoints.specs.CloudDisk.Disk.{Disk, regions_end}
use Rattle.checkpoints.specs.CloudMemory.cloud.CloudMemory.{CloudMemory}
use Rattle.checkpoints.specs.CloudMemory.Fitting.{FitsRecords}
use Rattle.checkpoints.specs.CloudMemory.Memory.{HasEnds}
use Rattle.checkpoints.specs.CloudMemory.Rooms.{memory_of, HasRooms}
use Rattle.cloud_opening.specs.Roomy.{IsRoomy}
use Rattle.cloud_opening.specs.Spared.{IsFor}
use Rattle.checkpoints.specs.Known.{IsDiskKnown, checkpoint_in}
use Rattle.cloud_store.specs.declared.store.CloudStore.{CloudStore}

-- Commands may be added: the journal was read to its end.
abbrev pub IsOpen : CloudStore → Type 0
IsOpen s = s.disk.journal.stage ≡ AtEnd

-- What holds of a store between two calls, whatever its cloud has. While it isn't open nothing is known of what the memory has.
pub record IsSettled (s : CloudStore) : Type 0 where
  pub header : IsHeader s.header
  pub format : s.header.format ≡ 2
  pub rooms : HasRooms s.header.rooms s.memory
  pub fit : IsOpen s → FitsRecords (memory_of s.memory)
  pub roomy : IsOpen s → IsRoomy s.header.rooms s.region (memory_of s.memory)
  pub disk : IsFor s.header s.disk
  pub shares_limit : s.disk.shares.limit ≡ regions_end
  pub recipes_limit : s.disk.recipes.limit ≡ regions_end
  pub region : s.region ≤ 1

-- Both logs end where the memory says.
pub record EndsMeet (s : CloudStore) : Type 0 where
  pub shares : s.disk.shares.end ≡ s.memory.shares_end
  pub recipes : s.disk.recipes.end ≡ s.memory.recipes_end

-- the store with its journal shut
abbrev pub closed : CloudStore → CloudStore
closed s = record s { disk = record s.disk { journal = record s.disk.journal { stage = Shut } } }

-- A memory and a disk serve the list: the disk stands for it by this chain, the memory is the list's and placed by the chain's records, all
-- that it places stands in the areas, the list is within the rooms and has so many commands, and both logs end where the memory says.
pub record ServesBy (header : Header) (list : List Command) (c : Chain) (commands region : ℕ) (memory : CloudMemory) (disk : Disk) (cloud : Cloud) : Type 0 where
  pub known : IsDiskKnown header list c commands region memory disk cloud
  pub ends : HasEnds region list c.records (memory_of memory)
  pub shares_end : disk.shares.end ≡ memory.shares_end
  pub recipes_end : disk.recipes.end ≡ memory.recipes_end

-- The store does.
abbrev pub Serves : List Command → Chain → CloudStore → Cloud → Type 0
Serves list c s cloud = ServesBy s.header list c s.commands s.region s.memory s.disk cloud

-- The store serves the list by some chain.
pub record ServesSome (list : List Command) (s : CloudStore) (cloud : Cloud) : Type 0 where
  pub c : Chain
  pub serves : Serves list c s cloud

-- ---- room for a record

-- A record whose body has so many bytes fits the current half.
abbrev pub FitsHalf : CloudStore → ℕ → Type 0
FitsHalf s len = s.disk.journal.current.gate + 1 + (len + 5) ≤ s.disk.journal.limit

-- the chain that has room for such a record: that of the checkpoint of the memory exactly where it doesn't fit
abbrev pub chain_with_room : CloudStore → List Command → Chain → ℕ → Chain
chain_with_room s list c len =
    if nat_lt s.disk.journal.limit (s.disk.journal.current.gate + 1 + (len + 5)) then checkpoint_in s.header list c s.commands s.region s.memory else c

-- All but the journal, the chains and marks of a checkpoint and the record is as it was.
pub record KeepsServing (old new : CloudStore) : Type 0 where
  pub same : new ≡ record old { disk = new.disk; chains = new.chains; marks = new.marks; body = new.body }
  pub shares : new.disk.shares ≡ old.disk.shares
  pub recipes : new.disk.recipes ≡ old.disk.recipes
