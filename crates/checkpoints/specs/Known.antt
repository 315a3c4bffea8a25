-- A memory of the list that a disk stands for, and the checkpoint of it.
use Rattle.std.specs.Prelude.{◌≡◌, ◌<◌, ◌≤◌, ◌+◌, ℕ, List, [], length, map, Option, Some, None, Result, Ok, Err, MatchOption}
use Rattle.cloud_memory.specs.CdBase.shape.Shape.{Shape}
use Rattle.cloud_disk.specs.CdEdges.area.Area.TheVariants.{Shares, Recipes}
use Rattle.cloud_disk.specs.CdEdges.Disk.{Cloud, reads}
use Rattle.cloud_memory.specs.ContainerLog.Laying.{Placed}
use Rattle.cloud_memory.specs.PoolMap.Slots.{IsListed}
use Rattle.cloud_disk.specs.JournalStart.start.Header.{Header}
use Rattle.cloud_disk.specs.CommitJournal.journal.Stage.{Stage}
use Rattle.cloud_disk.specs.CommitJournal.journal.Stage.TheVariants.{AtEnd, Shut}
use Rattle.cloud_memory.specs.RecordBody.body.CommitBody.{CommitBody}
use Rattle.cloud_memory.specs.UserDedup.file_list.FileEntry.{FileEntry}
use Rattle.cloud_memory.specs.UserDedup.Pages.{entry_at}
use Rattle.cloud_memory.specs.UserDedup.command.Command.{Command}
use Rattle.cloud_memory.specs.UserDedup.Cloud.{counted, user_view}
use Rattle.cloud_memory.specs.UserDedup.Spending.{IsWithin}
use Rattle.cloud_disk.specs.CloudAreas.Standing.{Chain, region_in}
use Rattle.cloud_disk.specs.Disk.{Disk, IsOn}
use Rattle.cloud_memory.specs.declared.cloud.CloudMemory.{CloudMemory}
use Rattle.cloud_memory.specs.Memory.{Remembers, IsPlacedBy, Stand}
use Rattle.cloud_memory.specs.Rooms.{memory_of}
use Rattle.cloud_memory.specs.RecordBody.Spelling.{Body}
use Rattle.checkpoints.specs.Laying.{records_len}
use Rattle.checkpoints.specs.Settling.{checkpoint_of}
use Rattle.checkpoints.specs.declared.whole.Unsettled.{Unsettled}
use Rattle.checkpoints.specs.declared.whole.Unsettled.TheVariants.{Long, Failed}
use Rattle.checkpoints.specs.Records.{commits_from, records_of}

-- ---- recipes

abbrev pub recipe_or : Option FileEntry → List ℕ
recipe_or None = []
recipe_or (Some entry) = entry.recipe

-- the recipe that a Commit places, as the entry of its key has it
abbrev pub recipe_of : Shape → List Command → CommitBody → Placed
recipe_of shape list c = record { place = c.at; blob = recipe_or (entry_at (user_view shape list c.user).files (c.tag, c.version)) }

-- those that a checkpoint of the memory places
abbrev pub recipes_of : Shape → List Command → CloudMemory → List Placed
recipes_of shape list memory = map (recipe_of shape list) (commits_from memory.files 0)

-- ---- the memory and the disk

-- The slots of the memory's tables list what they have.
pub record AreListed (memory : CloudMemory) : Type 0 where
  pub places : IsListed memory.shares.places memory.shares.place_slots
  pub owners : IsListed memory.shares.owners memory.shares.owner_slots
  pub entries : IsListed memory.files.files memory.files.slots

-- The disk stands for the list by a chain, with so many commands and in this region. The memory is that of the list, and is placed by the
-- chain; what it places stands in the areas. The list is within the rooms.
pub record IsDiskKnown (header : Header) (list : List Command) (c : Chain) (commands region : ℕ) (memory : CloudMemory) (disk : Disk) (cloud : Cloud) : Type 0 where
  pub on : IsOn header list c disk cloud
  pub remembers : Remembers header.shape list (memory_of memory)
  pub placed : IsPlacedBy c.records (memory_of memory)
  pub stand : Stand header.shape (reads cloud.now Shares) (reads cloud.now Recipes) list (memory_of memory)
  pub within : IsWithin header.shape header.rooms list
  pub number : counted list ≡ commands
  pub region_is : region_in c ≡ region

-- the chain of a checkpoint of the memory, behind another chain
abbrev pub checkpoint_in : Header → List Command → Chain → ℕ → ℕ → CloudMemory → Chain
checkpoint_in header list c commands region memory =
    checkpoint_of c header commands (length (records_of memory)) region (records_of memory) (recipes_of header.shape list memory)

-- The disk stands for the list by the checkpoint's chain, which places what the memory has.
pub record HasCheckpoint (header : Header) (list : List Command) (c : Chain) (commands region : ℕ) (memory : CloudMemory) (disk : Disk) (cloud : Cloud) : Type 0 where
  pub on : IsOn header list (checkpoint_in header list c commands region memory) disk cloud
  pub placed : IsPlacedBy (records_of memory) (memory_of memory)

-- ---- outcomes

-- As many records as were counted, within the limit; or they don't fit it.
abbrev pub CountsWithin : List Body → ℕ → Option ℕ → Type 0
CountsWithin records limit count = MatchOption count (limit < 63 + records_len records) (λ n. (n ≡ length records) × (63 + records_len records ≤ limit))

-- the journal's stage behind it: a device that failed shuts it
abbrev pub stage_behind : {A : Type 0} → Result A Unsettled → Stage
stage_behind (Ok v) = AtEnd
stage_behind (Err Long) = AtEnd
stage_behind (Err Failed) = Shut

-- a device failed
abbrev pub IfFailed : {A : Type 0} → Result A Unsettled → Type 0 → Type 0
IfFailed (Ok v) P = Unit {0}
IfFailed (Err Long) P = Unit {0}
IfFailed (Err Failed) P = P

-- no device failed
abbrev pub UnlessFailed : {A : Type 0} → Result A Unsettled → Type 0 → Type 0
UnlessFailed (Ok v) P = P
UnlessFailed (Err Long) P = P
UnlessFailed (Err Failed) P = Unit {0}

-- The records were too long.
abbrev pub IfLong : {A : Type 0} → Result A Unsettled → Type 0 → Type 0
IfLong (Ok v) P = Unit {0}
IfLong (Err Long) P = P
IfLong (Err Failed) P = Unit {0}

-- They weren't.
abbrev pub UnlessLong : {A : Type 0} → Result A Unsettled → Type 0 → Type 0
UnlessLong (Ok v) P = P
UnlessLong (Err Long) P = Unit {0}
UnlessLong (Err Failed) P = P
