-- Which user keeps too much, by the memory.
use Rattle.std.specs.Prelude.{◌≡◌, ◌<◌, ℕ, length, List, Option, Some, None}
use Rattle.record_body.specs.CdBase.ids.UserId.{UserId}
use Rattle.record_body.specs.CdBase.shape.Shape.{Shape}
use Rattle.compact_memories.specs.FileIndex.key.Entry.{Entry}
use Rattle.compact_memories.specs.FileIndex.key.FileKey.{FileKey}
use Rattle.compact_memories.specs.JournalStart.rooms.UserRooms.{UserRooms}
use Rattle.compact_memories.specs.PoolMap.Accounts.{keys_of}
use Rattle.compact_memories.specs.PoolMap.Slots.{slot_of}
use Rattle.compact_memories.specs.ShareIndex.key.Owner.{Owner}
use Rattle.compact_memories.specs.SpentTable.Spending.{spent_by}
use Rattle.compact_memories.specs.UserDedup.Dedup.{FullRoom}
use Rattle.compact_memories.specs.UserDedup.command.Command.{Command}
use Rattle.compact_memories.specs.CloudAreas.FormatOne.{passed_room}
use Rattle.compact_memories.specs.CloudMemory.cloud.CloudMemory.{CloudMemory}
use Rattle.compact_memories.specs.CloudMemory.Memory.{Memory, as_spent}
use Rattle.compact_memories.specs.Checkpoints.Known.{AreListed}
use Rattle.compact_memories.specs.Kept.{kept_in}
use Rattle.migration_model.specs.Migrating.{AreSmallEnough, IsTooLarge}
use Rattle.large_users.specs.declared.large.TooLarge.{TooLarge}

-- how many versions a user has
abbrev pub files_in : Memory → UserId → ℕ
files_in m user = keys_of (λ k. k.user) m.files user.0

-- the first of a user's rooms that is passed by what it keeps by the memory
abbrev pub passed_in : UserRooms → Memory → UserId → Option FullRoom
passed_in rooms m user = passed_room rooms user (kept_in m user) (files_in m user)

-- The user is the least one that keeps more than it may by the memory, and this is its first room.
pub record IsFirstPassed (rooms : UserRooms) (m : Memory) (user : UserId) (full : FullRoom) : Type 0 where
  pub here : passed_in rooms m user ≡ Some full
  pub before : (other : UserId) → other.0 < user.0 → passed_in rooms m other ≡ None

-- no user does
abbrev pub IsNonePassed : UserRooms → Memory → Type 0
IsNonePassed rooms m = (user : UserId) → passed_in rooms m user ≡ None

-- an answer as a room that is passed
abbrev pub full_of : TooLarge → FullRoom
full_of large = record { room = large.room; used = large.used; need = 0; limit = large.limit }

-- which user is the first that keeps too much by the memory
abbrev pub IsFirstOf : UserRooms → Memory → Option TooLarge → Type 0
IsFirstOf rooms m None = IsNonePassed rooms m
IsFirstOf rooms m (Some large) = IsFirstPassed rooms m large.user (full_of large)

-- which one does by the list
abbrev pub IsFirstBy : Shape → UserRooms → List Command → Option TooLarge → Type 0
IsFirstBy shape rooms list None = AreSmallEnough shape rooms list
IsFirstBy shape rooms list (Some large) = IsTooLarge shape rooms list large.user (full_of large)

-- The one memory has the owners and the entries of the other, and its table says what each of the other's users keeps, for so many users.
pub record IsCountedBy (users : ℕ) (m counted : Memory) : Type 0 where
  pub owners : counted.owners ≡ m.owners
  pub files : counted.files ≡ m.files
  pub rows : length counted.spent ≡ users
  pub spent : (user : UserId) → user.0 < users → as_spent (spent_by counted.spent user) ≡ kept_in m user

-- an owner's fingerprint has 32 bytes
abbrev pub IsOwnerSized : Owner → ℕ → Type 0
IsOwnerSized key uses = length key.fp ≡ 32

-- an entry's tag and its fingerprint have 32 bytes each
abbrev pub IsEntrySized : FileKey → Entry → Type 0
IsEntrySized key entry = (length key.tag ≡ 32) × (length entry.fp.0 ≡ 32)

-- it holds of what stands in so many slots
abbrev pub OfEach : {K V : Type 0} → (K → V → Type 0) → List (Option (K × V)) → ℕ → Type 0
OfEach {K} {V} P slots slot = (s : ℕ) (k : K) (v : V) → s < slot → slot_of slots s ≡ Some (k, v) → P k v

-- The slots list what the memory has, and each fingerprint and tag of owners and entries has 32 bytes. So its records have their lengths.
pub record AreSized (memory : CloudMemory) : Type 0 where
  pub listed : AreListed memory
  pub owners : OfEach IsOwnerSized memory.shares.owner_slots (length memory.shares.owner_slots)
  pub entries : OfEach IsEntrySized memory.files.slots (length memory.files.slots)
