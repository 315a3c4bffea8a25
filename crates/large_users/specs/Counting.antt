-- How far passes over the slots of a memory's tables have come. No public clause cites this module.
use Rattle.std.specs.Prelude.{◌≡◌, ◌≤◌, ◌<◌, ◌*◌, ◌⊎◌, ◌==◌, ℕ, List, length, take, Option, Some, None, if◌then◌else◌}
use Rattle.std.specs.List.{sum_by}
use Rattle.std.specs.FinMap.{FinMap, entries}
use Rattle.compact_memories.specs.FileIndex.key.Entry.{Entry}
use Rattle.compact_memories.specs.FileIndex.key.FileKey.{FileKey}
use Rattle.compact_memories.specs.FileIndex.Order.{key_cmp}
use Rattle.compact_memories.specs.PoolMap.Slots.{slot_of}
use Rattle.compact_memories.specs.Passes.{entries_of, recipes_len}
use Rattle.record_body.specs.CdBase.ids.UserId.{UserId}
use Rattle.compact_memories.specs.JournalStart.rooms.UserRooms.{UserRooms}
use Rattle.compact_memories.specs.CloudMemory.Memory.{Memory}
use Rattle.large_users.specs.declared.large.Entries.{Entries}
use Rattle.large_users.specs.declared.large.TooLarge.{TooLarge}
use Rattle.large_users.specs.Large.{full_of, passed_in}

-- The number and the bytes are those of a user's entries in so many slots.
pub record IsCountOf (user : ℕ) (slots : List (Option (FileKey × Entry))) (slot : ℕ) (entries : Entries) : Type 0 where
  pub count : entries.count ≡ length (entries_of user (take slot slots))
  pub bytes : entries.bytes ≡ recipes_len (take slot slots) user
  pub few : entries.count ≤ slot
  pub small : entries.bytes ≤ slot * 4294967295

-- the bytes of the recipes of a user's entries
abbrev pub recipes_in : FinMap key_cmp Entry → ℕ → ℕ
recipes_in files user = sum_by (λ e. if e.0.user == user then e.1.len else 0) (entries files)

-- a user is below a number, or no less than the least one that was seen
abbrev pub IsSeen : ℕ → Option ℕ → ℕ → Type 0
IsSeen from None user = user < from
IsSeen from (Some least) user = (user < from) ⊎ (least ≤ user)

-- The one that was seen is from the number on, and stands in some slot.
abbrev pub IsUserFound : {K V : Type 0} → (K → ℕ) → ℕ → List (Option (K × V)) → Option ℕ → Type 0
IsUserFound user_in from slots None = Unit {0}
IsUserFound {K} {V} user_in from slots (Some least) = (from ≤ least) × (s : ℕ) × (k : K) × (v : V) × (slot_of slots s ≡ Some (k, v)) × (user_in k ≡ least)

-- In so many slots each user was seen.
abbrev pub AreSeen : {K V : Type 0} → (K → ℕ) → ℕ → List (Option (K × V)) → ℕ → Option ℕ → Type 0
AreSeen {K} {V} user_in from slots slot least = (s : ℕ) (k : K) (v : V) → s < slot → slot_of slots s ≡ Some (k, v) → IsSeen from least (user_in k)

-- a user is below the least one that was seen, if there is one
abbrev pub IfBelow : Option ℕ → ℕ → Type 0
IfBelow None user = Unit {0}
IfBelow (Some least) user = user < least

-- no user below a number keeps more than it may
abbrev pub AreNoneBelow : ℕ → UserRooms → Memory → Type 0
AreNoneBelow count rooms m = (user : UserId) → user.0 < count → passed_in rooms m user ≡ None

-- of the users from a number on it is the least one that keeps more than it may
abbrev pub IsFirstFrom : ℕ → UserRooms → Memory → Option TooLarge → Type 0
IsFirstFrom from rooms m None = (user : UserId) → from ≤ user.0 → passed_in rooms m user ≡ None
IsFirstFrom from rooms m (Some large) = (passed_in rooms m large.user ≡ Some (full_of large))
    × ((user : UserId) → from ≤ user.0 → user.0 < large.user.0 → passed_in rooms m user ≡ None)
