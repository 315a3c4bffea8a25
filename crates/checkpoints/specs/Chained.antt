-- Slots of owners in chains, one for each user, by which a user's slots are found without the others'.
use Rattle.std.specs.Prelude.{◌≡◌, ℕ, ◌+◌, ◌<◌, ◌≤◌, min, List, length, Option, None, true, is_some, slice_index_or}
use Rattle.cloud_memory.specs.PoolMap.Slots.{slot_of}
use Rattle.cloud_memory.specs.ShareIndex.key.Owner.{Owner}
use Rattle.checkpoints.specs.Marked.{slots_limit}
use Rattle.checkpoints.specs.Records.{owned_at}
use Rattle.checkpoints.specs.declared.chains.OwnerChains.{OwnerChains}

-- the user in a slot
abbrev pub user_in : Owner × ℕ → ℕ
user_in e = e.0.user

-- The slot is the user's.
abbrev pub IsOwnSlot : List (Option (Owner × ℕ)) → ℕ → ℕ → Type 0
IsOwnSlot slots user slot = is_some (owned_at user (slot_of slots slot)) ≡ true

-- No slot from the one up to the other is the user's.
abbrev pub AreOthers : List (Option (Owner × ℕ)) → ℕ → ℕ → ℕ → Type 0
AreOthers slots user from to = (slot : ℕ) → from ≤ slot → slot < to → owned_at user (slot_of slots slot) ≡ None

-- The user's first slot from this one on, among so many; or their number, where none of them is the user's.
pub record IsNextOwn (slots : List (Option (Owner × ℕ))) (count user from to : ℕ) : Type 0 where
  pub ahead : from ≤ to
  pub others : AreOthers slots user from to
  pub own : to < count → IsOwnSlot slots user to
  pub within : to ≤ count

-- So many slots are chained, as far as they stand from this one on: a user's first is the first of its slots, and the next of each is the next
-- one of its user's.
pub record AreChained (slots : List (Option (Owner × ℕ))) (firsts nexts : List ℕ) (count at : ℕ) : Type 0 where
  pub first : (user : ℕ) → user < length firsts → IsNextOwn slots count user at (slice_index_or firsts user 0)
  pub next : (user slot : ℕ) → user < length firsts → at ≤ slot → slot < count → IsOwnSlot slots user slot
      → IsNextOwn slots count user (slot + 1) (slice_index_or nexts slot 0)

-- All slots are chained that there are places for.
abbrev pub HasChains : List (Option (Owner × ℕ)) → OwnerChains → Type 0
HasChains slots chains = AreChained slots chains.firsts.items chains.nexts.items (min (length slots) (length chains.nexts.items)) 0

-- There are places for the slots and the users of all rooms.
pub record HasPlaces (chains : OwnerChains) : Type 0 where
  pub users : length chains.firsts.items ≡ 256
  pub slots : length chains.nexts.items ≡ slots_limit
