-- What the steps of a call need and leave, and what single checks say.
use Rattle.std.specs.Prelude.{◌≡◌, ◌⊎◌, ◌↔◌, ℕ, ◌+◌, ◌*◌, ◌≤◌, Bool, IsTrue, IsFalse, List, length, count_by, bytes_eq, take, is_some, None, IsSome, Result, Ok, Err}
use Rattle.std.specs.List.{list_any}
use Rattle.std.specs.FinMap.{get, len}
use Rattle.cloud_memory.specs.CdBase.ids.Fp.{Fp}
use Rattle.cloud_memory.specs.CdBase.ids.UserId.{UserId}
use Rattle.cloud_memory.specs.PoolMap.Accounts.{keys_of}
use Rattle.cloud_memory.specs.JournalStart.rooms.UserRooms.{UserRooms}
use Rattle.cloud_memory.specs.RecordBody.body.KeptItem.{KeptItem}
use Rattle.cloud_memory.specs.RecordBody.Spelling.{Body}
use Rattle.cloud_memory.specs.RecordBody.body.CommitBody.{CommitBody}
use Rattle.cloud_memory.specs.RecordBody.body.PutItem.{PutItem}
use Rattle.cloud_memory.specs.SpentTable.Spending.{spent_by, of_shares}
use Rattle.cloud_memory.specs.UserDedup.Spending.{limits_of}
use Rattle.cloud_memory.specs.declared.cloud.CloudMemory.{CloudMemory}
use Rattle.cloud_memory.specs.Memory.{Memory}
use Rattle.cloud_memory.specs.Rooms.{HasRooms}
use Rattle.cloud_memory.specs.Steps.{spends}
use Rattle.record_checks.specs.declared.ground.Ground.{Ground}
use Rattle.record_checks.specs.Checks.{IsOwn, RecipeLies, commit_entry, place_at, tag_at, first_field}
use Rattle.record_checks.specs.Judging.{JudgesBody}

-- an answer and what is left, as the record's judgement
abbrev pub JudgedAs : Ground → Bool → List ℕ → List Bool → Memory → Body → Result Unit ℕ → Memory → Type 0
JudgedAs g inside read marks old b (Ok u) new = JudgesBody g inside read marks old b (Ok new)
JudgedAs g inside read marks old b (Err place) new = JudgesBody g inside read marks old b (Err place)

-- What the checks of a share go by: whether the user owns its fingerprint, whether that has a place, and where the shares end.
pub record Facts (m : Memory) (user : UserId) (fp : Fp) (owned placed : Bool) (end : ℕ) : Type 0 where
  pub own : IsTrue owned ↔ IsOwn m user fp
  pub laid : IsFalse owned → IsTrue placed ↔ IsSome (get m.places fp.0)
  pub end_is : end ≡ m.shares_end

-- the same of a share that nobody owns
pub record KeptFacts (m : Memory) (fp : Fp) (placed : Bool) (end : ℕ) : Type 0 where
  pub laid : IsTrue placed ↔ IsSome (get m.places fp.0)
  pub end_is : end ≡ m.shares_end

-- the record gives the share a place
abbrev pub has_place : PutItem → Bool
has_place item = is_some item.place

-- one of the first items has the fingerprint
abbrev pub names_fp : List PutItem → ℕ → Fp → Bool
names_fp items count fp = list_any (λ (item : PutItem). bytes_eq item.fp.0 fp.0) (take count items)

abbrev pub keeps_fp : List KeptItem → ℕ → Fp → Bool
keeps_fp items count fp = list_any (λ (item : KeptItem). bytes_eq item.fp.0 fp.0) (take count items)

-- The indexes have room for these items of the user's.
pub record HasRoomForItems (rooms : UserRooms) (cloud : CloudMemory) (user : UserId)
    (items : List PutItem) : Type 0 where
  pub rooms_are : HasRooms rooms cloud
  pub owners : keys_of (λ k. k.user) cloud.shares.owners user.0 + length items ≤ (limits_of rooms user).owners
  pub fps : len cloud.shares.places + count_by has_place items ≤ rooms.users * rooms.owners

pub record HasKeptRoom (rooms : UserRooms) (cloud : CloudMemory) (items : List KeptItem) : Type 0 where
  pub rooms_are : HasRooms rooms cloud
  pub fps : len cloud.shares.places + length items ≤ rooms.users * rooms.owners

-- Neither the place nor the tag of a Commit fails.
pub record IsRightCommit (g : Ground) (inside : Bool) (m : Memory) (c : CommitBody) : Type 0 where
  pub lies : RecipeLies g inside m c
  pub new : commit_entry m c ≡ None

-- the first of them that fails, by its place in the body
pub data CommitFault (g : Ground) (inside : Bool) (m : Memory) (c : CommitBody) : ℕ → Type 0 where
  PlaceFails : ¬ (RecipeLies g inside m c) → CommitFault g inside m c place_at
  TagFails : RecipeLies g inside m c → IsSome (commit_entry m c) → CommitFault g inside m c tag_at

-- The user has spent so many shares with so many bytes more, within its limits; or it would pass one, and its field is named.
abbrev pub MaySpend : UserRooms → Memory → UserId → ℕ → ℕ → Type 0
MaySpend rooms m user owners shares =
    ((spent_by m.spent user).owners + owners ≤ (limits_of rooms user).owners) × ((spent_by m.spent user).shares + shares ≤ (limits_of rooms user).shares)

abbrev pub SpendsShares : UserRooms → Memory → UserId → ℕ → ℕ → Result Unit ℕ → Memory → Type 0
SpendsShares rooms old user owners shares (Ok u) new = MaySpend rooms old user owners shares × (new ≡ spends user (of_shares owners shares) old)
SpendsShares rooms old user owners shares (Err place) new = (¬ (MaySpend rooms old user owners shares)) × (place ≡ first_field) × (new ≡ old)

-- behind the checkpoint the user may spend the recipe's bytes
abbrev pub MaySpendRecipe : UserRooms → Bool → Memory → CommitBody → Type 0
MaySpendRecipe rooms inside m c = IsTrue inside ⊎ ((spent_by m.spent c.user).recipes + c.len ≤ (limits_of rooms c.user).recipes)
