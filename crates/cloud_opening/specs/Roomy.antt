-- What holds of an open memory whatever its cloud has: nobody has spent more than it may, and both logs end within what was spent.
use Rattle.std.specs.Prelude.{ℕ, ◌≤◌, List}
use Rattle.cloud_disk.specs.CdBase.ids.UserId.{UserId}
use Rattle.cloud_disk.specs.JournalStart.rooms.UserRooms.{UserRooms}
use Rattle.record_laws.specs.SpentTable.Spent.{Spent}
use Rattle.record_laws.specs.SpentTable.Spending.{spent_by}
use Rattle.cloud_disk.specs.UserDedup.Spending.{limits_of}
use Rattle.record_laws.specs.RecordChecks.CloudMemory.Memory.{Memory}
use Rattle.record_laws.specs.Leaving.{EndsWithinRows}

-- By these rows each user has spent no more than it may.
pub record SpendWithin (rooms : UserRooms) (rows : List Spent) : Type 0 where
  pub owners : (user : UserId) → (spent_by rows user).owners ≤ (limits_of rooms user).owners
  pub shares : (user : UserId) → (spent_by rows user).shares ≤ (limits_of rooms user).shares
  pub recipes : (user : UserId) → (spent_by rows user).recipes ≤ (limits_of rooms user).recipes

-- Each user has spent no more than it may, and both logs end within what was spent.
pub record IsRoomy (rooms : UserRooms) (region : ℕ) (m : Memory) : Type 0 where
  pub spent : SpendWithin rooms m.spent
  pub ends : EndsWithinRows region m
