-- What the memory of a migration is. No public clause cites this module.
use Rattle.std.specs.Prelude.{◌≡◌, ◌≤◌, length, vec_len}
use Rattle.fresh_checkpoints.specs.CdBase.Limits.{recipe_limit}
use Rattle.cloud_opening.specs.JournalStart.rooms.UserRooms.{UserRooms}
use Rattle.fresh_checkpoints.specs.JournalHalves.Halves.{half_limit}
use Rattle.cloud_opening.specs.CommitJournal.States.{state_of}
use Rattle.fresh_checkpoints.specs.CloudMemory.cloud.CloudMemory.{CloudMemory}
use Rattle.first_laws.specs.FirstRecords.Limits.{HasFirstRooms}
use Rattle.store_migration.specs.Exact.{users_most}
use Rattle.store_migration.specs.declared.kit.Kit.{Kit}

-- the memory has the greatest rooms, and a row for as many users as there may be
pub record HasFirst (memory : CloudMemory) : Type 0 where
  pub rooms : HasFirstRooms memory
  pub users : length memory.spent ≡ users_most

-- All of it is for these rooms.
pub record IsKit (rooms : UserRooms) (kit : Kit) : Type 0 where
  pub memory : HasFirst kit.memory
  pub limit : (state_of kit.journal).limit ≡ half_limit rooms
  pub recipe : recipe_limit ≤ vec_len kit.recipe
