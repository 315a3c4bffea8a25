-- The limits of a memory whose users share one account.
use Rattle.std.specs.Prelude.{◌≡◌, ℕ, length}
use Rattle.file_index.specs.PoolMap.accounts.Accounts.TheVariants.{Shared}
use Rattle.cloud_memory.specs.declared.cloud.CloudMemory.{CloudMemory}

-- Its limits are these, for all users together: so many placed shares, owners and entries. It has a slot for the place of each share,
-- for each owner and for each entry, and a row for each of so many users.
pub record HasGreatest (most_fps most_owners most_files rows : ℕ) (cloud : CloudMemory) : Type 0 where
  pub fps : cloud.shares.fps ≡ most_fps
  pub owners : cloud.shares.accounts ≡ Shared most_owners
  pub files : cloud.files.accounts ≡ Shared most_files
  pub users : length cloud.spent ≡ rows
  pub slots : length cloud.shares.place_slots ≡ most_fps
  pub owned : length cloud.shares.owner_slots ≡ most_owners
  pub entries : length cloud.files.slots ≡ most_files

-- Whatever such limits it had, it has them still.
abbrev pub KeepsGreatest : CloudMemory → CloudMemory → Type 0
KeepsGreatest old new =
    (fps owners files users : ℕ) → HasGreatest fps owners files users old → HasGreatest fps owners files users new
