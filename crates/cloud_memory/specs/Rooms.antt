-- A server's memory as contracts see it, and its limits.
use Rattle.std.specs.Prelude.{◌≡◌, ℕ, ◌*◌, ◌==◌, List, length, sum_by, Option, Some, None, if◌then◌else◌}
use Rattle.std.specs.Option.{option_or}
use Rattle.std.specs.FinMap.{len}
use Rattle.spent_table.specs.CdBase.ids.UserId.{UserId}
use Rattle.spent_table.specs.CdBase.rooms.Room.TheVariants as names
use Rattle.cloud_areas.specs.UserDedup.Spending.{refusal, limits_of, files_limit}
use Rattle.cloud_areas.specs.UserDedup.Dedup.{FullRoom}
use Rattle.file_index.specs.PoolMap.Accounts.{keys_of}
use Rattle.file_index.specs.PoolMap.accounts.Accounts.TheVariants.{PerUser}
use Rattle.cloud_areas.specs.JournalStart.rooms.UserRooms.{UserRooms}
use Rattle.spent_table.specs.Spending.{spent_by}
use Rattle.cloud_memory.specs.declared.cloud.CloudMemory.{CloudMemory}
use Rattle.cloud_memory.specs.declared.rooms.New.{New}
use Rattle.cloud_memory.specs.Memory.{Memory}
use Rattle.cloud_memory.specs.Steps.{held_len}

-- what it remembers
abbrev pub memory_of : CloudMemory → Memory
memory_of cloud = record {
  places = cloud.shares.places;
  owners = cloud.shares.owners;
  files = cloud.files.files;
  spent = cloud.spent;
  shares_end = cloud.shares_end;
  recipes_end = cloud.recipes_end;
}

-- Its limits are those of the rooms, for each user apart, and it has a slot for the place of each share that all users may own, one for
-- each of them as its owner, and one for each entry that they may have.
pub record HasRooms (rooms : UserRooms) (cloud : CloudMemory) : Type 0 where
  pub fps : cloud.shares.fps ≡ rooms.users * rooms.owners
  pub owners : cloud.shares.accounts ≡ PerUser rooms.users rooms.owners
  pub files : cloud.files.accounts ≡ PerUser rooms.users rooms.files
  pub users : length cloud.spent ≡ rooms.users
  pub slots : length cloud.shares.place_slots ≡ rooms.users * rooms.owners
  pub owned : length cloud.shares.owner_slots ≡ rooms.users * rooms.owners
  pub entries : length cloud.files.slots ≡ rooms.users * rooms.files

-- The first of the user's rooms that a Put of so many shares, with so many bytes as they are held, would pass, by what was spent; or else
-- the owners, where the indexes have no more places. Over a cloud that is as it was left they have.
abbrev pub full_put : UserRooms → UserId → Memory → ℕ → ℕ → Option FullRoom
full_put rooms user m count more =
    option_or (refusal names.Owners (spent_by m.spent user).owners count (limits_of rooms user).owners)
    (option_or (refusal names.Shares (spent_by m.spent user).shares more (limits_of rooms user).shares)
    (option_or (refusal names.Owners (keys_of (λ k. k.user) m.owners user.0) count (limits_of rooms user).owners)
    (refusal names.Owners (len m.places) count (rooms.users * rooms.owners))))

-- the same for a Put of these shares
abbrev pub full_news : UserRooms → UserId → Memory → List New → Option FullRoom
full_news rooms user m news = full_put rooms user m (length news) (sum_by (held_len m.places) news)

-- the user has as many entries as it may
abbrev pub full_files : UserRooms → UserId → Memory → Option FullRoom
full_files rooms user m =
    let used = keys_of (λ k. k.user) m.files user.0 in
    if used == files_limit rooms user then Some (record { room = names.Files; used = used; need = 1; limit = files_limit rooms user }) else None

-- The first of the user's rooms that a Commit with a recipe of this length would pass.
abbrev pub full_commit : UserRooms → UserId → Memory → ℕ → Option FullRoom
full_commit rooms user m len =
    option_or (full_files rooms user m) (refusal names.Recipes (spent_by m.spent user).recipes len (limits_of rooms user).recipes)
