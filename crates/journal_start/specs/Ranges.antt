-- How many users a cloud has, how much each of them may hold, and what a start may say.
use Rattle.std.specs.Prelude.{◌≡◌, ◌⊎◌, ℕ, ◌*◌, ◌<◌, ◌≤◌, ◌^◌, ◌&&◌, Bool, Option, Some, None, nat_le, if◌then◌else◌}
use Rattle.journal_start.specs.declared.rooms.UserRooms.{UserRooms}
use Rattle.journal_start.specs.declared.rooms.RoomsField.{RoomsField}
use Rattle.journal_start.specs.declared.rooms.RoomsField.TheVariants as fields
use Rattle.journal_start.specs.declared.start.Header.{Header}
use Rattle.journal_start.specs.declared.start.Checkpoint.{Checkpoint}
use Rattle.journal_start.specs.declared.start.Start.{Start}

-- ---- rooms

-- what all users together may hold: bytes of shares and of recipes, owned fingerprints, and files
abbrev pub most_shares : ℕ
most_shares = 8589934592

abbrev pub most_recipes : ℕ
most_recipes = 1073741824

abbrev pub most_owners : ℕ
most_owners = 524288

abbrev pub most_files : ℕ
most_files = 16384

-- There are 1 to 256 users, and what they may hold together is bounded.
pub record AreRooms (rooms : UserRooms) : Type 0 where
  pub some : 1 ≤ rooms.users
  pub few : rooms.users ≤ 256
  pub shares : rooms.users * rooms.shares ≤ most_shares
  pub recipes : rooms.users * rooms.recipes ≤ most_recipes
  pub owners : rooms.users * rooms.owners ≤ most_owners
  pub files : rooms.users * rooms.files ≤ most_files

abbrev pub is_users : ℕ → Bool
is_users users = nat_le 1 users && nat_le users 256

-- so many users hold no more than the most together
abbrev pub is_within : ℕ → ℕ → ℕ → Bool
is_within most users each = nat_le (users * each) most

-- the first room, in this order, that breaks its range or its product
abbrev pub first_broken : UserRooms → Option RoomsField
first_broken rooms =
    if is_users rooms.users then
    if is_within most_shares rooms.users rooms.shares then
    if is_within most_recipes rooms.users rooms.recipes then
    if is_within most_owners rooms.users rooms.owners then
    if is_within most_files rooms.users rooms.files then None else Some fields.Files
    else Some fields.Owners
    else Some fields.Recipes
    else Some fields.Shares
    else Some fields.Users

-- the rooms that hold where none are named: 16 users, each with 512 MiB of shares, 64 MiB of recipes, 32,768 owned
-- fingerprints and 1,024 files
abbrev pub usual_rooms : UserRooms
usual_rooms = record { users = 16; shares = 536870912; recipes = 67108864; owners = 32768; files = 1024 }

-- one user, who may hold nothing
abbrev pub least_rooms : UserRooms
least_rooms = record { users = 1; shares = 0; recipes = 0; owners = 0; files = 0 }

-- ---- starts

-- Format 2 has rooms of its own, and format 1 the usual ones.
pub record IsHeader (header : Header) : Type 0 where
  pub format : (header.format ≡ 1) ⊎ (header.format ≡ 2)
  pub cloud : header.cloud.0 < header.shape.n
  pub rooms : AreRooms header.rooms
  pub usual : header.format ≡ 1 → header.rooms ≡ usual_rooms

-- Format 1 has no regions, and format 2 no end of the recipes.
pub record IsCheckpoint (format : ℕ) (checkpoint : Checkpoint) : Type 0 where
  pub epoch : checkpoint.epoch ≤ 2
  pub commands : checkpoint.commands < 2 ^ 64
  pub records : checkpoint.records < 2 ^ 32
  pub region : checkpoint.region ≤ 1
  pub recipes_end : checkpoint.recipes_end < 2 ^ 64
  pub without_region : format ≡ 1 → checkpoint.region ≡ 0
  pub without_end : format ≡ 2 → checkpoint.recipes_end ≡ 0

-- In half 0 alone a start may have no checkpoint.
abbrev pub IsBehind : ℕ → ℕ → Option Checkpoint → Type 0
IsBehind half format None = half ≡ 0
IsBehind half format (Some checkpoint) = IsCheckpoint format checkpoint

-- a start in this half
pub record IsStart (half : ℕ) (start : Start) : Type 0 where
  pub header : IsHeader start.header
  pub behind : IsBehind half start.header.format start.checkpoint
