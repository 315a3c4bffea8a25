-- What each user has spent and holds, and when a room of a user's is full.
use Rattle.std.specs.Prelude.{◌≡◌, ℕ, ◌+◌, ◌-◌, ◌≤◌, List, [], ◌∷◌, ◌++◌, length, nat_lt, Option, Some, None, if◌then◌else◌}
use Rattle.std.specs.List.{flat_map, sum_by, Contains}
use Rattle.std.specs.Option.{option_or}
use Rattle.journal_start.specs.CdBase.ids.UserId.{UserId}
use Rattle.journal_start.specs.CdBase.rooms.Room.{Room}
use Rattle.journal_start.specs.CdBase.rooms.Room.TheVariants as names
use Rattle.journal_start.specs.CdBase.shape.Shape.{Shape}
use Rattle.user_dedup.specs.Cloud.{fingerprint}
use Rattle.user_dedup.specs.Dedup.{FullRoom}
use Rattle.journal_start.specs.declared.rooms.UserRooms.{UserRooms}
use Rattle.user_dedup.specs.declared.command.Command.{Command}
use Rattle.user_dedup.specs.declared.command.Command.TheVariants as commands
use Rattle.user_dedup.specs.Cloud.{commands_of, strings_in, recipes_of, held_bytes, user_view}

-- ---- use

-- what Puts and Commits have spent: strings, bytes of strings as they are held, and bytes of recipes. A deletion gives nothing back.
pub record SpentByUser : Type 0 where
  pub owners : ℕ
  pub shares : ℕ
  pub recipes : ℕ

-- no use at all
abbrev pub nothing : SpentByUser
nothing = record { owners = 0; shares = 0; recipes = 0 }

-- the length of the string that is held under a string's SHA-256
abbrev pub held_len : List Command → List ℕ → ℕ
held_len list string = length (held_bytes list (fingerprint string))

-- what these commands of a list have spent
abbrev pub spent_in : List Command → List Command → SpentByUser
spent_in list some = record {
  owners = length (strings_in some);
  shares = sum_by (held_len list) (strings_in some);
  recipes = sum_by (λ (recipe : List ℕ). length recipe) (flat_map recipes_of some);
}

-- what a user has spent
abbrev pub spent_of : List Command → UserId → SpentByUser
spent_of list user = spent_in list (commands_of user list)

-- what all users have spent together
abbrev pub spent_by_all : List Command → SpentByUser
spent_by_all list = spent_in list list

-- Under each string's SHA-256 that string is held. So it is where no two strings have one SHA-256.
abbrev pub HoldsItself : List Command → Type 0
HoldsItself list = (s : List ℕ) → Contains (strings_in list) s → held_bytes list (fingerprint s) ≡ s

-- how many entries a user has
abbrev pub files_of : Shape → List Command → UserId → ℕ
files_of shape list user = length (user_view shape list user).files

-- what a user may spend: nothing where its number isn't below the number of users
abbrev pub limits_of : UserRooms → UserId → SpentByUser
limits_of rooms user = if nat_lt user.0 rooms.users then record { owners = rooms.owners; shares = rooms.shares; recipes = rooms.recipes } else nothing

-- so many entries may it have
abbrev pub files_limit : UserRooms → UserId → ℕ
files_limit rooms user = if nat_lt user.0 rooms.users then rooms.files else 0

-- a room that so much more would pass
abbrev pub refusal : Room → ℕ → ℕ → ℕ → Option FullRoom
refusal room used need limit = if nat_lt limit (used + need) then Some (record { room = room; used = used; need = need; limit = limit }) else None

-- The first room of the user's, in this order, that the command would pass. A deletion needs none.
unfoldable pub full_for : Shape → UserRooms → List Command → Command → Option FullRoom
full_for shape rooms list (commands.Put user shares) =
    let used = spent_of list user in
    let grown = spent_of (list ++ commands.Put user shares ∷ []) user in
    let limits = limits_of rooms user in
    option_or (refusal names.Owners used.owners (length shares) limits.owners)
    (refusal names.Shares used.shares (grown.shares - used.shares) limits.shares)
full_for shape rooms list (commands.Commit user tag version recipe) =
    option_or (refusal names.Files (files_of shape list user) 1 (files_limit rooms user))
    (refusal names.Recipes (spent_of list user).recipes (length recipe) (limits_of rooms user).recipes)
full_for shape rooms list (commands.Delete user tag version) = None

-- the user has spent no more than it may, and has no more entries
pub record UsesWithin (shape : Shape) (rooms : UserRooms) (list : List Command) (user : UserId) : Type 0 where
  pub owners : (spent_of list user).owners ≤ (limits_of rooms user).owners
  pub shares : (spent_of list user).shares ≤ (limits_of rooms user).shares
  pub recipes : (spent_of list user).recipes ≤ (limits_of rooms user).recipes
  pub files : files_of shape list user ≤ files_limit rooms user

-- After each command each user is within its limits.
abbrev pub IsWithin : Shape → UserRooms → List Command → Type 0
IsWithin shape rooms list = (before after : List Command) → list ≡ before ++ after → (user : UserId) → UsesWithin shape rooms before user
