-- The bytes of a start.
use Rattle.std.specs.Prelude.{◌≡◌, ℕ, ◌==◌, List, [], ◌∷◌, ◌++◌, Option, Some, None, codes, if◌then◌else◌}
use Rattle.std.specs.Int.{w32, w64, to_be_bytes}
use Rattle.journal_start.specs.declared.rooms.UserRooms.{UserRooms}
use Rattle.journal_start.specs.declared.start.Header.{Header}
use Rattle.journal_start.specs.declared.start.Checkpoint.{Checkpoint}
use Rattle.journal_start.specs.declared.start.Start.{Start}
use Rattle.journal_start.specs.Ranges.{IsStart}

-- the users, and each user's shares, recipes, owned fingerprints and files
abbrev pub rooms_bytes : UserRooms → List ℕ
rooms_bytes rooms = to_be_bytes w32 rooms.users ++ (to_be_bytes w64 rooms.shares ++ (to_be_bytes w64 rooms.recipes ++ (to_be_bytes w32 rooms.owners ++ to_be_bytes w32 rooms.files)))

-- the letters, the format, n, k and the cloud
abbrev pub front_bytes : Header → List ℕ
front_bytes header = codes "CDST" ++ header.format ∷ header.shape.n ∷ header.shape.k ∷ header.cloud.0 ∷ []

-- in format 2 the rooms too
abbrev pub header_bytes : Header → List ℕ
header_bytes header = if header.format == 1 then front_bytes header else front_bytes header ++ rooms_bytes header.rooms

-- the end of the recipes in format 1, the region in format 2
abbrev pub last_bytes : ℕ → Checkpoint → List ℕ
last_bytes format checkpoint = if format == 1 then to_be_bytes w64 checkpoint.recipes_end else checkpoint.region ∷ []

-- the epoch, the commands, the records, and what its format has besides
abbrev pub checkpoint_bytes : ℕ → Checkpoint → List ℕ
checkpoint_bytes format checkpoint = to_be_bytes w64 checkpoint.epoch ++ (to_be_bytes w64 checkpoint.commands ++ (to_be_bytes w32 checkpoint.records ++ last_bytes format checkpoint))

abbrev pub behind_header : ℕ → Option Checkpoint → List ℕ
behind_header format None = []
behind_header format (Some checkpoint) = checkpoint_bytes format checkpoint

abbrev pub start_bytes : Start → List ℕ
start_bytes start = header_bytes start.header ++ behind_header start.header.format start.checkpoint

-- The bytes are this start's, in this half: its one spelling, and each field is in its range.
pub record IsSpelled (half : ℕ) (bytes : List ℕ) (start : Start) : Type 0 where
  pub is_start : IsStart half start
  pub bytes_are : bytes ≡ start_bytes start

-- ---- what a start says, where it has no checkpoint too

abbrev pub epoch_of : Option Checkpoint → ℕ
epoch_of None = 0
epoch_of (Some checkpoint) = checkpoint.epoch

abbrev pub commands_of : Option Checkpoint → ℕ
commands_of None = 0
commands_of (Some checkpoint) = checkpoint.commands

abbrev pub records_of : Option Checkpoint → ℕ
records_of None = 0
records_of (Some checkpoint) = checkpoint.records

abbrev pub region_of : Option Checkpoint → ℕ
region_of None = 0
region_of (Some checkpoint) = checkpoint.region

abbrev pub recipes_end_of : Option Checkpoint → ℕ
recipes_end_of None = 0
recipes_end_of (Some checkpoint) = checkpoint.recipes_end
