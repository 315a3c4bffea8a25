-- What reading a start gives: fields from left to right. A reader's fault is how many bytes are left from the first wrong
-- place on, and so 0 where a field lacks bytes.
use Rattle.std.specs.Prelude.{ℕ, zero, suc, ◌-◌, ◌<◌, ◌&&◌, ◌||◌, Bool, List, [], ◌∷◌, length, slice_index, ⊤, Option, Some, None, Result, Ok, Err, ◌==◌, nat_le, nat_lt, if◌then◌else◌}
use Rattle.std.specs.Int.{w32, w64}
use Rattle.message_fields.specs.Grammar.Readers.{◌>>=◌, ◌▷◌, ◌▷▷◌}
use Rattle.message_fields.specs.Grammar.Fields.{number_at}
use Rattle.message_fields.specs.Parts.{made, kept, byte_as}
use Rattle.journal_start.specs.declared.rooms.UserRooms.{UserRooms}
use Rattle.journal_start.specs.declared.start.Checkpoint.{Checkpoint}
use Rattle.journal_start.specs.declared.start.Start.{Start}
use Rattle.journal_start.specs.declared.fault.StartFault.{StartFault}
use Rattle.journal_start.specs.declared.fault.StartFault.TheVariants as faults
use Rattle.journal_start.specs.Ranges.{is_users, is_within, most_shares, most_recipes, most_owners, most_files, usual_rooms}

abbrev pub byte_at : List ℕ → Result (ℕ × List ℕ) ℕ
byte_at = byte_as Some

-- ---- what stands before the rooms

-- one letter
abbrev pub letter_at : ℕ → List ℕ → Result (ℕ × List ℕ) ℕ
letter_at letter = kept (λ byte. byte == letter) byte_at

-- C, D, S and T: four fields
abbrev pub letters_at : List ℕ → Result (⊤ × List ℕ) ℕ
letters_at = made (λ letters. tt) (letter_at 67 ▷ (letter_at 68 ▷ (letter_at 83 ▷ letter_at 84)))

abbrev pub is_format : ℕ → Bool
is_format format = format == 1 || format == 2

abbrev pub is_shape : ℕ → ℕ → Bool
is_shape n k = nat_le 2 k && (nat_lt k n && nat_le n 16)

-- n and k. A pair that is no shape is wrong at k's place.
abbrev pub shape_at : List ℕ → Result ((ℕ × ℕ) × List ℕ) ℕ
shape_at = byte_at ▷▷ λ n. kept (is_shape n) byte_at

-- the shape, and a cloud below its n
abbrev pub cloud_at : List ℕ → Result (((ℕ × ℕ) × ℕ) × List ℕ) ℕ
cloud_at = shape_at ▷▷ λ shape. kept (λ cloud. nat_lt cloud shape.0) byte_at

abbrev pub Front : Type 0
Front = ⊤ × (ℕ × ((ℕ × ℕ) × ℕ))

-- the letters, the format, the shape and the cloud
unfoldable pub front_at : List ℕ → Result (Front × List ℕ) ℕ
front_at = letters_at ▷ (kept is_format byte_at ▷ cloud_at)

-- ---- rooms

abbrev pub make_rooms : ℕ × (ℕ × (ℕ × (ℕ × ℕ))) → UserRooms
make_rooms x = record { users = x.0; shares = x.1.0; recipes = x.1.1.0; owners = x.1.1.1.0; files = x.1.1.1.1 }

-- The users, and what each may hold. The first that breaks its range or its product is wrong.
unfoldable pub rooms_at : List ℕ → Result (UserRooms × List ℕ) ℕ
rooms_at = made make_rooms (kept is_users (number_at w32) ▷▷ λ users.
    kept (is_within most_shares users) (number_at w64) ▷ (kept (is_within most_recipes users) (number_at w64)
    ▷ (kept (is_within most_owners users) (number_at w32) ▷ kept (is_within most_files users) (number_at w32))))

-- ---- checkpoints

abbrev pub is_epoch : ℕ → Bool
is_epoch epoch = nat_le epoch 2

abbrev pub is_region : ℕ → Bool
is_region region = nat_le region 1

-- the epoch, the commands and the records
abbrev pub counts_at : List ℕ → Result ((ℕ × (ℕ × ℕ)) × List ℕ) ℕ
counts_at = kept is_epoch (number_at w64) ▷ (number_at w64 ▷ number_at w32)

abbrev pub make_first : (ℕ × (ℕ × ℕ)) × ℕ → Checkpoint
make_first x = record { epoch = x.0.0; commands = x.0.1.0; records = x.0.1.1; region = 0; recipes_end = x.1 }

abbrev pub make_second : (ℕ × (ℕ × ℕ)) × ℕ → Checkpoint
make_second x = record { epoch = x.0.0; commands = x.0.1.0; records = x.0.1.1; region = x.1; recipes_end = 0 }

-- in format 1, with the end of the recipes
unfoldable pub first_checkpoint_at : List ℕ → Result (Checkpoint × List ℕ) ℕ
first_checkpoint_at = made make_first (counts_at ▷ number_at w64)

-- in format 2, with the region
unfoldable pub second_checkpoint_at : List ℕ → Result (Checkpoint × List ℕ) ℕ
second_checkpoint_at = made make_second (counts_at ▷ kept is_region byte_at)

-- No checkpoint where half 0 has nothing more; else what is there is read as one.
unfoldable pub plain_or : ℕ → (List ℕ → Result (Checkpoint × List ℕ) ℕ) → List ℕ → Result (Option Checkpoint × List ℕ) ℕ
plain_or zero read [] = Ok (None, [])
plain_or zero read (byte ∷ bytes) = made Some read (byte ∷ bytes)
plain_or (suc half) read bytes = made Some read bytes

-- ---- all of it

-- what a start says, in numbers
pub record Fields : Type 0 where
  pub format : ℕ
  pub n : ℕ
  pub k : ℕ
  pub cloud : ℕ
  pub rooms : UserRooms
  pub checkpoint : Option Checkpoint

abbrev pub fields_of : Start → Fields
fields_of start = record {
  format = start.header.format;
  n = start.header.shape.n;
  k = start.header.shape.k;
  cloud = start.header.cloud.0;
  rooms = start.header.rooms;
  checkpoint = start.checkpoint;
}

-- the rooms, which are the usual ones in format 1, and the checkpoint
unfoldable pub tail_at : ℕ → ℕ → List ℕ → Result ((UserRooms × Option Checkpoint) × List ℕ) ℕ
tail_at half format bytes =
    if format == 1 then made (λ checkpoint. (usual_rooms, checkpoint)) (plain_or half first_checkpoint_at) bytes
    else (rooms_at ▷ plain_or half second_checkpoint_at) bytes

abbrev pub make_fields : Front → UserRooms × Option Checkpoint → Fields
make_fields front tail = record { format = front.1.0; n = front.1.1.0.0; k = front.1.1.0.1; cloud = front.1.1.1; rooms = tail.0; checkpoint = tail.1 }

-- a start in this half, and what follows it
unfoldable pub fields_at : ℕ → List ℕ → Result (Fields × List ℕ) ℕ
fields_at half bytes = front_at bytes >>= λ front. tail_at half front.0.1.0 front.1 >>= λ tail. Ok (make_fields front.0 tail.0, tail.1)

-- the byte from which on so many are left
abbrev pub wrong_at : List ℕ → ℕ → StartFault
wrong_at bytes left = faults.Wrong (length bytes - left) (slice_index bytes (length bytes - left))

-- the answer for all the bytes; one that is left over is wrong
abbrev pub judged : List ℕ → Result (Fields × List ℕ) ℕ → Result Fields StartFault
judged bytes (Ok (fields, [])) = Ok fields
judged bytes (Ok (fields, byte ∷ rest)) = Err (wrong_at bytes (length (byte ∷ rest)))
judged bytes (Err zero) = Err faults.Short
judged bytes (Err (suc left)) = Err (wrong_at bytes (suc left))

-- the start that the bytes are in this half, or the first thing that is wrong
unfoldable pub start_at : ℕ → List ℕ → Result Fields StartFault
start_at half bytes = judged bytes (fields_at half bytes)

-- an error's place is one of so many bytes
abbrev pub IsFaultPlaced : ℕ → StartFault → Type 0
IsFaultPlaced len faults.Short = Unit {0}
IsFaultPlaced len (faults.Wrong place byte) = place < len
