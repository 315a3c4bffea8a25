-- What a migration answers by the bytes of the areas: the journal's records of format 1 one after another, and what they leave.
use Rattle.std.specs.Prelude.{◌≡◌, ◌≢◌, ℕ, ◌+◌, ◌*◌, ◌<◌, ◌≤◌, nat_lt, List, length, drop, slice_index, Result, Ok, Err}
use Rattle.std.specs.Int.{w32, w64, to_be_bytes}
use Rattle.fresh_checkpoints.specs.CdBase.ids.CloudNo.{CloudNo}
use Rattle.fresh_checkpoints.specs.CdBase.ids.UserId.{UserId}
use Rattle.fresh_checkpoints.specs.CdBase.shape.Shape.{Shape}
use Rattle.fresh_checkpoints.specs.CdEdges.area.Area.TheVariants.{Journal, Recipes}
use Rattle.fresh_checkpoints.specs.CdEdges.Disk.{Image}
use Rattle.cloud_opening.specs.JournalHalves.Records.{IsDamage}
use Rattle.cloud_opening.specs.JournalHalves.Frames.{IsClosed, IsRecordAhead}
use Rattle.cloud_opening.specs.JournalStart.rooms.UserRooms.{UserRooms}
use Rattle.cloud_opening.specs.JournalStart.start.Header.{Header}
use Rattle.cloud_opening.specs.JournalStart.start.Start.{Start}
use Rattle.cloud_opening.specs.JournalStart.Spelling.{start_bytes, records_of, recipes_end_of}
use Rattle.fresh_checkpoints.specs.JournalHalves.Beginnings.{IsUnbegun}
use Rattle.fresh_checkpoints.specs.JournalHalves.Halves.{half_len, IsCurrent}
use Rattle.fresh_checkpoints.specs.JournalHalves.Findings.{part_of, IsFoundDamage}
use Rattle.cloud_opening.specs.CommitJournal.Outcomes.{records_place}
use Rattle.cloud_opening.specs.UserDedup.Dedup.{FullRoom}
use Rattle.fresh_checkpoints.specs.CloudMemory.Memory.{Memory}
use Rattle.first_laws.specs.Leaving.{begun_behind}
use Rattle.cloud_opening.specs.RecordChecks.ground.Ground.{Ground}
use Rattle.cloud_opening.specs.Exact.{ReadsFor, ground_of}
use Rattle.first_laws.specs.FirstRecords.errors.FirstErr.{FirstErr}
use Rattle.first_laws.specs.FirstRecords.errors.FirstErr.TheVariants as records
use Rattle.first_laws.specs.FirstRecords.Judging.{JudgesFirst}
use Rattle.fresh_checkpoints.specs.CompactMemories.Kept.{commands_in}
use Rattle.large_users.specs.MigrationModel.Migrating.{header_one}
use Rattle.store_migration.specs.declared.errors.OldErr.{OldErr}
use Rattle.store_migration.specs.declared.errors.OldErr.TheVariants.{NotBegun, Damaged, OtherStore, RoomsTooSmall}
use Rattle.store_migration.specs.declared.errors.MigrateErr.{MigrateErr}
use Rattle.store_migration.specs.declared.errors.MigrateErr.TheVariants as why
use Rattle.large_users.specs.Large.{IsFirstPassed, IsNonePassed}

-- ---- before the records

-- as many users as have a row
abbrev pub users_most : ℕ
users_most = 256

-- a header of format 2 of this cloud, whatever its rooms are
pub record IsNewHeader (shape : Shape) (cloud : CloudNo) (header : Header) : Type 0 where
  pub format : header.format ≡ 2
  pub shape_is : header.shape ≡ shape
  pub cloud_is : header.cloud ≡ cloud

-- the first place of the recipes' end in a start's record
abbrev pub end_place : ℕ
end_place = 33

-- ---- the records

-- why a record isn't taken
abbrev pub old_err : FirstErr → OldErr
old_err (records.Damaged damage) = Damaged damage.at damage.byte
old_err (records.RoomsTooSmall room limit at) = RoomsTooSmall room limit at

-- What comes of the bytes of a half from a gate on, over what is remembered until then, and the memory that is left where the answer is Ok.
-- The gate stands at this place of the area, behind so many records; the first of all are the checkpoint's, as many as the start says. A
-- gate that is closed before these is damage of their number in the start, and else the end. A record that is taken is one more, and then
-- come the bytes behind it. Else the answer is an Err: the record's damage, or that of its body, or a room that it passes.
pub data ReplaysFirst (g : Ground) (half : ℕ) (start : Start) (recipes : List ℕ) (new : Memory) : List ℕ → ℕ → ℕ → Memory → Result (Unit {0}) OldErr → Type 0 where
  Ended : (rest : List ℕ) (gate records : ℕ) → IsClosed rest → records_of start.checkpoint ≤ records
      → ReplaysFirst g half start recipes new rest gate records new (Ok tt)
  Early : (rest : List ℕ) (gate records : ℕ) (old : Memory) → IsClosed rest → records < records_of start.checkpoint
      → ReplaysFirst g half start recipes new rest gate records old
      (Err (Damaged (half * half_len + records_place start) (slice_index (to_be_bytes w32 (records_of start.checkpoint)) 0)))
  Taken : (rest body read : List ℕ) (gate records : ℕ) (old mid : Memory) (answer : Result (Unit {0}) OldErr) → IsRecordAhead rest body
      → ReadsFor g (nat_lt records (records_of start.checkpoint)) old body recipes read
      → JudgesFirst g (nat_lt records (records_of start.checkpoint)) read old (gate + 5) body (Ok mid)
      → ReplaysFirst g half start recipes new (drop (5 + length body) rest) (gate + 5 + length body) (records + 1) mid answer
      → ReplaysFirst g half start recipes new rest gate records old answer
  Refused : (rest body read : List ℕ) (gate records : ℕ) (old : Memory) (error : FirstErr) → IsRecordAhead rest body
      → ReadsFor g (nat_lt records (records_of start.checkpoint)) old body recipes read
      → JudgesFirst g (nat_lt records (records_of start.checkpoint)) read old (gate + 5) body (Err error)
      → ReplaysFirst g half start recipes new rest gate records old (Err (old_err error))
  Broken : (rest : List ℕ) (gate records at byte : ℕ) (old : Memory) → IsDamage rest gate at byte
      → ReplaysFirst g half start recipes new rest gate records old (Err (Damaged at byte))

-- What comes of all records behind the start of this half, over areas that read so, and a memory of no commands.
abbrev pub ReplaysAllFirst : Header → ℕ → Start → Image → Memory → Result (Unit {0}) OldErr → Type 0
ReplaysAllFirst header half start image new answer = ReplaysFirst (ground_of header start image) half start (image Recipes) new
    (drop (length (start_bytes start) + 5) (part_of half (image Journal))) (half * half_len + (length (start_bytes start) + 5)) 0
    (begun_behind users_most (recipes_end_of start.checkpoint)) answer

-- ---- a reading

-- What is found where a journal of format 1 is to be read over areas that read so, and the memory that is left where the answer is Ok: its
-- starts first, then whether the cloud is in format 2, its header, where the recipes are to end, and then the records.
pub data ReadsOld (shape : Shape) (cloud : CloudNo) (image : Image) (new : Memory) : Result (Unit {0}) MigrateErr → Type 0 where
  Unbegun : IsUnbegun (image Journal) → ReadsOld shape cloud image new (Err (why.Open (NotBegun (length (image Journal)))))
  NoStart : (at byte : ℕ) → IsFoundDamage (image Journal) at byte → ReadsOld shape cloud image new (Err (why.Open (Damaged at byte)))
  New : (half : ℕ) (start : Start) → IsCurrent (image Journal) half start → IsNewHeader shape cloud start.header
      → ReadsOld shape cloud image new (Err why.Already)
  Other : (half : ℕ) (start : Start) → IsCurrent (image Journal) half start → ¬ (IsNewHeader shape cloud start.header)
      → start.header ≢ header_one shape cloud
      → ReadsOld shape cloud image new (Err (why.Open (OtherStore start.header (header_one shape cloud) (half * half_len + 5))))
  PastEnd : (half : ℕ) (start : Start) → IsCurrent (image Journal) half start → start.header ≡ header_one shape cloud
      → length (image Recipes) < recipes_end_of start.checkpoint
      → ReadsOld shape cloud image new
      (Err (why.Open (Damaged (half * half_len + end_place) (slice_index (to_be_bytes w64 (recipes_end_of start.checkpoint)) 0))))
  Unread : (half : ℕ) (start : Start) (error : OldErr) → IsCurrent (image Journal) half start → start.header ≡ header_one shape cloud
      → recipes_end_of start.checkpoint ≤ length (image Recipes)
      → ReplaysAllFirst (header_one shape cloud) half start image new (Err error) → ReadsOld shape cloud image new (Err (why.Open error))
  Read : (half : ℕ) (start : Start) → IsCurrent (image Journal) half start → start.header ≡ header_one shape cloud
      → recipes_end_of start.checkpoint ≤ length (image Recipes)
      → ReplaysAllFirst (header_one shape cloud) half start image new (Ok tt) → ReadsOld shape cloud image new (Ok tt)

-- ---- a migration

-- What a migration answers, where no device call fails and there is memory, over areas that read so.
pub data Migrates (shape : Shape) (cloud : CloudNo) (rooms : UserRooms) (image : Image) : Result ℕ MigrateErr
    → Type 0 where
  Unread : (m : Memory) (error : MigrateErr) → ReadsOld shape cloud image m (Err error) → Migrates shape cloud rooms image (Err error)
  Large : (m : Memory) (user : UserId) (full : FullRoom) → ReadsOld shape cloud image m (Ok tt) → IsFirstPassed rooms m user full
      → Migrates shape cloud rooms image (Err (why.TooLarge user full.room full.used full.limit))
  Moves : (m : Memory) → ReadsOld shape cloud image m (Ok tt) → IsNonePassed rooms m → Migrates shape cloud rooms image (Ok (commands_in m))
