-- What an opening answers, and the memory that it leaves, by the bytes of the areas: the journal's records one after another.
use Rattle.std.specs.Prelude.{◌≡◌, ◌≢◌, ℕ, ◌+◌, ◌-◌, ◌*◌, ◌^◌, ◌<◌, ◌≤◌, min, nat_lt, Bool, false, IsTrue, List, [], length, take, drop, slice_index, Some, Result, Ok, Err, OnOk}
use Rattle.std.specs.Int.{w32, to_be_bytes}
use Rattle.std.specs.List.{sum_by}
use Rattle.cloud_disk.specs.CdEdges.area.Area.TheVariants.{Journal, Shares, Recipes}
use Rattle.cloud_disk.specs.CdEdges.Disk.{Image}
use Rattle.cloud_disk.specs.JournalHalves.Records.{IsDamage}
use Rattle.cloud_disk.specs.JournalHalves.Frames.{IsClosed, IsRecordAhead}
use Rattle.cloud_disk.specs.CdBase.place.Place.{Place}
use Rattle.record_laws.specs.SpentTable.Spent.{Spent}
use Rattle.cloud_disk.specs.JournalStart.start.Header.{Header}
use Rattle.cloud_disk.specs.JournalStart.start.Start.{Start}
use Rattle.cloud_disk.specs.JournalStart.Spelling.{start_bytes, commands_of, records_of, region_of}
use Rattle.cloud_disk.specs.JournalHalves.Halves.{half_len, IsCurrent}
use Rattle.cloud_disk.specs.JournalHalves.Findings.{part_of, IsFoundDamage}
use Rattle.cloud_disk.specs.CommitJournal.errors.OpenErr.{OpenErr}
use Rattle.cloud_disk.specs.CommitJournal.errors.OpenErr.TheVariants.{NotBegun, Damaged, OtherStore}
use Rattle.cloud_disk.specs.JournalHalves.Beginnings.{IsUnbegun}
use Rattle.cloud_disk.specs.CommitJournal.Outcomes.{records_place}
use Rattle.cloud_disk.specs.CloudAreas.Placing.{region_start}
use Rattle.cloud_disk.specs.CloudAreas.Chains.{least_shares, least_recipes}
use Rattle.record_laws.specs.RecordChecks.CloudMemory.Memory.{Memory}
use Rattle.record_laws.specs.RecordChecks.CloudMemory.Steps.{begun}
use Rattle.record_laws.specs.RecordChecks.damage.Damage.{Damage}
use Rattle.record_laws.specs.RecordChecks.ground.Ground.{Ground}
use Rattle.record_laws.specs.RecordChecks.taking.Taking.{Taking}
use Rattle.record_laws.specs.RecordChecks.Checks.{AsksFor}
use Rattle.record_laws.specs.RecordChecks.Judging.{Judges}
use Rattle.record_laws.specs.RecordChecks.Noting.{nothing_noted, IsNoted}

-- ---- before the records

-- what is known of a store with this header that begins so, over areas that read so
abbrev pub ground_of : Header → Start → Image → Ground
ground_of header start image = record {
  shape = header.shape;
  rooms = header.rooms;
  region = region_of start.checkpoint;
  shares_len = length (image Shares);
  recipes_len = length (image Recipes);
}

-- How many commands there are where so many records stand behind the start: as many as the start says, and one for each record behind the
-- checkpoint's, as far as 64 bits reach.
abbrev pub number_behind : Start → ℕ → ℕ
number_behind start records = min (commands_of start.checkpoint + (records - records_of start.checkpoint)) (2 ^ 64 - 1)

-- ---- a record

-- the bytes that are read for a record's checks: those that lie in the area of recipes at the place that they ask for, or none
pub data ReadsFor (g : Ground) (inside : Bool) (m : Memory) (body recipes : List ℕ) : List ℕ → Type 0 where
  Recipe : (place : Place) → AsksFor g inside m body place → ReadsFor g inside m body recipes (take place.len (drop place.at recipes))
  Nothing : ((place : Place) → ¬ (AsksFor g inside m body place)) → ReadsFor g inside m body recipes []

-- ---- the end

-- how far both logs may end, by what all users have spent
abbrev pub shares_bound : Ground → Memory → ℕ
shares_bound g m = region_start g.region + least_shares + 2 * sum_by (λ (row : Spent). row.shares) m.spent

abbrev pub recipes_bound : Ground → Memory → ℕ
recipes_bound g m = region_start g.region + least_recipes + 2 * sum_by (λ (row : Spent). row.recipes) m.spent

-- The last check: both ends lie within their bounds. Else the place is damaged of the first blob that ends there, of shares first.
pub data Closes (g : Ground) (m : Memory) (t : Taking) (number : ℕ) : Result ℕ OpenErr → Type 0 where
  Within : m.shares_end ≤ shares_bound g m → m.recipes_end ≤ recipes_bound g m → Closes g m t number (Ok number)
  SharesPast : (field : Damage) → shares_bound g m < m.shares_end → t.shares_field ≡ Some field → Closes g m t number (Err (Damaged field.at field.byte))
  RecipesPast : (field : Damage) → m.shares_end ≤ shares_bound g m → recipes_bound g m < m.recipes_end → t.recipes_field ≡ Some field
      → Closes g m t number (Err (Damaged field.at field.byte))

-- ---- the records

-- What comes of the bytes of a half from a gate on, over what is remembered until then, and the memory that is left where the answer is Ok.
-- The gate stands at this place of the area, behind so many records; the first of all are the checkpoint's, as many as the start says. A
-- gate that is closed before these is damage of their number in the start, and else the end. A record that is taken is one more, and then
-- come the bytes behind it. Else the answer is an Err: the record's damage, or that of its body.
pub data Replays (g : Ground) (half : ℕ) (start : Start) (recipes : List ℕ) (new : Memory) : List ℕ → ℕ → ℕ → Memory → Taking → Result ℕ OpenErr → Type 0 where
  Ended : (rest : List ℕ) (gate records : ℕ) (t : Taking) (answer : Result ℕ OpenErr) → IsClosed rest → records_of start.checkpoint ≤ records
      → Closes g new t (number_behind start records) answer → Replays g half start recipes new rest gate records new t answer
  Early : (rest : List ℕ) (gate records : ℕ) (old : Memory) (t : Taking) → IsClosed rest → records < records_of start.checkpoint
      → Replays g half start recipes new rest gate records old t
      (Err (Damaged (half * half_len + records_place start) (slice_index (to_be_bytes w32 (records_of start.checkpoint)) 0)))
  Taken : (rest body read : List ℕ) (gate records : ℕ) (old mid : Memory) (t after : Taking) (answer : Result ℕ OpenErr) → IsRecordAhead rest body
      → ReadsFor g (nat_lt records (records_of start.checkpoint)) old body recipes read
      → Judges g (nat_lt records (records_of start.checkpoint)) read t.spent old (gate + 5) body (Ok mid) → IsNoted (gate + 5) body old t after
      → Replays g half start recipes new (drop (5 + length body) rest) (gate + 5 + length body) (records + 1) mid after answer
      → Replays g half start recipes new rest gate records old t answer
  Refused : (rest body read : List ℕ) (gate records : ℕ) (old : Memory) (t : Taking) (damage : Damage) → IsRecordAhead rest body
      → ReadsFor g (nat_lt records (records_of start.checkpoint)) old body recipes read
      → Judges g (nat_lt records (records_of start.checkpoint)) read t.spent old (gate + 5) body (Err damage)
      → Replays g half start recipes new rest gate records old t (Err (Damaged damage.at damage.byte))
  Broken : (rest : List ℕ) (gate records at byte : ℕ) (old : Memory) (t : Taking) → IsDamage rest gate at byte
      → Replays g half start recipes new rest gate records old t (Err (Damaged at byte))

-- What comes of all records behind the start of this half, over areas that read so, and a memory of no commands.
abbrev pub ReplaysAll : Header → ℕ → Start → Image → Memory → Result ℕ OpenErr → Type 0
ReplaysAll header half start image new answer = Replays (ground_of header start image) half start (image Recipes) new
    (drop (length (start_bytes start) + 5) (part_of half (image Journal))) (half * half_len + (length (start_bytes start) + 5)) 0
    (begun header.rooms.users (region_of start.checkpoint)) nothing_noted answer

-- ---- an opening

-- What an opening answers, where no device call fails, over areas that read so, and the memory that is left where the answer is Ok.
pub data Opens (header : Header) (begin : Bool) (image : Image) (new : Memory) : Result ℕ OpenErr → Type 0 where
  Unbegun : IsUnbegun (image Journal) → begin ≡ false → Opens header begin image new (Err (NotBegun (length (image Journal))))
  NoStart : (at byte : ℕ) → IsFoundDamage (image Journal) at byte → Opens header begin image new (Err (Damaged at byte))
  Other : (half : ℕ) (start : Start) → IsCurrent (image Journal) half start → start.header ≢ header
      → Opens header begin image new (Err (OtherStore start.header header (half * half_len + 5)))
  New : IsUnbegun (image Journal) → IsTrue begin → new ≡ begun header.rooms.users 0 → Opens header begin image new (Ok 0)
  Read : (half : ℕ) (start : Start) (answer : Result ℕ OpenErr) → IsCurrent (image Journal) half start → start.header ≡ header
      → ReplaysAll header half start image new answer → Opens header begin image new answer

-- The two answers are one, and after Ok the two memories are.
pub record IsSame (m n : Memory) (one two : Result ℕ OpenErr) : Type 0 where
  pub answers : one ≡ two
  pub memories : OnOk one (m ≡ n)
