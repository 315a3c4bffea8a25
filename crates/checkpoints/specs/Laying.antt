-- The records of a checkpoint, and the chain that they make in the other half.
use Rattle.std.specs.Prelude.{◌≡◌, ℕ, ◌+◌, List, [], ◌∷◌, ◌++◌, length, map, IsTrue, Result, OnOk}
use Rattle.cloud_disk.specs.CdEdges.area.Area.TheVariants.{Journal}
use Rattle.cloud_disk.specs.CdEdges.Disk.{Cloud, LeavesOnly, IsAtArea}
use Rattle.cloud_disk.specs.JournalStart.start.Header.{Header}
use Rattle.cloud_disk.specs.JournalHalves.Journals.{Where, IsEither}
use Rattle.cloud_disk.specs.CommitJournal.States.{JournalState, IsJournalEnded, next_of}
use Rattle.cloud_memory.specs.RecordBody.Spelling.{Body, body_bytes, IsBody}

-- the bytes that a record takes with its length and its gate
abbrev pub record_len : Body → ℕ
record_len body = length (body_bytes body) + 5

-- the most bytes that one takes
abbrev pub longest_record : ℕ
longest_record = 11532

abbrev pub records_len : List Body → ℕ
records_len [] = 0
records_len (body ∷ bodies) = record_len body + records_len bodies

-- The first of these records is in a buffer, and the others are to come.
pub record IsNextInBuffer (old new : List Body) (bytes : List ℕ) : Type 0 where
  pub body : Body
  pub front : old ≡ body ∷ new
  pub is_body : IsBody bytes body

-- the chain with these records behind it
abbrev pub with_bodies : Where → List Body → Where
with_bodies w bodies = record { half = w.half; start = w.start; bodies = w.bodies ++ map body_bytes bodies }

-- the checkpoint of these records behind a chain
abbrev pub checkpoint_behind : Where → Header → ℕ → ℕ → ℕ → List Body → Where
checkpoint_behind w header commands count region bodies = with_bodies (next_of w header commands count region) bodies

-- Whatever chain the journal has: each image since has it, or the checkpoint's in its place.
abbrev pub KeepsOrSettles : JournalState → Header → ℕ → ℕ → ℕ → List Body → Cloud → Cloud → Type 0
KeepsOrSettles state header commands count region bodies old new = IsTrue old.told → (w : Where) → IsJournalEnded state (old.now Journal) w
    → LeavesOnly old new (IsAtArea old.now Journal (IsEither w (checkpoint_behind w header commands count region bodies)))

-- Whatever chain it had, it has the checkpoint's then.
abbrev pub HasSettled : {T E : Type 0} → JournalState → JournalState → Header → ℕ → ℕ → ℕ → List Body → Cloud → Cloud → Result T E → Type 0
HasSettled before after header commands count region bodies old new result = IsTrue old.told → (w : Where) → IsJournalEnded before (old.now Journal) w
    → OnOk result (IsJournalEnded after (new.now Journal) (checkpoint_behind w header commands count region bodies))
