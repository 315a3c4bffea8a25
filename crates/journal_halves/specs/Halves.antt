-- A journal of two halves: which of them are begun, and which is the current one.
use Rattle.std.specs.Prelude.{◌≡◌, ◌⊎◌, ℕ, ◌+◌, ◌*◌, ◌-◌, ◌%◌, Bool, false, List, drop}
use Rattle.journal_halves.specs.Records.{is_begun}
use Rattle.journal_halves.specs.Frames.{IsRecordAhead}
use Rattle.journal_start.specs.declared.rooms.UserRooms.{UserRooms}
use Rattle.journal_start.specs.declared.start.Start.{Start}
use Rattle.journal_start.specs.Ranges.{IsStart}
use Rattle.journal_start.specs.Spelling.{start_bytes, epoch_of}

-- the places of a half; half 1 begins behind those of half 0
abbrev pub half_len : ℕ
half_len = 134217728

-- the journal from the first place of a half on
abbrev pub half_of : ℕ → List ℕ → List ℕ
half_of half journal = drop (half * half_len) journal

-- the most places of a half that a chain takes, with its closed gate: the longest checkpoint and one longest record more
abbrev pub half_limit : UserRooms → ℕ
half_limit rooms = 11595 + rooms.users * (97 * rooms.owners + 94 * rooms.files + 30)

abbrev pub is_half_begun : ℕ → List ℕ → Bool
is_half_begun half journal = is_begun (half_of half journal)

-- The half begins with an open record that is a start, with its next gate.
pub record HasStart (journal : List ℕ) (half : ℕ) (start : Start) : Type 0 where
  pub is_start : IsStart half start
  pub record_is : IsRecordAhead (half_of half journal) (start_bytes start)

-- The half is the current one: it begins with this start, and the other isn't begun, or its epoch is the one before.
pub record IsCurrent (journal : List ℕ) (half : ℕ) (start : Start) : Type 0 where
  pub is_half : (half ≡ 0) ⊎ (half ≡ 1)
  pub begun : HasStart journal half start
  pub other : (is_half_begun (1 - half) journal ≡ false)
      ⊎ ((before : Start) × HasStart journal (1 - half) before × (epoch_of start.checkpoint ≡ (epoch_of before.checkpoint + 1) % 3))
