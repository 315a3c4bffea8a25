-- What the bytes from a gate on begin with.
use Rattle.std.specs.Prelude.{◌≡◌, ◌≢◌, ℕ, ◌<◌, List, ◌∷◌, ◌++◌, length}
use Rattle.journal_halves.specs.declared.frame.Frame.{Frame}
use Rattle.journal_halves.specs.declared.frame.Frame.TheVariants.{Closed, Record, BadLength, Short}
use Rattle.journal_halves.specs.Records.{IsJournalBody, window_len, sized, NoRecord}

-- a gate that is closed
pub record IsClosed (ahead : List ℕ) : Type 0 where
  pub gate : ℕ
  pub behind : List ℕ
  pub shut : gate ≢ 1
  pub spelled : ahead ≡ gate ∷ behind

-- an open record with its next gate
pub record IsRecordAhead (ahead body : List ℕ) : Type 0 where
  pub gate : ℕ
  pub behind : List ℕ
  pub is_body : IsJournalBody body
  pub spelled : ahead ≡ 1 ∷ sized body ++ gate ∷ behind

-- an open gate before no length of a body, whatever comes behind
pub record HasBadLength (ahead : List ℕ) : Type 0 where
  pub byte : ℕ
  pub tail : List ℕ
  pub spelled : ahead ≡ 1 ∷ byte ∷ tail
  pub none : (more : List ℕ) → NoRecord (ahead ++ more)

-- nothing, or an open gate before too few bytes
pub record IsRecordCutOff (ahead : List ℕ) : Type 0 where
  pub few : length ahead < window_len
  pub opened : 0 < length ahead → (tail : List ℕ) × (ahead ≡ 1 ∷ tail)
  pub none : NoRecord ahead

abbrev pub IsFrameAhead : List ℕ → Frame → Type 0
IsFrameAhead ahead Closed = IsClosed ahead
IsFrameAhead ahead (Record len) = (body : List ℕ) × IsRecordAhead ahead body × (length body ≡ len)
IsFrameAhead ahead BadLength = HasBadLength ahead
IsFrameAhead ahead Short = IsRecordCutOff ahead
