-- A journal as a chain of records.
use Rattle.std.specs.Prelude.{◌≡◌, ◌≢◌, ◌⊎◌, ℕ, ◌+◌, ◌≤◌, Bool, false, ◌==◌, List, [], ◌∷◌, ◌++◌, length}
use Rattle.std.specs.Int.{w32, to_be_bytes}

-- A body has 1 to 65,535 bytes.
pub record IsJournalBody (body : List ℕ) : Type 0 where
  pub some : 1 ≤ length body
  pub few : length body ≤ 65535

-- as many bytes as the longest record has, with its own gate and the next one
abbrev pub window_len : ℕ
window_len = 65541

-- four bytes of length, and the body
abbrev pub sized : List ℕ → List ℕ
sized body = to_be_bytes w32 (length body) ++ body

-- the record of a body without its gate, and the next record's gate, closed
abbrev pub framed : List ℕ → List ℕ
framed body = sized body ++ 0 ∷ []

-- open records of these bodies: before each its gate, 1
abbrev pub chain : List (List ℕ) → List ℕ
chain [] = []
chain (body ∷ bodies) = 1 ∷ sized body ++ chain bodies

-- each of them is a body
abbrev pub AreBodies : List (List ℕ) → Type 0
AreBodies [] = Unit {0}
AreBodies (body ∷ bodies) = IsJournalBody body × AreBodies bodies

-- The open records are those of these bodies. Behind them stands the first closed gate, which is any byte but 1, and
-- behind that anything.
pub record IsJournal (bodies : List (List ℕ)) (bytes : List ℕ) : Type 0 where
  pub gate : ℕ
  pub behind : List ℕ
  pub sizes : AreBodies bodies
  pub shut : gate ≢ 1
  pub spelled : bytes ≡ chain bodies ++ gate ∷ behind

-- the old bodies, or one more
abbrev pub IsBeforeOrAfter : List (List ℕ) → List ℕ → List ℕ → Type 0
IsBeforeOrAfter bodies body bytes = IsJournal bodies bytes ⊎ IsJournal (bodies ++ body ∷ []) bytes

-- A journal is begun where it has two bytes or more and its first gate is open.
abbrev pub is_begun : List ℕ → Bool
is_begun [] = false
is_begun (gate ∷ []) = false
is_begun (gate ∷ next ∷ rest) = gate == 1

-- What stands at a gate is no open record with its next gate, whatever its body.
abbrev pub NoRecord : List ℕ → Type 0
NoRecord rest = (body : List ℕ) (gate : ℕ) (behind : List ℕ) → IsJournalBody body
    → rest ≡ 1 ∷ sized body ++ gate ∷ behind → ⊥

-- The damage of an open record whose gate stands at `gate`, before `rest`: the gate is the last byte, or else no length
-- and no body with a next gate follow it. It is the gate's place, or the first place of the length.
pub data IsDamage (rest : List ℕ) (gate at byte : ℕ) : Type 0 where
  LastGate : rest ≡ 1 ∷ [] → at ≡ gate → byte ≡ 1 → IsDamage rest gate at byte
  BadLength : (tail : List ℕ) → rest ≡ 1 ∷ byte ∷ tail → NoRecord rest → at ≡ gate + 1 → IsDamage rest gate at byte
