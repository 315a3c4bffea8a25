-- What is read of the records of a half.
use Rattle.std.specs.Prelude.{◌≡◌, ◌⊎◌, ℕ, ◌+◌, ◌-◌, ◌<◌, ◌≤◌, List, [], ◌∷◌, ◌++◌, length, take, drop}
use Rattle.cd_edges.specs.Disk.{Store}
use Rattle.cd_edges.specs.Shelf.{stable}
use Rattle.journal_halves.specs.Records.{chain, AreBodies, IsJournal}
use Rattle.journal_halves.specs.Halves.{half_len, half_of}
use Rattle.journal_halves.specs.Findings.{part_of}
use Rattle.journal_halves.specs.declared.records.HalfRecords.{HalfRecords}

-- what the records of a half show
pub record HalfState : Type 0 where
  pub half : ℕ
  pub gate : ℕ  -- the place of the next gate, counted from the half's first place
  pub ahead : List ℕ  -- bytes of the half from the gate on that were read already
  pub body : List ℕ  -- the body of the last record
  pub body_at : ℕ  -- its place in the area

abbrev pub state_of : HalfRecords → HalfState
state_of r = record {
  half = r.half;
  gate = r.gate;
  ahead = take (r.filled - r.from) (drop r.from r.buffer.items);
  body = take r.body_len (drop r.body_from r.buffer.items);
  body_at = r.body_at;
}

-- at a gate of a half, with nothing read
abbrev pub begun_at : ℕ → ℕ → HalfState
begun_at half gate = record { half = half; gate = gate; ahead = []; body = []; body_at = 0 }

-- All of the area is on the disk. In the half, up to its end or the area's, the open records before the gate are those of
-- these bodies, and what was read ahead are the first bytes of what follows.
pub record IsHalfReading (state : HalfState) (store : Store) (bodies : List (List ℕ)) : Type 0 where
  pub synced : store ≡ stable store.read
  pub sizes : AreBodies bodies
  pub rest : List ℕ
  pub more : 0 < length rest
  pub spelled : part_of state.half store.read ≡ chain bodies ++ rest
  pub gate : state.gate ≡ length (chain bodies)
  pub ahead : state.ahead ≡ take (length state.ahead) rest

-- All of the area is on the disk, the half has the records of these bodies, and the gate is the closed one behind them.
pub record IsEnded (state : HalfState) (store : Store) (bodies : List (List ℕ)) : Type 0 where
  pub synced : store ≡ stable store.read
  pub chain_is : IsJournal bodies (half_of state.half store.read)
  pub gate : state.gate ≡ length (chain bodies)
  pub within : state.gate + 1 ≤ half_len

-- The half has the records of these bodies, and the places of the other half are as they were.
pub record IsHalfKept (half : ℕ) (old : List ℕ) (bodies : List (List ℕ)) (image : List ℕ) : Type 0 where
  pub chain_is : IsJournal bodies (half_of half image)
  pub other : part_of (1 - half) image ≡ part_of (1 - half) old

-- the old records, or one more
abbrev pub IsAdded : ℕ → List ℕ → List (List ℕ) → List ℕ → List ℕ → Type 0
IsAdded half old bodies body image = IsHalfKept half old bodies image ⊎ IsHalfKept half old (bodies ++ body ∷ []) image
