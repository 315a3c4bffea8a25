-- The chain of a journal's current half, and a checkpoint that is laid in the other.
use Rattle.std.specs.Prelude.{◌≡◌, ◌≢◌, ◌⊎◌, ℕ, ◌+◌, ◌-◌, ◌*◌, ◌%◌, ◌<◌, ◌≤◌, List, [], ◌∷◌, ◌++◌, length, drop, take, slice_index, All}
use Rattle.cd_edges.specs.Disk.{Store}
use Rattle.cd_edges.specs.Shelf.{stable}
use Rattle.journal_halves.specs.Records.{chain, AreBodies, IsJournal}
use Rattle.journal_start.specs.declared.start.Start.{Start}
use Rattle.journal_start.specs.Ranges.{IsStart}
use Rattle.journal_start.specs.Spelling.{start_bytes, epoch_of}
use Rattle.journal_halves.specs.Halves.{half_len, half_of, IsCurrent}

-- a half, what its chain begins with, and the bodies of the records behind
pub record Where : Type 0 where
  pub half : ℕ
  pub start : Start
  pub bodies : List (List ℕ)

abbrev pub all_bodies : Where → List (List ℕ)
all_bodies w = start_bytes w.start ∷ w.bodies

-- the chain with one more record
abbrev pub with_body : Where → List ℕ → Where
with_body w body = record w { bodies = w.bodies ++ body ∷ [] }

-- so many places of its half are used, with the closed gate
abbrev pub used_by : Where → ℕ
used_by w = length (chain (all_bodies w)) + 1

-- The current half of the journal has this chain, up to a closed gate.
pub record HasChain (journal : List ℕ) (w : Where) : Type 0 where
  pub current : IsCurrent journal w.half w.start
  pub chain_is : IsJournal (all_bodies w) (half_of w.half journal)

-- what a crash leaves while one chain takes another's place
abbrev pub IsEither : Where → Where → List ℕ → Type 0
IsEither w next journal = HasChain journal w ⊎ HasChain journal next

-- All of the area is on the disk, and the chain is there within its half.
pub record Stands (store : Store) (w : Where) : Type 0 where
  pub synced : store ≡ stable store.read
  pub chain_there : HasChain store.read w
  pub sizes : AreBodies (all_bodies w)
  pub within : used_by w ≤ half_len

-- A checkpoint may follow with this start, in the other half: its epoch is the next one.
pub record MayFollow (w : Where) (half : ℕ) (start : Start) : Type 0 where
  pub other : half ≡ 1 - w.half
  pub is_start : IsStart half start
  pub epoch : epoch_of start.checkpoint ≡ (epoch_of w.start.checkpoint + 1) % 3

-- The first place of the other half is there, and doesn't open it.
pub record IsClosedAt (bytes : List ℕ) (half : ℕ) : Type 0 where
  pub inside : half * half_len < length bytes
  pub closed : slice_index bytes (half * half_len) ≢ 1

-- The other half is to be closed: its first place isn't there, or holds 1.
abbrev pub IsOpenAt : List ℕ → ℕ → Type 0
IsOpenAt bytes half = half * half_len < length bytes → slice_index bytes (half * half_len) ≡ 1

-- all that was written of an area since its last sync lies behind the first place of this half, and within it
abbrev pub AreInHalf : ℕ → List (ℕ × ℕ) → Type 0
AreInHalf half ranges = All (λ (range : ℕ × ℕ). (half * half_len + 1 ≤ range.0) × (range.1 ≤ half * half_len + half_len)) ranges

-- At the last sync the chain was there, and the first gate of this other half was closed; nothing was written since but
-- behind that gate, within its half.
pub record IsHalfApart (store : Store) (w : Where) (half : ℕ) : Type 0 where
  pub other : half ≡ 1 - w.half
  pub chain_there : HasChain store.synced w
  pub sizes : AreBodies (all_bodies w)
  pub within : used_by w ≤ half_len
  pub closed : IsClosedAt store.synced half
  pub ranges : AreInHalf half store.written

-- A checkpoint is being laid in the other half. Behind its first gate these bytes are written, and others wait, which
-- together are the chain of `next` without its first gate and its closed one.
pub record IsCheckpointLaid (store : Store) (w next : Where) (written waiting : List ℕ) : Type 0 where
  pub apart : IsHalfApart store w next.half
  pub follows : MayFollow w next.half next.start
  pub next_sizes : AreBodies (all_bodies next)
  pub there : take (length written) (drop (next.half * half_len + 1) store.read) ≡ written
  pub laid : 1 ∷ written ++ waiting ≡ chain (all_bodies next)

-- The checkpoint is on the disk but for its first gate, with the epoch behind that of the current half.
pub record IsLaidWhole (store : Store) (w next : Where) : Type 0 where
  pub synced : store ≡ stable store.read
  pub follows : MayFollow w next.half next.start
  pub chain_there : HasChain store.read w
  pub sizes : AreBodies (all_bodies w)
  pub within : used_by w ≤ half_len
  pub next_sizes : AreBodies (all_bodies next)
  pub gate : ℕ
  pub tail : List ℕ
  pub closed : gate ≢ 1
  pub last : ℕ
  pub behind : List ℕ
  pub shut : last ≢ 1
  pub half_is : half_of next.half store.read ≡ gate ∷ tail
  pub laid : 1 ∷ tail ≡ chain (all_bodies next) ++ last ∷ behind
