-- The window of the newest bytes, kept as a ring.
use Rattle.std.specs.Prelude.{◌≡◌, ℕ, ◌+◌, ◌-◌, ◌<◌, ◌≤◌, List, ◌++◌, take, drop, slice_index}
use Rattle.rabin_chunker.specs.Cuts.{start_at}

-- a ring's bytes, from its oldest, which is at `next`
unfoldable pub oldest_first : ℕ → List ℕ → List ℕ
oldest_first next ring = drop next ring ++ take next ring

-- of the bytes of a window, those read since 2000 from where the secret begins are the newest before e
unfoldable pub IsRecent : List ℕ → ℕ → ℕ → List ℕ → Type 0
IsRecent file e inside window = (j : ℕ) → j < 48 → 2048 ≤ inside + j → slice_index window j ≡ slice_index file (e + j - 48)

-- what a reader at e has: `inside` bytes of a secret that has not ended, and their newest in the ring
pub record IsReaderAt (file : List ℕ) (e inside next : ℕ) (ring : List ℕ) : Type 0 where
  pub begun : start_at file e + inside ≡ e
  pub recent : IsRecent file e inside (oldest_first next ring)

-- the same of the bytes of a piece, at its place `at`
unfoldable pub IsNear : List ℕ → ℕ → ℕ → List ℕ → Type 0
IsNear piece at inside window = (j : ℕ) → j < 48 → 2048 ≤ inside + j → 48 ≤ at + j → slice_index window j ≡ slice_index piece (at + j - 48)
