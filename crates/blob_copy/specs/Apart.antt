-- Blobs that a write leaves alone.
use Rattle.std.specs.Prelude.{◌⊎◌, ℕ, ◌+◌, ◌≤◌, List, length}
use Rattle.record_laws.specs.ContainerLog.Laying.{Placed}

-- the blob lies in front of the bytes that are written at the end, or behind them
abbrev pub IsApart : ℕ → List ℕ → Placed → Type 0
IsApart end bytes b = (b.place + length b.blob ≤ end) ⊎ (end + length bytes ≤ b.place)
