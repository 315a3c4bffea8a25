-- What is said of a read that is compared: what it found, and what it left of the clouds.
use Rattle.std.specs.Prelude.{ℕ, Result, Ok, Err}
use Rattle.cloud_memory.specs.CdBase.ids.Fp.{Fp}
use Rattle.cd_edges.specs.Disk.{Cloud}
use Rattle.cd_edges.specs.Shelf.{IsCall, HasFailed, KeepsCounts, Stays}
use Rattle.server_reads.specs.declared.blobs.BlobStop.{BlobStop}
use Rattle.server_reads.specs.declared.blobs.BlobStop.TheVariants as stops

-- what is said where something else was found
abbrev pub IfRotten : {A : Type 0} → Result A BlobStop → (Fp → Fp → Type 0) → Type 0
IfRotten (Ok x) P = Unit {0}
IfRotten (Err stops.Failed) P = Unit {0}
IfRotten (Err (stops.Rotten named found)) P = P named found

-- what is said where the device failed
abbrev pub IfReadFailed : {A : Type 0} → Result A BlobStop → Type 0 → Type 0
IfReadFailed (Ok x) P = Unit {0}
IfReadFailed (Err stops.Failed) P = P
IfReadFailed (Err (stops.Rotten named found)) P = Unit {0}

-- what is said where it didn't
abbrev pub UnlessReadFailed : {A : Type 0} → Result A BlobStop → Type 0 → Type 0
UnlessReadFailed (Ok x) P = P
UnlessReadFailed (Err stops.Failed) P = Unit {0}
UnlessReadFailed (Err (stops.Rotten named found)) P = P

-- One cloud was read alone. The counts rose where a call failed, and else stayed.
pub record HasReadCloud {A : Type 0} (old new : ℕ → Cloud) (number before now : ℕ)
    (result : Result A BlobStop) : Type 0 where
  pub stays : Stays (old number) (new number)
  pub call : IsCall old new number before now
  pub failed : IfReadFailed result (HasFailed (old number) (new number) before now)
  pub counts : UnlessReadFailed result (KeepsCounts (old number) (new number) before now)
