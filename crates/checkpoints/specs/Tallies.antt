-- Records that are counted without being written.
use Rattle.std.specs.Prelude.{◌≡◌, ◌≤◌, ◌+◌, ℕ, List, length, Option, Some, IfSome}
use Rattle.std.specs.FinMap.{FinMap, get}
use Rattle.cloud_memory.specs.CdBase.place.Place.{Place}
use Rattle.cloud_memory.specs.CdBase.Order.{fp_cmp}
use Rattle.cloud_memory.specs.RecordBody.FirstSpelling.{FitsPlace}
use Rattle.cloud_memory.specs.RecordBody.Spelling.{Body}
use Rattle.checkpoints.specs.Laying.{records_len}

-- Each place fits a record.
abbrev pub ArePlaces : FinMap fp_cmp Place → Type 0
ArePlaces places = (fp : List ℕ) (place : Place) → get places fp ≡ Some place → FitsPlace place

-- As many records as were counted, and within the limit.
abbrev pub IsTallied : List Body → ℕ → Option ℕ → Type 0
IsTallied records limit count = IfSome count (λ n. (n ≡ length records) × (63 + records_len records ≤ limit))
