-- Places of a piece that are looked at side by side.
use Rattle.std.specs.Prelude.{◌≡◌, ℕ, ◌+◌, ◌-◌, ◌%◌, ◌^◌, ◌<◌, ◌==◌, false, List, slice_range}
use Rattle.rabin_chunker.specs.Cuts.{fingerprint_of}
use Rattle.rabin_chunker.specs.declared.scan.Lanes.{Lanes}

-- no place between `from` and `to` is marked
abbrev pub IsUnmarked : List ℕ → ℕ → ℕ → Type 0
IsUnmarked piece from to = (q : ℕ) → from < q → q < to → (fingerprint_of (slice_range piece (q - 48) q) % 2 ^ 13 == 8191) ≡ false

-- the lanes have the fingerprints before `at`, and 256, 512 and 768 bytes behind it
pub record AreLanesAt (piece : List ℕ) (at : ℕ) (lanes : Lanes) : Type 0 where
  pub first : lanes.first ≡ fingerprint_of (slice_range piece (at - 48) at)
  pub second : lanes.second ≡ fingerprint_of (slice_range piece (at + 256 - 48) (at + 256))
  pub third : lanes.third ≡ fingerprint_of (slice_range piece (at + 512 - 48) (at + 512))
  pub fourth : lanes.fourth ≡ fingerprint_of (slice_range piece (at + 768 - 48) (at + 768))

-- no lane is at a marked place
pub record AreUnmarked (lanes : Lanes) : Type 0 where
  pub first : (lanes.first % 2 ^ 13 == 8191) ≡ false
  pub second : (lanes.second % 2 ^ 13 == 8191) ≡ false
  pub third : (lanes.third % 2 ^ 13 == 8191) ≡ false
  pub fourth : (lanes.fourth % 2 ^ 13 == 8191) ≡ false
