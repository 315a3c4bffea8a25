-- The digests of shares, and an order of their places.
use Rattle.std.specs.Prelude.{◌≡◌, ℕ, ◌<◌, List, [], slice_index_or}
use Rattle.std.specs.List.{Contains}
use Rattle.sha2.specs.Sha256.{sha256}

-- the place at an index of an order, each behind a length
abbrev pub place_at : List (ℕ × ℕ) → ℕ → ℕ
place_at order index = (slice_index_or order index (0, 0)).1

-- a place is in the order, behind some length
pub record IsIn (order : List (ℕ × ℕ)) (place : ℕ) : Type 0 where
  pub len : ℕ
  pub has : Contains order (len, place)

-- each of so many places is in the order
abbrev pub HasAllPlaces : ℕ → List (ℕ × ℕ) → Type 0
HasAllPlaces places order = (place : ℕ) → place < places → IsIn order place

-- the digest at a place is that of the share there
abbrev pub IsRightAt : List (List ℕ) → List (List ℕ) → ℕ → Type 0
IsRightAt shares digests place = slice_index_or digests place [] ≡ sha256 (slice_index_or shares place [])
