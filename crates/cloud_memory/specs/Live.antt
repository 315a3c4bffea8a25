-- The slots of a memory's tables that have something alive.
use Rattle.std.specs.Prelude.{◌≡◌, ℕ, ◌<◌, List, length, Option, Some, None, nat_lt, if◌then◌else◌}
use Rattle.std.specs.FinMap.{FinMap, get}
use Rattle.spent_table.specs.CdBase.place.Place.{Place}
use Rattle.file_index.specs.PoolMap.Slots.{slot_of}
use Rattle.share_index.specs.Order.{owner_cmp}
use Rattle.share_index.specs.Shares.{Shares, owners_of}

-- what is left of a slot's share where some user owns it
abbrev pub owned_only : FinMap owner_cmp ℕ → Option (List ℕ × Place) → Option (List ℕ × Place)
owned_only owners None = None
owned_only owners (Some placed) = if nat_lt 0 (owners_of owners placed.0) then Some placed else None

-- the share in a slot that some user owns
abbrev pub live_at : Shares → ℕ → Option (List ℕ × Place)
live_at s slot = owned_only s.owners (slot_of s.place_slots slot)

-- Each share that has a place and an owner stands in just one slot.
pub record IsEachLive (s : Shares) : Type 0 where
  pub stands : (fp : List ℕ) (place : Place) → get s.places fp ≡ Some place → 0 < owners_of s.owners fp
      → (slot : ℕ) × (slot < length s.place_slots) × (live_at s slot ≡ Some (fp, place))
  pub listed : (slot : ℕ) (fp : List ℕ) (place : Place) → live_at s slot ≡ Some (fp, place) → (get s.places fp ≡ Some place) × (0 < owners_of s.owners fp)
  pub once : (i j : ℕ) (fp : List ℕ) (p q : Place) → live_at s i ≡ Some (fp, p) → live_at s j ≡ Some (fp, q) → i ≡ j
