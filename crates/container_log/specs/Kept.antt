-- What a crash keeps of a log.
use Rattle.std.specs.Prelude.{◌≡◌, ℕ, ◌<◌, ◌≤◌, List, length, slice_index}
use Rattle.cd_edges.specs.Disk.{Store, IsOutside}

-- Each byte below the end that lay in the area at its last sync and wasn't written since is there still.
pub record KeepsBelow (end : ℕ) (store : Store) (image : List ℕ) : Type 0 where
  pub no_shorter : length store.synced ≤ length image
  pub kept : (place : ℕ) → place < end → place < length store.synced → IsOutside store.written place → slice_index image place ≡ slice_index store.synced place
