-- The three syncs that an opening begins with.
use Rattle.std.specs.Prelude.{◌≡◌, ◌≢◌, List, [], ◌∷◌, ◌++◌}
use Rattle.cloud_disk.specs.CdEdges.area.Area.{Area}
use Rattle.cloud_disk.specs.CdEdges.area.Area.TheVariants.{Journal, Shares, Recipes}
use Rattle.cloud_disk.specs.CdEdges.Disk.{Areas, Cloud}
use Rattle.cloud_disk.specs.CdEdges.Shelf.{stable}

-- One area is synced: a crash leaves it as it reads. The others are as they were.
pub record IsAreaSynced (synced : Area) (old new : Areas) : Type 0 where
  pub area : new synced ≡ stable (old synced).read
  pub others : (other : Area) → other ≢ synced → new other ≡ old other

-- Journal, Shares and Recipes were synced, in this order, at one moment each; and no other write or sync was made.
pub record AreSynced (old new : Cloud) : Type 0 where
  pub first : Areas
  pub second : Areas
  pub past : new.past ≡ old.past ++ (old.now ∷ first ∷ second ∷ [])
  pub journal : IsAreaSynced Journal old.now first
  pub shares : IsAreaSynced Shares first second
  pub recipes : IsAreaSynced Recipes second new.now

-- They were synced first, and then came what else there was.
pub record BeginsSynced (old new : Cloud) : Type 0 where
  pub synced : Cloud
  pub first : AreSynced old synced
  pub since : List Areas
  pub past : new.past ≡ synced.past ++ since
