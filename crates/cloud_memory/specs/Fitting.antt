-- A memory whose shares and recipes fit records.
use Rattle.std.specs.Prelude.{◌≡◌, ℕ, ◌≤◌, List, [], ◌∷◌, Some, IsSome}
use Rattle.std.specs.FinMap.{FinMap, get}
use Rattle.spent_table.specs.CdBase.Limits.{recipe_limit}
use Rattle.file_index.specs.declared.key.Entry.{Entry}
use Rattle.file_index.specs.declared.key.FileKey.{FileKey}
use Rattle.file_index.specs.Order.{key_cmp}
use Rattle.cloud_areas.specs.MessageFields.Shares.{share_limit}
use Rattle.cloud_areas.specs.RecordBody.body.PutItem.{PutItem}
use Rattle.spent_table.specs.CdBase.place.Place.{Place}
use Rattle.spent_table.specs.CdBase.Order.{fp_cmp}
use Rattle.share_index.specs.Placed.{AreAllPlaced}
use Rattle.cloud_memory.specs.Memory.{Memory}
use Rattle.cloud_memory.specs.Steps.{places_with}

-- Each share has from 1 to 8,208 bytes.
abbrev pub AreSharePlaces : FinMap fp_cmp Place → Type 0
AreSharePlaces places = (fp : List ℕ) (place : Place) → get places fp ≡ Some place → (1 ≤ place.len) × (place.len ≤ share_limit)

-- Each recipe has a byte.
abbrev pub AreRecipes : FinMap key_cmp Entry → Type 0
AreRecipes files = (key : FileKey) (e : Entry) → get files key ≡ Some e → 1 ≤ e.len

-- No recipe has more than 1,180,190 bytes.
abbrev pub AreShort : FinMap key_cmp Entry → Type 0
AreShort files = (key : FileKey) (e : Entry) → get files key ≡ Some e → e.len ≤ recipe_limit

-- What the memory has fits records: each share has from 1 to 8,208 bytes, each recipe from 1 to 1,180,190, and each fingerprint that some
-- user owns has a place.
pub record FitsRecords (m : Memory) : Type 0 where
  pub shares : AreSharePlaces m.places
  pub recipes : AreRecipes m.files
  pub short : AreShort m.files
  pub placed : AreAllPlaced m.places m.owners

-- What an item of a Put places has from 1 to 8,208 bytes.
abbrev pub FitsPart : PutItem → Type 0
FitsPart item = (place : Place) → item.place ≡ Some place → (1 ≤ place.len) × (place.len ≤ share_limit)

-- Each item's fingerprint has a place once it is taken: its own, or one from before.
abbrev pub AreItemsPlaced : FinMap fp_cmp Place → List PutItem → Type 0
AreItemsPlaced places [] = Unit {0}
AreItemsPlaced places (item ∷ items) =
    IsSome (get (places_with places item.fp item.place) item.fp.0) × AreItemsPlaced (places_with places item.fp item.place) items
