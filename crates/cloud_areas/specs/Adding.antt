-- A chain with one record more, and areas that keep what a chain places.
use Rattle.std.specs.Prelude.{ℕ, ◌+◌, ◌*◌, ◌≤◌, List, [], ◌∷◌, ◌++◌, All}
use Rattle.std.specs.List.{Contains}
use Rattle.journal_halves.specs.CdEdges.area.Area.TheVariants.{Shares, Recipes}
use Rattle.journal_halves.specs.CdEdges.Disk.{Image}
use Rattle.journal_halves.specs.JournalStart.start.Header.{Header}
use Rattle.container_log.specs.Laying.{Placed, IsAt}
use Rattle.record_body.specs.Spelling.{Body, FitsBody}
use Rattle.user_dedup.specs.declared.command.Command.{Command}
use Rattle.user_dedup.specs.Dedup.{IsSound}
use Rattle.user_dedup.specs.Spending.{spent_by_all}
use Rattle.cloud_areas.specs.Placing.{shares_in, shares_placed, recipes_placed, places_of, region_start, shares_end, recipes_end}
use Rattle.cloud_areas.specs.Chains.{IsRecord, laid_shares, LiesIn, least_shares, least_recipes, BothHaveRoom}
use Rattle.cloud_areas.specs.Standing.{Chain, region_in}

-- the chain with one more record, and with the recipes that the record places
abbrev pub with_record : Chain → Body → List Placed → Chain
with_record c body laid = record { half = c.half; start = c.start; records = c.records ++ body ∷ []; recipes = c.recipes ++ laid }

-- The record adds the command to the list that the chain says: it is that command's, the list with the command is sound, and what the record
-- places lies in the areas, which have room for it: shares as the longer list holds them, and recipes.
pub record Adds (header : Header) (image : Image) (list : List Command) (c : Chain) (command : Command) (body : Body) (laid : List Placed) : Type 0 where
  pub is_record : IsRecord (region_in c) c.records list command body laid
  pub sound : IsSound header.shape header.cloud.0 (list ++ command ∷ [])
  pub fits : FitsBody body
  pub shares : All (IsAt (image Shares)) (laid_shares (list ++ command ∷ []) (shares_placed body))
  pub recipes : All (IsAt (image Recipes)) laid
  pub rooms : BothHaveRoom (region_in c) (list ++ command ∷ []) (c.records ++ body ∷ [])

-- Each blob that the chain places lies in the other image if it lies in this one.
pub record KeepsBlobs (image other : Image) (list : List Command) (c : Chain) : Type 0 where
  pub shares : (b : Placed) → Contains (laid_shares list (shares_in c.records)) b → IsAt (image Shares) b → IsAt (other Shares) b
  pub recipes : (b : Placed) → Contains c.recipes b → IsAt (image Recipes) b → IsAt (other Recipes) b

-- The areas have room for what a record places behind these records, where the list is then this one: each place lies in the region and in
-- one container, and both areas end within their bounds.
pub record HasRoomFor (region : ℕ) (list : List Command) (records : List Body) (body : Body) : Type 0 where
  pub shares : All (LiesIn region) (places_of (shares_placed body))
  pub recipes : All (LiesIn region) (recipes_placed body)
  pub shares_bound : shares_end region (records ++ body ∷ []) ≤ region_start region + least_shares + 2 * (spent_by_all list).shares
  pub recipes_bound : recipes_end region (records ++ body ∷ []) ≤ region_start region + least_recipes + 2 * (spent_by_all list).recipes
