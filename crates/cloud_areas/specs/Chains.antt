-- The records of a chain, and the list of commands that they say.
use Rattle.std.specs.Prelude.{◌≡◌, ◌⊎◌, ℕ, ◌+◌, ◌*◌, ◌≤◌, Bool, true, false, List, [], ◌∷◌, ◌++◌, length, map, slice_get, All, Option, Some, None}
use Rattle.user_dedup.specs.CdBase.ids.Fp.{Fp}
use Rattle.user_dedup.specs.CdBase.ids.Tag.{Tag}
use Rattle.user_dedup.specs.CdBase.ids.UserId.{UserId}
use Rattle.user_dedup.specs.CdBase.ids.Version.{Version}
use Rattle.user_dedup.specs.CdBase.shape.Shape.{Shape}
use Rattle.container_log.specs.Laying.{Placed}
use Rattle.container_log.specs.Places.{LiesInOne}
use Rattle.record_body.specs.declared.body.CommitBody.{CommitBody}
use Rattle.record_body.specs.declared.body.PutItem.{PutItem}
use Rattle.user_dedup.specs.CdBase.place.Place.{Place}
use Rattle.user_dedup.specs.Cloud.{fingerprint}
use Rattle.user_dedup.specs.Owning.{is_among}
use Rattle.user_dedup.specs.declared.command.Command.{Command}
use Rattle.user_dedup.specs.declared.command.Command.TheVariants as commands
use Rattle.user_dedup.specs.Cloud.{strings_in, held_bytes, counted}
use Rattle.user_dedup.specs.Spending.{spent_by_all}
use Rattle.record_body.specs.Spelling as bodies
use Rattle.record_body.specs.Spelling.{Body}
use Rattle.cloud_areas.specs.Placing.{places_given, shares_in, recipes_in, region_start, end_of, greatest_end, AreBehind, places_of, shares_end, recipes_end}
use Rattle.cloud_areas.specs.Checkpoints.{IsCheckpointOfList}

-- ---- one command more

-- A string of a Put, and where its record says that it is placed now: it is exactly where its fingerprint isn't among those before it.
abbrev pub PlacedNew : Bool → List ℕ → Option Place → Type 0
PlacedNew true string None = Unit {0}
PlacedNew true string (Some place) = ⊥
PlacedNew false string None = ⊥
PlacedNew false string (Some place) = place.len ≡ length string

-- The items of a Put's record are its strings, in their order. A string that comes twice is placed once.
abbrev pub AreItems : List Fp → List (List ℕ) → List PutItem → Type 0
AreItems before [] [] = Unit {0}
AreItems before [] (item ∷ items) = ⊥
AreItems before (s ∷ ss) [] = ⊥
AreItems before (s ∷ ss) (item ∷ items) =
    (item.fp ≡ fingerprint s) × PlacedNew (is_among before (fingerprint s)) s item.place × AreItems (before ++ fingerprint s ∷ []) ss items

-- The record of a Put behind these records and strings. What it places lies behind all shares that they place, each behind the one before it.
pub record IsPutRecord (region : ℕ) (before : List Body) (strings : List (List ℕ)) (user : UserId) (shares : List (List ℕ)) (body : Body) : Type 0 where
  pub items : List PutItem
  pub body_is : body ≡ bodies.Put user items
  pub each : AreItems (map fingerprint strings) shares items
  pub behind : AreBehind (shares_end region before) (places_of (places_given items))

-- what a Commit's record says of a recipe that lies at this place
abbrev pub commit_of : UserId → Tag → Version → List ℕ → ℕ → CommitBody
commit_of user tag version recipe at = record { user = user; tag = tag; version = version; at = at; len = length recipe; fp = fingerprint recipe }

-- The record of a Commit behind these records, and where its recipe lies: behind all recipes that they place.
pub record IsCommitRecord (region : ℕ) (before : List Body) (user : UserId) (tag : Tag) (version : Version) (recipe : List ℕ) (body : Body) (laid : List Placed) : Type 0 where
  pub at : ℕ
  pub body_is : body ≡ bodies.Commit (commit_of user tag version recipe at)
  pub behind : recipes_end region before ≤ at
  pub laid_is : laid ≡ record { place = at; blob = recipe } ∷ []

-- The record of a command behind these records and commands, and the recipes that it places.
abbrev pub IsRecord : ℕ → List Body → List Command → Command → Body → List Placed → Type 0
IsRecord region before list (commands.Put user shares) body laid = IsPutRecord region before (strings_in list) user shares body × (laid ≡ [])
IsRecord region before list (commands.Commit user tag version recipe) body laid = IsCommitRecord region before user tag version recipe body laid
IsRecord region before list (commands.Delete user tag version) body laid = (body ≡ bodies.Delete (record { user = user; tag = tag; version = version })) × (laid ≡ [])

-- ---- a chain

-- The first records, as many as the start says, are a checkpoint of as many commands as it says; then comes one record for each later
-- command, in order.
pub data AreRecordsOfList (format : ℕ) (shape : Shape) (region records commands : ℕ) : List Body → List Command → List Placed → Type 0 where
  Summed : (bodies : List Body) (list : List Command) (recipes : List Placed) → IsCheckpointOfList format shape list bodies recipes
      → length bodies ≡ records → counted list ≡ commands → AreRecordsOfList format shape region records commands bodies list recipes
  Then : (bodies : List Body) (list : List Command) (recipes : List Placed) (body : Body) (command : Command) (laid : List Placed)
      → AreRecordsOfList format shape region records commands bodies list recipes
      → IsRecord region bodies list command body laid
      → AreRecordsOfList format shape region records commands (bodies ++ body ∷ []) (list ++ command ∷ [])
      (recipes ++ laid)

-- the shares that the records place, each with the string that is held under its fingerprint
abbrev pub laid_shares : List Command → List (Fp × Place) → List Placed
laid_shares list shares = map (λ (x : Fp × Place). record { place = x.1.at; blob = held_bytes list x.0 }) shares

-- the place has the length of the string
abbrev pub AreLong : List Command → List (Fp × Place) → Type 0
AreLong list shares = All (λ (x : Fp × Place). x.1.len ≡ length (held_bytes list x.0)) shares

-- ---- where all of it lies

abbrev pub LiesIn : ℕ → Place → Type 0
LiesIn region p = (region_start region ≤ p.at) × LiesInOne p.at p.len

-- no two of them overlap
abbrev pub DontOverlap : List Place → Type 0
DontOverlap ps = (i j : ℕ) (p q : Place) → slice_get ps i ≡ Some p → slice_get ps j ≡ Some q → (i ≡ j) ⊎ ((end_of p ≤ q.at) ⊎ (end_of q ≤ p.at))

-- Each lies in the region and in one container, no two overlap, and the last one ends no further on than so many bytes and twice what was
-- spent.
pub record HaveRoom (region least spent : ℕ) (places : List Place) : Type 0 where
  pub each : All (LiesIn region) places
  pub apart : DontOverlap places
  pub bound : greatest_end (region_start region) places ≤ region_start region + least + 2 * spent

-- what shares and recipes may take before anything was spent
abbrev pub least_shares : ℕ
least_shares = 8589934592

abbrev pub least_recipes : ℕ
least_recipes = 1073741824

-- both areas
pub record BothHaveRoom (region : ℕ) (list : List Command) (records : List Body) : Type 0 where
  pub shares : HaveRoom region least_shares (spent_by_all list).shares (places_of (shares_in records))
  pub recipes : HaveRoom region least_recipes (spent_by_all list).recipes (recipes_in records)
