-- A record of a chain of format 1 that comes next, and that it is taken.
use Rattle.std.specs.Prelude.{◌≡◌, ℕ, List, [], ◌∷◌, ◌++◌, length, Ok}
use Rattle.journal_halves.specs.CdBase.place.Place.{Place}
use Rattle.journal_halves.specs.CdEdges.area.Area.TheVariants.{Shares, Recipes}
use Rattle.journal_halves.specs.CdEdges.Disk.{Image}
use Rattle.journal_halves.specs.JournalStart.start.Header.{Header}
use Rattle.first_records.specs.RecordBody.Spelling.{Body, body_bytes}
use Rattle.compact_memories.specs.UserDedup.command.Command.{Command}
use Rattle.compact_memories.specs.CloudAreas.FormatOne.{Lays}
use Rattle.compact_memories.specs.CloudAreas.Standing.{Chain}
use Rattle.record_laws.specs.RecordChecks.Checks.{AsksFor}
use Rattle.record_laws.specs.RecordChecks.ground.Ground.{Ground}
use Rattle.record_laws.specs.Fronts.{is_inside}
use Rattle.first_records.specs.Judging.{JudgesFirst}
use Rattle.first_laws.specs.Holding.{MayHoldOne, front_left_one}

-- what is known of a store of format 1 before its records, where the areas have these bytes
abbrev pub ground_one : Header → Image → Ground
ground_one header image = record {
  shape = header.shape;
  rooms = header.rooms;
  region = 0;
  shares_len = length (image Shares);
  recipes_len = length (image Recipes);
}

-- The chain lays a list that a store of format 1 may hold, and this is its record behind these.
pub record IsNextOne (header : Header) (image : Image) (list : List Command) (c : Chain) (before : List Body) (body : Body) : Type 0 where
  pub may : MayHoldOne header list
  pub lays : Lays header image list c
  pub after : List Body
  pub whole : c.records ≡ before ++ body ∷ after

-- The record's checks want to know what lies at this place of Recipes.
abbrev pub WantsOne : Header → Image → ℕ → Chain → List Body → Body → Place → Type 0
WantsOne header image users c before body place =
    AsksFor (ground_one header image) (is_inside c before) (front_left_one header image users c before) (body_bytes body) place

-- With these bytes read for it the record is taken, wherever it stands in the journal, and leaves what the chain does up to it.
abbrev pub PassesOne : Header → Image → ℕ → Chain → List Body → Body → List ℕ → Type 0
PassesOne header image users c before body read = (at : ℕ)
    → JudgesFirst (ground_one header image) (is_inside c before) read (front_left_one header image users c before) at (body_bytes body)
    (Ok (front_left_one header image users c (before ++ body ∷ [])))
