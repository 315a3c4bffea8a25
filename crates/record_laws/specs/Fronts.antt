-- A chain's records so far, and what an opening knows and has noted then.
use Rattle.std.specs.Prelude.{◌≡◌, ℕ, Bool, true, false, List, [], ◌∷◌, ◌++◌, length, map, fold, nat_lt, replicate, slice_set, Ok}
use Rattle.cd_edges.specs.declared.area.Area.TheVariants.{Shares, Recipes}
use Rattle.cd_edges.specs.Disk.{Image}
use Rattle.record_checks.specs.JournalStart.start.Header.{Header}
use Rattle.record_checks.specs.RecordBody.Spelling as bodies
use Rattle.record_checks.specs.RecordBody.Spelling.{Body, body_bytes}
use Rattle.record_checks.specs.UserDedup.command.Command.{Command}
use Rattle.record_checks.specs.CloudAreas.Standing.{Chain, region_in, Holds}
use Rattle.cd_edges.specs.CdBase.place.Place.{Place}
use Rattle.record_checks.specs.Checks.{AsksFor}
use Rattle.record_checks.specs.Judging.{Judges}
use Rattle.record_checks.specs.declared.ground.Ground.{Ground}
use Rattle.record_laws.specs.Leaving.{MayHold, checkpoint_records, front_left}

-- what an opening knows before the records of a chain, where the areas have these bytes
abbrev pub ground_of : Header → Image → Chain → Ground
ground_of header image c = record {
  shape = header.shape;
  rooms = header.rooms;
  region = region_in c;
  shares_len = length (image Shares);
  recipes_len = length (image Recipes);
}

-- the record behind these is one of the checkpoint's
abbrev pub is_inside : Chain → List Body → Bool
is_inside c before = nat_lt (length before) (checkpoint_records c)

-- which users have a Spent among records, by marks
abbrev pub marked : List Bool → Body → List Bool
marked marks (bodies.Put user items) = marks
marked marks (bodies.Commit commit) = marks
marked marks (bodies.Delete delete) = marks
marked marks (bodies.Kept items) = marks
marked marks (bodies.Spent s) = slice_set marks s.user.0 true

abbrev pub marks_of : List Body → List Bool
marks_of records = fold marked (replicate 256 false) records

-- The chain of the image holds a list that a server with the header may hold, and this is its record behind these.
pub record IsNextRecord (header : Header) (image : Image) (list : List Command) (c : Chain) (before : List Body) (body : Body) : Type 0 where
  pub may : MayHold header list
  pub holds : Holds header image list c
  pub after : List Body
  pub whole : c.records ≡ before ++ body ∷ after

-- The record's checks want to know what lies at this place of Recipes.
abbrev pub Wants : Header → Image → Chain → List Body → Body → Place → Type 0
Wants header image c before body place =
    AsksFor (ground_of header image c) (is_inside c before) (front_left header image c before) (body_bytes body) place

-- With these bytes read for it the record passes its checks, wherever it stands in the journal, and leaves what the chain does up to it.
abbrev pub PassesWith : Header → Image → Chain → List Body → Body → List ℕ → Type 0
PassesWith header image c before body read = (at : ℕ)
    → Judges (ground_of header image c) (is_inside c before) read (marks_of before) (front_left header image c before) at (body_bytes body)
    (Ok (front_left header image c (before ++ body ∷ [])))

-- One of the records has these bytes, behind records that have those.
pub record StandsBehind (records : List Body) (bodies : List (List ℕ)) (bytes : List ℕ) : Type 0 where
  pub before : List Body
  pub body : Body
  pub after : List Body
  pub whole : records ≡ before ++ body ∷ after
  pub before_are : map body_bytes before ≡ bodies
  pub here : body_bytes body ≡ bytes
