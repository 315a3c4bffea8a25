-- The laws that an opening stands on, of lists and of records.
use Rattle.std.proofs.Common.{◌≡◌, ℕ, ◌≤◌, List, [], ◌∷◌, ◌++◌, length, take, drop}
use Rattle.cloud_disk.specs.CdEdges.area.Area.TheVariants.{Journal, Recipes}
use Rattle.cloud_disk.specs.CdEdges.Disk.{Image}
use Rattle.cloud_disk.specs.JournalStart.start.Header.{Header}
use Rattle.cloud_disk.specs.JournalHalves.Journals.{Where, HasChain}
use Rattle.cloud_disk.specs.RecordBody.Spelling.{Body, body_bytes, FitsBody}
use Rattle.cloud_disk.specs.CdBase.place.Place.{Place}
use Rattle.cloud_disk.specs.UserDedup.command.Command.{Command}
use Rattle.cloud_disk.specs.UserDedup.Cloud.{counted}
use Rattle.cloud_disk.specs.CloudAreas.Standing.{Chain, region_in, number_at, Holds, HasChainOf, StandsFor}
use Rattle.record_laws.specs.RecordChecks.CloudMemory.Memory.{Memory}
use Rattle.record_laws.specs.RecordChecks.CloudMemory.Steps.{begun}
use Rattle.record_laws.specs.RecordChecks.taking.Taking.{Taking}
use Rattle.record_laws.specs.RecordChecks.Noting.{IsNoted}
use Rattle.record_laws.specs.Leaving.{checkpoint_records, front_left}
use Rattle.record_laws.specs.Fronts.{marks_of, IsNextRecord, Wants, PassesWith}

pub record Laws : Type 0 where
  pub there : (header : Header) (image : Image) (list : List Command) (c : Chain) (before : List Body) (body : Body) (place : Place) → IsNextRecord header image list c before body → FitsBody body
      → Wants header image c before body place → PassesWith header image c before body (take place.len (drop place.at (image Recipes)))
  pub nowhere : (header : Header) (image : Image) (list : List Command) (c : Chain) (before : List Body) (body : Body) → IsNextRecord header image list c before body → FitsBody body
      → ((place : Place) → ¬ (Wants header image c before body place)) → PassesWith header image c before body []
  pub begun_is : (header : Header) (image : Image) (c : Chain) → front_left header image c [] ≡ begun header.rooms.users (region_in c)
  pub whole : (header : Header) (image : Image) (list : List Command) (c : Chain) → Holds header image list c → checkpoint_records c ≤ length c.records
  pub marked : (at : ℕ) (m : Memory) (old new : Taking) (before : List Body) (body : Body) → FitsBody body → old.spent ≡ marks_of before → IsNoted at (body_bytes body) m old new
      → new.spent ≡ marks_of (before ++ body ∷ [])
  pub number : (image : Image) (header : Header) (list : List Command) (w : Where) → StandsFor image header list → HasChain (image Journal) w → counted list ≡ number_at w
  pub chain_of : (image : Image) (header : Header) (list : List Command) (w : Where) → StandsFor image header list → HasChain (image Journal) w → HasChainOf image header list w
