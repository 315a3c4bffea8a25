-- A checkpoint in the place of the chain that it sums up.
use Rattle.std.specs.Prelude.{◌≡◌, List, length, All}
use Rattle.std.specs.List.{Contains}
use Rattle.user_dedup.specs.CdBase.ids.Fp.{Fp}
use Rattle.journal_halves.specs.CdEdges.area.Area.TheVariants.{Recipes}
use Rattle.journal_halves.specs.CdEdges.Disk.{Image}
use Rattle.journal_halves.specs.JournalStart.start.Header.{Header}
use Rattle.journal_halves.specs.JournalStart.Spelling.{commands_of, records_of}
use Rattle.container_log.specs.Laying.{IsAt}
use Rattle.record_body.specs.declared.body.CommitBody.{CommitBody}
use Rattle.record_body.specs.Spelling.{Commit}
use Rattle.user_dedup.specs.CdBase.place.Place.{Place}
use Rattle.user_dedup.specs.declared.command.Command.{Command}
use Rattle.user_dedup.specs.Cloud.{counted}
use Rattle.cloud_areas.specs.Placing.{shares_in}
use Rattle.cloud_areas.specs.Checkpoints.{IsCheckpointOfList}
use Rattle.cloud_areas.specs.Standing.{Chain, region_in}

-- The chain is a checkpoint of a list that another chain says, and no more. It finds all shares where that one places them, its Commits are
-- some of that one's, and the recipes that they place lie in the area.
pub record SumsUp (header : Header) (image : Image) (list : List Command) (old c : Chain) : Type 0 where
  pub is_checkpoint : IsCheckpointOfList header.format header.shape list c.records c.recipes
  pub records : length c.records ≡ records_of c.start.checkpoint
  pub commands : counted list ≡ commands_of c.start.checkpoint
  pub region : region_in c ≡ region_in old
  pub shares : (x : Fp × Place) → Contains (shares_in c.records) x → Contains (shares_in old.records) x
  pub commits : (commit : CommitBody) → Contains c.records (Commit commit) → Contains old.records (Commit commit)
  pub recipes : All (IsAt (image Recipes)) c.recipes
