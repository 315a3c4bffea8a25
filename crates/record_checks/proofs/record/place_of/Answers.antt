use Rattle.std.proofs.Common.{◌≤◌, sym, subst}
use Rattle.std.specs.Prelude.{MatchOption}
use Rattle.cloud_memory.specs.CdBase.Limits.{recipe_limit}
use Rattle.cloud_memory.specs.RecordBody.view.BodyView.{BodyView}
use Rattle.cloud_memory.specs.RecordBody.Seen.{seen}
use Rattle.cloud_memory.specs.CdBase.place.Place.{Place}
use Rattle.cloud_memory.specs.Rooms.{memory_of}
use Rattle.record_checks.specs.Checks.{NamesRecipePlace}
use Rattle.record_checks.proofs.record.place_of.Goals as goal

pub returns-in-Delete : goal.returns-in-Delete
returns-in-Delete c =
    let g = c.args.ground.now in
    let m = memory_of c.args.memory.now in
    subst (λ (v : BodyView). MatchOption c.delete_place.result ((place : Place) → ¬ (NamesRecipePlace g c.args.inside m (seen v) place)) (λ place. NamesRecipePlace g c.args.inside m (seen v) place × place.len ≤ recipe_limit))
    (sym c.in-Delete.is) (c.delete_place.ensures g c.args.inside)
