use Rattle.cd_edges.specs.declared.area.Area.TheVariants.{Recipes}
use Rattle.std.proofs.lemmas.Bool.{ne_eqb}
use Rattle.record_checks.specs.JournalStart.Spelling.{records_of, commands_of}
use Rattle.record_checks.specs.CloudAreas.Standing.{region_in}
use Rattle.record_laws.proofs.Chain.{all_left, left_ends, left_bounds, left_stands}
use Rattle.record_laws.proofs.laws.law_of_chains.Goals as goal

pub returns : goal.returns
returns c = record {
  left = λ header image list c may h.
      all_left header.format header.shape header.cloud.0 header.rooms (region_in c) (records_of c.start.checkpoint) (commands_of c.start.checkpoint) (image Recipes)
      (ne_eqb header.format 1 may.format) may.rooms c.records list c.recipes h.says may.sound may.within h.long h.recipes;
  ends = λ header image list c m h left. left_ends header.shape (image Recipes) header.rooms.users (region_in c) list c.records m left h.rooms;
  bounds = λ header image list c m may h left. left_bounds header image list c may.within h m left;
  stand = λ header image list c m h left. left_stands header image list c h m left;
}
