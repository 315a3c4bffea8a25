use Rattle.cd_edges.specs.declared.area.Area.TheVariants.{Recipes}
use Rattle.std.proofs.lemmas.Bool.{ne_eqb}
use Rattle.record_laws.proofs.Checkpoint.{checkpoint_left}
use Rattle.record_laws.proofs.Known.{few_files, known_spent}
use Rattle.record_laws.proofs.laws.law_of_checkpoint_records.Goals as goal

pub returns : goal.returns
returns c = record {
  left = λ header image region list records recipes may is long lie.
      checkpoint_left header.format header.shape header.cloud.0 list records recipes header.rooms.users region (image Recipes) (ne_eqb header.format 1 may.format)
      may.sound is long lie (known_spent header.shape header.rooms list may.within) (few_files header.shape header.rooms list may.within may.rooms);
}
