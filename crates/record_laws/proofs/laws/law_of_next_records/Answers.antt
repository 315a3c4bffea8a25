use Rattle.std.specs.Prelude.{[], ◌∷◌}
use Rattle.cd_edges.specs.declared.area.Area.TheVariants.{Recipes}
use Rattle.record_checks.proofs.UserDedup.Spending.{front_within}
use Rattle.record_laws.proofs.Known.{few_files, known_user}
use Rattle.record_laws.proofs.Next.{next_left}
use Rattle.record_laws.proofs.laws.law_of_next_records.Goals as goal

pub returns : goal.returns
returns c = record {
  left = λ header image region list records m command body laid may left is lie.
      next_left header.shape (image Recipes) header.rooms.users region list records m left header.cloud.0 command body laid is may.sound
      (known_user header.shape header.rooms header.cloud.0 list command may.sound may.within)
      (few_files header.shape header.rooms list (front_within header.shape header.rooms list (command ∷ []) may.within) may.rooms) lie;
}
