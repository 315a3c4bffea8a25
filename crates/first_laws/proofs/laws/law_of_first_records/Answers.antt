use Rattle.std.specs.Prelude.{[], ◌∷◌, ◌++◌}
use Rattle.std.proofs.Common.{refl}
use Rattle.first_laws.proofs.Known.{front_few}
use Rattle.first_laws.proofs.Later.{later_left}
use Rattle.first_laws.proofs.laws.law_of_first_records.Goals as goal

pub returns : goal.returns
returns c = record {
  left = λ shape cloud end area list records m command body laid sound within one is lie.
      later_left shape cloud end area list records m command body laid sound (front_few shape (list ++ command ∷ []) within list (command ∷ []) refl) one is lie;
}
