use Rattle.std.specs.Prelude.{[]}
use Rattle.std.proofs.Common.{sym, append-nil}
use Rattle.first_laws.proofs.Known.{front_few}
use Rattle.first_laws.proofs.Summed.{summed_left}
use Rattle.first_laws.proofs.laws.law_of_first_checkpoints.Goals as goal

pub returns : goal.returns
returns c = record {
  left = λ shape cloud users end area list records recipes sound within is long lie.
      summed_left shape cloud users end area list records recipes sound (front_few shape list within list [] (sym (append-nil list))) is long lie;
}
