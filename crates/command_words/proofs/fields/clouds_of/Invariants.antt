use Rattle.std.proofs.Common.{◌≡◌, length}
use Rattle.std.specs.Prelude.{nat_le}
use Rattle.std.specs.List.Sorted.{IsStrictlyIncreasing}
use Rattle.session.specs.Reading.{sources}
use Rattle.session.proofs.CloudTexts.{goes_by}
use Rattle.command_words.proofs.fields.clouds_of.Given as goal

abbrev pub invariant-texts : goal.invariant-texts
invariant-texts l = record {
  rising : IsStrictlyIncreasing l.out;
  so_far : goes_by (nat_le l.shape.k) l.shape l.out l.rest ≡ sources l.shape l.word;
}

abbrev pub decreases-texts : goal.decreases-texts
decreases-texts l = length l.rest
