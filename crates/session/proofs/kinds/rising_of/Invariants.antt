use Rattle.std.proofs.Common.{◌≡◌, length}
use Rattle.std.specs.List.Sorted.{IsStrictlyIncreasing}
use Rattle.journal_start.specs.Grammar.Words.{keep}
use Rattle.session.specs.Reading.{rises, listed}
use Rattle.session.proofs.CloudTexts.{goes_rising}
use Rattle.session.proofs.kinds.rising_of.Given as goal

abbrev pub invariant-texts : goal.invariant-texts
invariant-texts l = record {
  rising : IsStrictlyIncreasing l.out;
  so_far : goes_rising l.shape l.out l.rest ≡ keep rises (listed l.shape l.word);
}

abbrev pub decreases-texts : goal.decreases-texts
decreases-texts l = length l.rest
