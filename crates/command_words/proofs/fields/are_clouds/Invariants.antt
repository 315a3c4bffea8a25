use Rattle.std.proofs.Common.{length}
use Rattle.command_words.proofs.Judged.{SoFar}
use Rattle.command_words.proofs.fields.are_clouds.Given as goal

abbrev pub invariant-texts : goal.invariant-texts
invariant-texts l = SoFar l.shape l.word l.rest l.count l.least

abbrev pub decreases-texts : goal.decreases-texts
decreases-texts l = length l.rest
