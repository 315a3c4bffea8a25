use Rattle.std.proofs.Common.{refl}
use Rattle.checkpoints.proofs.Unmarked.{unmarked}
use Rattle.checkpoints.proofs.marks.Marks.make.Goals as goal

pub returns : goal.returns
returns c = unmarked c.in_ok-marks.marks.items 524288 c.in_ok-marks.ensures refl

pub invariant_of-result : goal.invariant_of-result
invariant_of-result c = (unmarked c.in_ok-marks.marks.items 524288 c.in_ok-marks.ensures refl).long
