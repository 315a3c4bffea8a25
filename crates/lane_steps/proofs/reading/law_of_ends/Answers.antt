use Rattle.lane_steps.proofs.Measure.{falls}
use Rattle.lane_steps.proofs.reading.law_of_ends.Goals as goal

pub returns : goal.returns
returns c = falls
