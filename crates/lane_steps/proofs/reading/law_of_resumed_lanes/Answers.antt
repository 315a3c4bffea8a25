use Rattle.lane_steps.proofs.Resuming.{resumed_reached}
use Rattle.lane_steps.proofs.reading.law_of_resumed_lanes.Goals as goal

pub returns : goal.returns
returns c = resumed_reached
