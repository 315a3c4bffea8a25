use Rattle.lane_steps.specs.Reached.{ForAll}
use Rattle.lane_steps.proofs.finish.finish_lane.Goals as goal

pub finish_any-requires-clause-way : goal.finish_any-requires-clause-way
finish_any-requires-clause-way g c = ForAll c.requires.reached
