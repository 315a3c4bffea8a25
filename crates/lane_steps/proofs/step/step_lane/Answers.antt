use Rattle.lane_steps.specs.Reached.{ForAll}
use Rattle.lane_steps.proofs.step.step_lane.Goals as goal

pub step_any-requires-clause-way : goal.step_any-requires-clause-way
step_any-requires-clause-way g c = ForAll c.requires.reached
