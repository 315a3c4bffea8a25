-- What lane_steps says, for callers.
pub use Rattle.rebuild.specs.LaneSteps.Runs
