-- What lane_steps says, for callers.
pub use Rattle.lane_steps.specs.Runs
