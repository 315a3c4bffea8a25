-- What lane_steps says, for callers.
pub use Rattle.lane_steps.specs.Reached
pub use Rattle.lane_steps.specs.Runs
pub use Rattle.lane_steps.specs.declared.error
