-- What lane_steps has proved, for callers.
pub use Rattle.lane_steps.proofs.Reaching
pub use Rattle.lane_steps.proofs.Views
