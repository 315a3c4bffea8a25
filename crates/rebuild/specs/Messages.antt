-- What messages says, for callers.
pub use Rattle.lane_steps.specs.Messages.reply
pub use Rattle.lane_steps.specs.Messages.request
