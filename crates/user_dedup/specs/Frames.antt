-- What frames says, for callers.
pub use Rattle.messages.specs.Frames.Found
pub use Rattle.messages.specs.Frames.Frames
pub use Rattle.messages.specs.Frames.Steps
