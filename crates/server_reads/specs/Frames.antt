-- What frames says, for callers.
pub use Rattle.messages.specs.Frames.Frames
