-- What frames says, for callers.
pub use Rattle.frames.specs.Found
pub use Rattle.frames.specs.Frames
pub use Rattle.frames.specs.Steps
