-- What frames says, for callers.
pub use Rattle.user_dedup.specs.Frames.Found
pub use Rattle.user_dedup.specs.Frames.Frames
pub use Rattle.user_dedup.specs.Frames.Steps
