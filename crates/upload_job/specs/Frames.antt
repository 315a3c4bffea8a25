-- What frames says, for callers.
pub use Rattle.user_dedup.specs.Frames.Frames
