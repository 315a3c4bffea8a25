-- What frames says, for callers.
pub use Rattle.server_reads.specs.Frames.Frames
