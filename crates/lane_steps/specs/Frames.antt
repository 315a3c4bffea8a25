-- What frames says, for callers.
pub use Rattle.upload_job.specs.Frames.Frames
