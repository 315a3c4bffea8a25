-- What frames says, for callers.
pub use Rattle.server_requests.specs.Frames.Frames
