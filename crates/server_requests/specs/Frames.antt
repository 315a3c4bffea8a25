-- What frames says, for callers.
pub use Rattle.server_commands.specs.Frames.Frames
