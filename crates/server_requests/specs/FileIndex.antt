-- What file_index says, for callers.
pub use Rattle.server_commands.specs.FileIndex.Files
