-- What file_index says, for callers.
pub use Rattle.record_laws.specs.FileIndex.Files
pub use Rattle.record_laws.specs.FileIndex.key
