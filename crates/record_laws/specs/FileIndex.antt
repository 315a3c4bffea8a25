-- What file_index says, for callers.
pub use Rattle.record_checks.specs.FileIndex.Files
pub use Rattle.record_checks.specs.FileIndex.key
