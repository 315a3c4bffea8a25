-- What file_index says, for callers.
pub use Rattle.server_reads.specs.FileIndex.Files
pub use Rattle.server_reads.specs.FileIndex.key
