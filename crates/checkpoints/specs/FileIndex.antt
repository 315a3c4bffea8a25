-- What file_index says, for callers.
pub use Rattle.cloud_memory.specs.FileIndex.Files
pub use Rattle.cloud_memory.specs.FileIndex.Order
pub use Rattle.cloud_memory.specs.FileIndex.key
