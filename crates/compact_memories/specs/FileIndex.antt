-- What file_index says, for callers.
pub use Rattle.checkpoints.specs.FileIndex.Files
pub use Rattle.checkpoints.specs.FileIndex.Order
pub use Rattle.checkpoints.specs.FileIndex.key
