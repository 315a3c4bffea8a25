-- What share_index says, for callers.
pub use Rattle.cloud_memory.specs.ShareIndex.Order
