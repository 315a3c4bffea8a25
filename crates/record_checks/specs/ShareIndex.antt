-- What share_index says, for callers.
pub use Rattle.cloud_memory.specs.ShareIndex.Order
pub use Rattle.cloud_memory.specs.ShareIndex.Placed
pub use Rattle.cloud_memory.specs.ShareIndex.Shares
pub use Rattle.cloud_memory.specs.ShareIndex.key
