-- What share_index says, for callers.
pub use Rattle.cloud_memory.specs.ShareIndex.Counts
pub use Rattle.cloud_memory.specs.ShareIndex.Emptied
pub use Rattle.cloud_memory.specs.ShareIndex.Order
pub use Rattle.cloud_memory.specs.ShareIndex.Shares
pub use Rattle.cloud_memory.specs.ShareIndex.SumBelow
pub use Rattle.cloud_memory.specs.ShareIndex.key
