-- What share_index says, for callers.
pub use Rattle.checkpoints.specs.ShareIndex.Order
pub use Rattle.checkpoints.specs.ShareIndex.Shares
pub use Rattle.checkpoints.specs.ShareIndex.key
