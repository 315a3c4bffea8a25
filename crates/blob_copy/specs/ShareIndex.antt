-- What share_index says, for callers.
pub use Rattle.record_laws.specs.ShareIndex.Order
pub use Rattle.record_laws.specs.ShareIndex.Placed
pub use Rattle.record_laws.specs.ShareIndex.Shares
