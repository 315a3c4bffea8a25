-- What share_index says, for callers.
pub use Rattle.record_checks.specs.ShareIndex.Order
pub use Rattle.record_checks.specs.ShareIndex.Placed
pub use Rattle.record_checks.specs.ShareIndex.Shares
