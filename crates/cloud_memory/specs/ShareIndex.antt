-- What share_index says, for callers.
pub use Rattle.share_index.specs.Counts
pub use Rattle.share_index.specs.Emptied
pub use Rattle.share_index.specs.Order
pub use Rattle.share_index.specs.Placed
pub use Rattle.share_index.specs.Shares
pub use Rattle.share_index.specs.SumBelow
pub use Rattle.share_index.specs.declared.key
