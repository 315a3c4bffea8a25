-- What subset_restore says, for callers.
pub use Rattle.subset_restore.specs.Ends
pub use Rattle.subset_restore.specs.Going
pub use Rattle.subset_restore.specs.Restored
pub use Rattle.subset_restore.specs.Subsets
pub use Rattle.subset_restore.specs.Tries
