-- What subset_restore has proved, for callers.
pub use Rattle.subset_restore.proofs.Choices
pub use Rattle.subset_restore.proofs.Elements
pub use Rattle.subset_restore.proofs.Going
pub use Rattle.subset_restore.proofs.Standing
