-- What cloud_opening has proved, for callers.
pub use Rattle.cloud_opening.proofs.Bounds
pub use Rattle.cloud_opening.proofs.Current
pub use Rattle.cloud_opening.proofs.DiskProofs
pub use Rattle.cloud_opening.proofs.OneStart
pub use Rattle.cloud_opening.proofs.Spends
