-- What cloud_opening has proved, for callers.
pub use Rattle.cloud_store.proofs.CloudOpening.Bounds
pub use Rattle.cloud_store.proofs.CloudOpening.Current
pub use Rattle.cloud_store.proofs.CloudOpening.DiskProofs
pub use Rattle.cloud_store.proofs.CloudOpening.OneStart
