-- What cloud_opening has proved, for callers.
pub use Rattle.blob_copy.proofs.CloudOpening.Current
pub use Rattle.blob_copy.proofs.CloudOpening.OneStart
