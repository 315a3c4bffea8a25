-- What cloud_disk has proved, for callers.
pub use Rattle.cloud_disk.proofs.Blobs
pub use Rattle.cloud_disk.proofs.Grown
pub use Rattle.cloud_disk.proofs.Standing
