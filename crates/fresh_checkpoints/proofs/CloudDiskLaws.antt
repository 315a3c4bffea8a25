-- What cloud_disk has proved, for callers.
pub use Rattle.cloud_disk.proofs.Both
pub use Rattle.cloud_disk.proofs.Ends
pub use Rattle.cloud_disk.proofs.Holding
pub use Rattle.cloud_disk.proofs.Standing
