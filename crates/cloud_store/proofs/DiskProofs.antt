-- What cloud_disk has proved, for callers.
pub use Rattle.checkpoints.proofs.DiskProofs.Standing
