-- What cloud_disk has proved, for callers.
pub use Rattle.cloud_disk.proofs.Standing
