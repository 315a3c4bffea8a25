-- What container_log has proved, for callers.
pub use Rattle.container_log.proofs.Blobs
pub use Rattle.container_log.proofs.Laid
pub use Rattle.container_log.proofs.Least
pub use Rattle.container_log.proofs.Rooms
pub use Rattle.container_log.proofs.Staged
